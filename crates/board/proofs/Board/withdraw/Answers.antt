-- `Board::withdraw` meets its contract: an unsound board is refused, a sound one by 13 and 14, or the task's slot is free. Assumes nothing.
use mathlib.Core.Path.{◌≡◌, refl, sym, ap, ◌∙◌}
use mathlib.Core.Bool.{not}
use borrow.Author.Tests.{not-true, not-false}
use Rattle.std.proofs.Common.{Some}
use Rattle.refusals.proofs.First.{is_told}
use Rattle.board.proofs.Tested.{Asked, asked-there, asked-nowhere, place-is, place-nowhere, withdrawn-unsound, withdrawn-refused, withdrawn-known, withdrawn-freed}
use Rattle.board.proofs.Board.withdraw.Goals as goal
use Rattle.board.proofs.Board.withdraw.Goals.{in-Some, in-None}

pub returns-then-not-is_sound : goal.returns-then-not-is_sound
returns-then-not-is_sound c = rw c.from.ensures (sym (withdrawn-unsound _ _ (sym c.is_sound.ensures ∙ not-true _ (ap not c.if-not-is_sound.true))))

pub returns-in-Err : goal.returns-in-Err
returns-in-Err c =
    let good = sym c.is_sound.ensures ∙ not-false _ (ap not c.if-not-is_sound.false) in
    let at = c.slot_named-found.ensures in
    let asked : Asked c.args.self.tasks c.args.id c.is_some.result c.match-found.begun = elim c.match-found.branch [
      | in-Some w ↦ rw (c.is_some.ensures, w.found-is, w.begun-is, w.is_waiting.ensures) (asked-there _ _ _ good (sym w.in-Some.is ∙ at))
      | in-None w ↦ rw (c.is_some.ensures, w.found-is, w.in-None.is) (asked-nowhere _ _ _ (place-nowhere c.args.self _ (sym w.in-None.is ∙ at)))
    ] in
    rw c.from-in-Err.ensures (sym (withdrawn-refused _ _ good asked c.in-Err.ensures (is_told _)))

pub unwrap-slot-requires : goal.unwrap-slot-requires
unwrap-slot-requires c = sym c.is_some.ensures ∙ withdrawn-known _ _ c.in_default.ensures refl

pub returns : goal.returns
returns c =
    let good = sym c.is_sound.ensures ∙ not-false _ (ap not c.if-not-is_sound.false) in
    let at = c.slot_named-found.ensures in
    let asked : Asked c.args.self.tasks c.args.id c.is_some.result c.match-found.begun = elim c.match-found.branch [
      | in-Some w ↦ rw (c.is_some.ensures, w.found-is, w.begun-is, w.is_waiting.ensures) (asked-there _ _ _ good (sym w.in-Some.is ∙ at))
      | in-None w ↦ rw (c.is_some.ensures, w.found-is, w.in-None.is) (asked-nowhere _ _ _ (place-nowhere c.args.self _ (sym w.in-None.is ∙ at)))
    ] in
    let slot : Some c.unwrap-slot.result ≡ c.slot_named-found.result = elim c.match-found.branch [
      | in-Some w ↦ sym c.unwrap-slot.ensures ∙ w.found-is ∙ sym w.in-Some.is
      | in-None w ↦ sym c.unwrap-slot.ensures ∙ w.found-is
    ] in
    rw c.free_slot.ensures (sym (withdrawn-freed _ _ good asked c.in_default.ensures (place-is _ _ _ good (slot ∙ at)) refl))
