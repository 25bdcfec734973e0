-- `Board::clock` meets its contract: an unsound board is refused, a sound one by 11 and 12, or aged to the instant. Assumes nothing.
use mathlib.Core.Path.{refl, sym, ap, ◌∙◌}
use mathlib.Core.Bool.{not}
use borrow.Author.Tests.{not-true, not-false}
use Rattle.refusals.proofs.First.{is_told}
use Rattle.board.specs.Calls.{board_at}
use Rattle.board.proofs.Tested.{clocked-unsound, clocked-refused, clocked-moved}
use Rattle.board.proofs.Board.clock.Goals as goal

pub returns-then-not-is_sound : goal.returns-then-not-is_sound
returns-then-not-is_sound c = rw c.from.ensures (sym (clocked-unsound _ _ (sym c.is_sound.ensures ∙ not-true _ (ap not c.if-not-is_sound.true))))

pub returns-in-Err : goal.returns-in-Err
returns-in-Err c =
    let good = sym c.is_sound.ensures ∙ not-false _ (ap not c.if-not-is_sound.false) in
    rw c.from-in-Err.ensures (sym (clocked-refused _ _ good c.in-Err.ensures (is_told _)))

pub returns : goal.returns
unfolding board_at
returns c =
    let good = sym c.is_sound.ensures ∙ not-false _ (ap not c.if-not-is_sound.false) in
    rw c.all_aged.ensures (sym (clocked-moved _ _ good c.in_default.ensures refl))
