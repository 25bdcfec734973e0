-- `steps::submit` meets its contract: 1, as is decided, and a task that is placed stands in the table. Assumes nothing.
use mathlib.Core.Path.{sym, ◌∙◌}
use native.Mathlib.Omega.{arith}
use mir.Syntax.{w32}
use mir.Val.{Fits}
use borrow.Author.Rules.{rules}
use Rattle.live.proofs.InUse.{free-lowest}
use Rattle.board.proofs.Placed.{rejected-places, refused-places}
use Rattle.steps.proofs.Steps.{told-rejected, told-refused, step_same, unsound-submit, step-unplaced, books, task-fits, has_room, step-placed}
use Rattle.steps.proofs.submit.Goals as goal

pub returns-in_default : goal.returns-in_default
returns-in_default c = λ ks k.
    let a = c.args in
    rw (c.bare.ensures, c.from.ensures) (step_same a.d ks k _ 1 (unsound-submit a.d ks k c.in_default.is a.planner a.a))

pub decide-answer-requires : goal.decide-answer-requires
decide-answer-requires c =
    let k = c.requires.keeps in
    let u = c.in-Some.is in
    record { slots = c.requires.tasks; kept = k.kept _ u; lowest = free-lowest k.slots (k.used _ u) c.lowest_free-free.ensures; masked = λ x y. k.masked _ u }

pub insert-requires : goal.insert-requires
insert-requires c =
    let a = c.args in
    let k = c.requires.keeps in
    let u = c.in-Some.is in
    let l = free-lowest k.slots (k.used _ u) c.lowest_free-free.ensures in
    let q = sym c.in-Placed.is ∙ c.decide-answer.ensures c.requires.tasks (k.kept _ u) l in (
      has_room a.d c.requires.tasks k _ u a.planner a.a _ _ _ _ l q,
      (books a.d c.requires.tasks k _ u a.planner a.a _ _ _ _ l q).inside,
      task-fits a.d c.requires.tasks k _ u a.planner a.a _ _ _ _ l q _ c.booked-task.ensures,
      k.size,
      k.wide,
      (k.kept _ u).falling,
    )

pub with_slot-requires : goal.with_slot-requires
with_slot-requires c =
    let a = c.args in
    let k = c.requires.keeps in
    let u = c.in-Some.is in
    let l = free-lowest k.slots (k.used _ u) c.lowest_free-free.ensures in
    let q = sym c.in-Placed.is ∙ c.decide-answer.ensures c.requires.tasks (k.kept _ u) l in
    (books a.d c.requires.tasks k _ u a.planner a.a _ _ _ _ l q).inside

pub returns-in-Rejected : goal.returns-in-Rejected
returns-in-Rejected c = λ ks k.
    let a = c.args in
    let u = c.in-Some.is in
    let l = free-lowest k.slots (k.used _ u) c.lowest_free-free.ensures in
    let q = sym c.in-Rejected.is ∙ c.decide-answer.ensures ks (k.kept _ u) l in
    rw c.bare-in-Rejected.ensures (step_same a.d ks k _ 10 (step-unplaced a.d ks k _ u a.planner a.a _ 10 q rejected-places told-rejected))

pub returns-in-Refused : goal.returns-in-Refused
returns-in-Refused c = λ ks k.
    let a = c.args in
    let u = c.in-Some.is in
    let l = free-lowest k.slots (k.used _ u) c.lowest_free-free.ensures in
    let q = sym c.in-Refused.is ∙ c.decide-answer.ensures ks (k.kept _ u) l in
    rw c.bare-in-Refused.ensures
    (step_same a.d ks k _ _ (step-unplaced a.d ks k _ u a.planner a.a _ _ q (refused-places _) (told-refused _)))

pub returns-in-Placed : goal.returns-in-Placed
returns-in-Placed c =
    let id-fits : Fits w32 c.args.a.id = search rules in
    λ ks k.
    let a = c.args in
    let u = c.in-Some.is in
    let l = free-lowest k.slots (k.used _ u) c.lowest_free-free.ensures in
    let q = sym c.in-Placed.is ∙ c.decide-answer.ensures ks (k.kept _ u) l in
    step-placed a.d ks k _ u a.planner a.a _ _ _ _ l q (omega (arith, id-fits.fits)) _ c.booked-task.ensures
    c.insert.ensures _ c.with_slot.ensures
