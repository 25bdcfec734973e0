-- `steps::clock` meets its contract: 1, 11, 12, or the tasks that have finished are gone. Assumes nothing.
use mathlib.Core.Path.{refl}
use Rattle.refusals.proofs.First.{is_told}
use Rattle.steps.proofs.Steps.{step_same, unsound-clock, clock-refused, clock-allowed, step-clock}
use Rattle.steps.proofs.clock.Goals as goal

pub returns-in_default : goal.returns-in_default
returns-in_default c = λ ks k.
    let a = c.args in
    rw (c.bare.ensures, c.from.ensures) (step_same a.d ks k _ 1 (unsound-clock a.d ks k c.in_default.is a.instant))

pub returns-in-Err : goal.returns-in-Err
returns-in-Err c = λ ks k.
    let a = c.args in
    rw (c.bare-in-Err.ensures, c.from-in-Err.ensures)
    (step_same a.d ks k _ _ (clock-refused a.d ks k _ c.in-Some.is a.instant c.in-Err.ensures (is_told _)))

pub returns : goal.returns
returns c = λ ks k.
    let a = c.args in
    let w = clock-allowed a.d ks k _ c.in-Some.is a.instant c.in_default-refuse_instant.ensures refl in
    rw c.bare-2.ensures
    (step-clock a.d ks k _ c.in-Some.is a.instant w.0 w.1 c.after-count.ensures _ c.without_slots-used.ensures)
