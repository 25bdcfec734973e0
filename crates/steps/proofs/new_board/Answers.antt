-- `steps::new_board` meets its contract: no task is left, and the device is new. Assumes nothing.
use mathlib.Core.Path.{sym, ◌∙◌}
use Rattle.steps.proofs.Steps.{step-new, step-zero}
use Rattle.steps.proofs.new_board.Goals as goal

pub returns-then-device_fits : goal.returns-then-device_fits
returns-then-device_fits c = λ ks k.
    let a = c.args in
    rw c.empty.ensures (step-new a.d ks k a.columns a.rows a.grid (sym c.device_fits.ensures ∙ c.if-device_fits.true))

pub returns : goal.returns
returns c = λ ks k.
    let a = c.args in
    rw (c.empty-2.ensures, c.from.ensures) (step-zero a.d ks k a.columns a.rows a.grid (sym c.device_fits.ensures ∙ c.if-device_fits.false))
