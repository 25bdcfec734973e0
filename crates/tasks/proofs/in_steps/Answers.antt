-- `tasks::in_steps` meets its contract: with a grid of 1 both hold, with another each is tested. Assumes nothing.
use mathlib.Core.Path.{◌≡◌, sym, ap, ap₂, ◌∙◌}
use mathlib.Core.Bool.{◌&&◌}
use native.Mathlib.Omega.{arith}
use Rattle.tasks.specs.Numbers.{multiple, may_begin}
use Rattle.tasks.proofs.Grid.{multiple-one, begin-one}
use Rattle.tasks.proofs.in_steps.Goals as goal

pub returns-then-grid-eq1 : goal.returns-then-grid-eq1
returns-then-grid-eq1 c =
    let a = c.args in
    let z : a.grid ≡ 1 = omega arith in
    sym (ap (λ g. multiple g a.w && may_begin g a.column) z ∙ ap₂ (λ p q. p && q) (multiple-one a.w) (begin-one a.column))
