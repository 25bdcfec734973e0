-- `tasks::may_begin` meets its contract: the columns before it are a multiple of the grid. Assumes nothing.
use mathlib.Core.Path.{◌≡◌, sym, ap, ◌∙◌}
use native.Mathlib.Omega.{arith}
use Rattle.lists.proofs.Bools.{is_true}
use Rattle.tasks.specs.Numbers.{multiple, may_begin}
use Rattle.tasks.proofs.Grid.{multiple-zero}
use Rattle.tasks.proofs.may_begin.Goals as goal

pub returns-then-column-eq0 : goal.returns-then-column-eq0
unfolding may_begin
returns-then-column-eq0 c =
    let a = c.args in
    let z : a.column ≡ 0 = omega arith in
    sym (ap (λ n. may_begin a.grid n) z ∙ is_true (multiple a.grid 0) (multiple-zero a.grid))

pub returns : goal.returns
unfolding may_begin
returns c = c.is_multiple.ensures
