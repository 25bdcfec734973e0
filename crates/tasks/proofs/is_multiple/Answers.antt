-- `tasks::is_multiple` meets its contract: the grids 0 and 1 by their laws, the others by the remainder. Assumes nothing.
use mathlib.Core.Path.{◌≡◌, sym, ap, ◌∙◌}
use native.Mathlib.Omega.{arith}
use Rattle.tasks.specs.Numbers.{multiple}
use Rattle.tasks.proofs.Grid.{multiple-one, multiple-none}
use Rattle.tasks.proofs.is_multiple.Goals as goal

pub returns-then-grid-eq1 : goal.returns-then-grid-eq1
returns-then-grid-eq1 c = let z : c.args.grid ≡ 1 = omega arith in sym (ap (λ g. multiple g c.args.n) z ∙ multiple-one c.args.n)

pub returns-then-grid-eq0 : goal.returns-then-grid-eq0
returns-then-grid-eq0 c = let a = c.args in let z : a.grid ≡ 0 = omega arith in sym (ap (λ g. multiple g a.n) z ∙ multiple-none a.n)

pub returns : goal.returns
unfolding multiple
returns c = rw c.from.ensures
