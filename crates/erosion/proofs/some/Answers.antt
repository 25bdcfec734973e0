-- `erosion::some` meets its contract: no digit in any of the four words. Assumes nothing.
use mathlib.Core.Path.{◌≡◌}
use lib.ListN.{length}
use borrow.Author.Tests.{eqb-true, not-false}
use Rattle.erosion.proofs.Shifts.{columns-none}
use borrow.Author.Rules.{rules}
use Rattle.erosion.proofs.some.Goals as goal

pub returns : goal.returns
returns c = λ e.
    let z : length c.args.x ≡ 4 = search rules in
    columns-none c.args.x z (eqb-true _ 0 (not-false _ e))
