-- `erosion::both` meets its contract: the words met one by one. Assumes nothing.
use mathlib.Core.Path.{◌≡◌}
use lib.ListN.{length}
use Rattle.erosion.proofs.Shifts.{columns-both}
use borrow.Author.Rules.{rules}
use Rattle.erosion.proofs.both.Goals as goal

pub returns : goal.returns
returns c =
    let a = c.args in
    let z : length a.x ≡ 4 = search rules in
    columns-both a.x a.y z
