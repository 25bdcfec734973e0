-- `erosion::shifted` meets its contract: each word slid, the next one coming in. Assumes nothing.
use mathlib.Core.Path.{◌≡◌}
use native.Mathlib.Omega.{arith}
use lib.ListN.{length}
use Rattle.erosion.proofs.Shifts.{columns-slid}
use borrow.Author.Rules.{rules}
use Rattle.erosion.proofs.shifted.Goals as goal

pub returns : goal.returns
returns c =
    let a = c.args in
    let z : length a.x ≡ 4 = search rules in
    columns-slid a.x a.s _ _ _ _ z (omega arith) c.slid.ensures c.slid-2.ensures c.slid-3.ensures c.slid-4.ensures
