-- `words::marked` meets its contract: each of the four words has its share of the range. Assumes nothing.
use Prim.Native.Nat.{ℕ}
use mathlib.Core.Bool.{Bool, ◌&&◌}
use lib.Dec.{leb, ltb}
use Rattle.words.proofs.Columns.{column-or}
use Rattle.words.proofs.marked.Goals as goal

pub returns : goal.returns
returns c =
    let a = c.args in
    let range : ℕ → Bool = λ x. leb a.first x && ltb x a.past in
    column-or a.words range _ _ _ _ c.share.ensures c.share-2.ensures c.share-3.ensures c.share-4.ensures
