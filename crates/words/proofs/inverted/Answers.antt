-- `words::inverted` meets its contract: each digit of the four words the other way round. Assumes nothing.
use Prim.Native.Nat.{ℕ}
use lib.ListN.{get_or}
use mir.Syntax.{w64}
use mir.Val.{Fits}
use borrow.Author.Rules.{rules}
use Rattle.words.proofs.Columns.{column-not}
use Rattle.words.proofs.inverted.Goals as goal

pub returns : goal.returns
returns c =
    let word : (k : ℕ) → Fits w64 (get_or c.args.words k 0) = λ k. search rules in
    column-not c.args.words (λ k. (word k).fits)
