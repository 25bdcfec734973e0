-- `words::span` meets its contract: a run of ones, or none. Assumes nothing.
use mathlib.Core.Path.{◌≡◌, refl, sym, ◌∙◌}
use mathlib.Core.Bool.{Bool, true, false, ◌&&◌}
use Prim.Native.Nat.{ℕ, ◌≤◌}
use native.Mathlib.Omega.{arith}
use lib.Dec.{leb, ltb}
use borrow.Author.Tests.{leb-true, le-ltb}
use Rattle.words.proofs.Digits.{bit-span-word, bit-of-zero}
use Rattle.words.proofs.span.Goals as goal

empty : (a b j : ℕ) → b ≤ a → (t : Bool) → leb a j ≡ t → (t && ltb j b) ≡ false
empty a b j h true e = let l : a ≤ j = leb-true a j e in le-ltb j b (omega arith)
empty a b j h false e = refl

pub returns-then-from-to : goal.returns-then-from-to
returns-then-from-to c = λ j. bit-span-word c.args.from c.args.to j (omega arith) (omega arith)

pub returns-else-from-to : goal.returns-else-from-to
returns-else-from-to c = λ j. bit-of-zero j ∙ sym (empty c.args.from c.args.to j (omega arith) (leb c.args.from j) refl)
