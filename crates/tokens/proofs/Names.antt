-- Two words byte by byte, and a word with no byte, by the library's words. Assumes nothing.
use Prim.Native.Nat.{ℕ, suc}
use mathlib.Core.Path.{◌≡◌, refl, ap}
use mathlib.Core.Bool.{true, ◌&&◌}
use mathlib.Core.List.{List, [], ◌∷◌}
use native.Mathlib.Omega.{arith}
use borrow.Author.Tests.{ne_eqb}
use lib.Dec.{eqb}
use lib.ListN.{length}
use lib.Pointwise.{pointwise}
use Rattle.tokens.specs.Tokens.{same, empty}

-- `==` of two slices
pub same-bytes : (xs ys : List ℕ) → pointwise eqb xs ys ≡ same xs ys
unfolding same
same-bytes [] [] = refl
same-bytes [] (y ∷ ys) = refl
same-bytes (x ∷ xs) [] = refl
same-bytes (x ∷ xs) (y ∷ ys) = ap (λ t. eqb x y && t) (same-bytes xs ys)

-- a word of length 0
pub empty-length : (w : List ℕ) → eqb (length w) 0 ≡ empty w
unfolding empty
empty-length [] = refl
empty-length (b ∷ bs) = ne_eqb (suc (length bs)) 0 (λ e. omega arith)

pub empty-none : (w : List ℕ) → empty w ≡ true → w ≡ []
unfolding empty
empty-none [] e = refl
empty-none (b ∷ bs) e = absurd (let z : ◌≡◌ {A = ℕ} 0 1 = cc in omega arith)
