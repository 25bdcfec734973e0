-- What the library's `position` gives is the book's place of the first that passes. Assumes nothing.
use Prim.Native.Nat.{ℕ, ◌<◌, ◌+◌}
use mathlib.Core.Path.{◌≡◌, refl, sym, ap, ◌∙◌}
use mathlib.Core.Bool.{Bool, true, false, not, cond}
use mathlib.Core.List.{List, [], ◌∷◌}
use lib.ListN.{length}
use lib.Dec.{ltb}
use native.Mathlib.Omega.{arith}
use Rattle.std.proofs.Common.{Option, None, Some}
use Rattle.std.specs.List.{position, position_or_len}
use Rattle.lists.specs.Lists.{some?, index_of}
use Rattle.lists.proofs.Append.{index-test}
use borrow.Author.Tests.{ltb-true}

same-place : {A : Type 0} (p : A → Bool) (xs : List A) → position_or_len p xs ≡ index_of p xs
unfolding index_of
same-place p [] = refl
same-place p (x ∷ xs) = by (p x) (same-place p xs)
  where
    by : (b : Bool) → position_or_len p xs ≡ index_of p xs → cond (not b) (1 + position_or_len p xs) 0 ≡ cond b 0 (index_of p xs + 1)
    by true e = refl
    by false e = omega (arith, e)

decided : {A : Type 0} (p : A → Bool) (xs : List A) → position p xs ≡ cond (ltb (index_of p xs) (length xs)) (Some (index_of p xs)) None
decided p xs = ap (λ n. cond (ltb n (length xs)) (Some n) None) (same-place p xs)

-- none: no element passes
pub place-none : {A : Type 0} (p : A → Bool) (xs : List A) → position p xs ≡ None → some? p xs ≡ false
place-none p xs e = index-test p xs ∙ by (ltb (index_of p xs) (length xs)) (sym (decided p xs) ∙ e)
  where
    by : (b : Bool) → cond b (Some (index_of p xs)) None ≡ None → b ≡ false
    by true z = cc
    by false z = refl

-- one: it is the first that passes
pub place-some : {A : Type 0} (p : A → Bool) (xs : List A) (i : ℕ) → position p xs ≡ Some i → (i ≡ index_of p xs) × (i < length xs)
place-some p xs i e = by (ltb (index_of p xs) (length xs)) refl (sym (decided p xs) ∙ e)
  where
    by : (b : Bool) → ltb (index_of p xs) (length xs) ≡ b → cond b (Some (index_of p xs)) None ≡ Some i → (i ≡ index_of p xs) × (i < length xs)
    by true t z = let y : i ≡ index_of p xs = cc in (y, rw y (ltb-true (index_of p xs) (length xs) t))
    by false t z = absurd (let y : ◌≡◌ {A = Option ℕ} None (Some i) = z in cc)
