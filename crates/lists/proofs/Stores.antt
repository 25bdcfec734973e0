-- Stores of a run of elements into a list (`sets`): one run behind the other, and a store behind a run made before it. Assumes nothing.
use Prim.Native.Nat.{ℕ, suc, ◌+◌}
use mathlib.Core.Path.{◌≡◌, ap, ◌∙◌}
use mathlib.Core.List.{List, [], ◌∷◌, ◌++◌}
use native.Mathlib.Omega.{arith}
use lib.ListN.{length, set}
use lib.Seq.{sets, set_comm}

module _ {A : Type 0} where
  pub sets-append : (l : List A) (i : ℕ) (xs ys : List A) → sets (sets l i xs) (i + length xs) ys ≡ sets l i (xs ++ ys)
  sets-append l i [] ys = ap (λ k. sets l k ys) (let z : i + 0 ≡ i = omega arith in z)
  sets-append l i (x ∷ xs) ys =
      ap (λ k. sets (sets (set l i x) (suc i) xs) k ys) (let z : i + suc (length xs) ≡ suc i + length xs = omega arith in z) ∙ sets-append (set l i x) (suc i) xs ys

  -- a store behind a run may come before it
  pub set-behind : (l : List A) (i : ℕ) (xs : List A) (y : A) → sets (set l (i + length xs) y) i xs ≡ sets l i (xs ++ (y ∷ []))
  set-behind l i [] y = ap (λ k. set l k y) (let z : i + 0 ≡ i = omega arith in z)
  set-behind l i (x ∷ xs) y =
      ap (λ m. sets m (suc i) xs) (set_comm l (i + suc (length xs)) i y x (λ e. omega arith))
      ∙ ap (λ k. sets (set (set l i x) k y) (suc i) xs) (let z : i + suc (length xs) ≡ suc i + length xs = omega arith in z)
      ∙ set-behind (set l i x) (suc i) xs y
