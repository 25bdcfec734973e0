-- n numbers below m that differ are no more than m. Assumes nothing.
use Prim.Native.Nat.{ℕ, zero, suc, ◌-◌, ◌≤◌, ◌<◌}
use mathlib.Core.Path.{◌≡◌, refl, sym, ◌∙◌}
use mathlib.Core.Logic.{◌⊎◌, inl, inr}
use mathlib.Core.Bool.{cond}
use native.Mathlib.Omega.{arith}
use native.Mathlib.Decide.{dec_lt, ℕ_discrete as dec_eq}
use lib.Dec.{ltb}
use borrow.Author.Tests.{lt-ltb, le-ltb}

-- one of them is x, or none is
one-is : (g : ℕ → ℕ) (x n : ℕ) → ((i : ℕ) × (i < n) × (g i ≡ x)) ⊎ ((i : ℕ) → i < n → g i ≡ x → ⊥)
one-is g x zero = inr (λ i h e. omega arith)
one-is g x (suc n) = go (one-is g x n) (dec_eq (g n) x)
  where
    go : ((i : ℕ) × (i < n) × (g i ≡ x)) ⊎ ((i : ℕ) → i < n → g i ≡ x → ⊥) → Dec (g n ≡ x)
        → ((i : ℕ) × (i < suc n) × (g i ≡ x)) ⊎ ((i : ℕ) → i < suc n → g i ≡ x → ⊥)
    go (inl k) d = inl (k.0, omega (arith, k.1), k.2)
    go (inr f) (yes e) = inl (n, omega arith, e)
    go (inr f) (no e) = inr (λ i h q. last i h q (dec_eq i n))
      where
        last : (i : ℕ) → i < suc n → g i ≡ x → Dec (i ≡ n) → ⊥
        last i h q (yes z) = e (rw z at q)
        last i h q (no z) = f i (omega arith) q

-- the numbers without that of place k
skip : (ℕ → ℕ) → ℕ → ℕ → ℕ
skip g k i = cond (ltb i k) (g i) (g (suc i))

skip_is : (g : ℕ → ℕ) (k i : ℕ) → (j : ℕ) × (skip g k i ≡ g j) × (((i < k) × (j ≡ i)) ⊎ ((k ≤ i) × (j ≡ suc i)))
unfolding skip
skip_is g k i = go (dec_lt i k)
  where
    go : Dec (i < k) → (j : ℕ) × (cond (ltb i k) (g i) (g (suc i)) ≡ g j) × (((i < k) × (j ≡ i)) ⊎ ((k ≤ i) × (j ≡ suc i)))
    go (yes h) = (i, rw (lt-ltb i k h) refl, inl (h, refl))
    go (no h) = (suc i, rw (le-ltb i k (omega arith)) refl, inr (omega arith, refl))

pub crowd : (m n : ℕ) (g : ℕ → ℕ) → ((i : ℕ) → i < n → g i < m) → ((i j : ℕ) → i < j → j < n → g i ≡ g j → ⊥) → n ≤ m
crowd zero zero g f d = omega arith
crowd zero (suc n) g f d = absurd (let z = f 0 (omega arith) in omega arith)
crowd (suc m) n g f d = go (λ k h e. crowd m (n - 1) (skip g k) (lower k h e) (differ k)) (λ none. crowd m n g (λ i h. low none i h) d) (one-is g m n)
  where
    low : ((i : ℕ) → i < n → g i ≡ m → ⊥) → (i : ℕ) → i < n → g i < m
    low none i h = step (dec_eq (g i) m)
      where
        step : Dec (g i ≡ m) → g i < m
        step (yes e) = absurd (none i h e)
        step (no e) = let z = f i h in omega arith

    far : (k i j : ℕ) → ((i < k) × (j ≡ i)) ⊎ ((k ≤ i) × (j ≡ suc i)) → i < n - 1 → (j < n) × (j ≡ k → ⊥)
    far k i j (inl p) h = (omega (arith, p.1), λ e. omega (arith, p.0, p.1))
    far k i j (inr p) h = (omega (arith, p.1), λ e. omega (arith, p.0, p.1))

    two : (a b : ℕ) → a < n → b < n → (a ≡ b → ⊥) → g a ≡ g b → ⊥
    two a b h l e q = step (dec_lt a b)
      where
        step : Dec (a < b) → ⊥
        step (yes z) = d a b z l q
        step (no z) = d b a (omega arith) h (sym q)

    lower : (k : ℕ) → k < n → g k ≡ m → (i : ℕ) → i < n - 1 → skip g k i < m
    lower k h e i l =
        let s = skip_is g k i in
        let p = far k i s.0 s.2 l in
        let z = f s.0 p.0 in
        let y : g s.0 ≡ m → ⊥ = λ q. two s.0 k p.0 h p.1 (q ∙ sym e) in
        let u : skip g k i ≡ g s.0 = s.1 in
        omega arith

    order : (k i j a b : ℕ) → i < j → ((i < k) × (a ≡ i)) ⊎ ((k ≤ i) × (a ≡ suc i)) → ((j < k) × (b ≡ j)) ⊎ ((k ≤ j) × (b ≡ suc j)) → a < b
    order k i j a b l (inl p) (inl q) = omega (arith, p.1, q.1)
    order k i j a b l (inl p) (inr q) = omega (arith, p.1, q.1)
    order k i j a b l (inr p) (inl q) = omega (arith, p.0, q.0)
    order k i j a b l (inr p) (inr q) = omega (arith, p.1, q.1)

    differ : (k : ℕ) → (i j : ℕ) → i < j → j < n - 1 → skip g k i ≡ skip g k j → ⊥
    differ k i j l h q =
        let s = skip_is g k i in
        let t = skip_is g k j in
        d s.0 t.0 (order k i j s.0 t.0 l s.2 t.2) (far k j t.0 t.2 h).0 (sym s.1 ∙ q ∙ t.1)

    go : ((k : ℕ) → k < n → g k ≡ m → n - 1 ≤ m) → (((i : ℕ) → i < n → g i ≡ m → ⊥) → n ≤ m)
        → ((i : ℕ) × (i < n) × (g i ≡ m)) ⊎ ((i : ℕ) → i < n → g i ≡ m → ⊥) → n ≤ suc m
    go some none (inl k) = let z = some k.0 k.1 k.2 in omega arith
    go some none (inr f) = let z = none f in omega arith

-- n numbers below n that differ are every one of them
with_first : ℕ → (ℕ → ℕ) → ℕ → ℕ
with_first q g zero = q
with_first q g (suc i) = g i

pub filled : (n : ℕ) (g : ℕ → ℕ) → ((i : ℕ) → i < n → g i < n) → ((i j : ℕ) → i < j → j < n → g i ≡ g j → ⊥) → (q : ℕ) → q < n
    → (i : ℕ) × (i < n) × (g i ≡ q)
unfolding with_first
filled n g f d q h = go (one-is g q n)
  where
    go : ((i : ℕ) × (i < n) × (g i ≡ q)) ⊎ ((i : ℕ) → i < n → g i ≡ q → ⊥) → (i : ℕ) × (i < n) × (g i ≡ q)
    go (inl k) = k
    go (inr none) = absurd (let z = crowd n (suc n) (with_first q g) below differ in omega arith)
      where
        below : (i : ℕ) → i < suc n → with_first q g i < n
        below zero l = h
        below (suc i) l = f i (omega arith)

        differ : (i j : ℕ) → i < j → j < suc n → with_first q g i ≡ with_first q g j → ⊥
        differ i zero l m e = omega arith
        differ zero (suc j) l m e = none j (omega arith) (sym e)
        differ (suc i) (suc j) l m e = d i j (omega arith) (omega arith) e
