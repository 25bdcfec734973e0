-- The runs are exactly the longest runs of adjacent columns that pass, from left to right. Assumes nothing.
use Prim.Native.Nat.{ℕ, zero, suc, ◌+◌, ◌-◌, ◌≤◌, ◌<◌}
use mathlib.Core.Path.{◌≡◌, refl, sym, ap, subst}
use mathlib.Core.Logic.{◌⊎◌, inl, inr}
use mathlib.Core.Bool.{Bool, true, false, cond}
use mathlib.Core.List.Memᴰ.{cases_cons as cases}
use mathlib.Core.List.Memᴰ.{head as here}
use mathlib.Core.List.Memᴰ.{not-nil as nowhere}
use mathlib.Core.List.Memᴰ.{tail as there}
use mathlib.Core.List.{List, [], ◌∷◌}
use native.Mathlib.Omega.{arith}
use native.Mathlib.Decide.{dec_lt, ℕ_discrete as dec_eq}
use lib.Dec.{T, eqb, eqb→eq, T_not}
use borrow.Author.Tests.{eqb-true, eqb-false}
use Rattle.lists.specs.Lists.{◌∈◌, range}
use Rattle.lists.proofs.Order.{Sorted, empty, next, Sorted·head, Sorted·tail, sorted-compare}
use Rattle.columns.specs.Columns.{Run, join, runs}

-- a run of the columns from c, n of them: it lies among them, and each of its columns passes
pub record Lies (f : ℕ → Bool) (c n : ℕ) (r : Run) : Type 0 where
  pub low : c ≤ r.left
  pub high : r.left + r.size ≤ c + n
  pub not-empty : 1 ≤ r.size
  pub passes : (k : ℕ) → r.left ≤ k → k < r.left + r.size → T (f k)

lies-wider : {f : ℕ → Bool} {c n : ℕ} {r : Run} → Lies f (suc c) n r → Lies f c (suc n) r
lies-wider l = let a = l.low in let b = l.high in record { low = omega arith; high = omega arith; not-empty = l.not-empty; passes = l.passes }

-- where a run of a joined list comes from
data From (c : ℕ) (rs : List Run) (r : Run) : Type 0 where
  new : r ≡ record { left = c; size = 1 } → From c rs r
  old : r ∈ rs → From c rs r
  grown : (q : Run) → q ∈ rs → q.left ≡ suc c → r ≡ record { left = c; size = suc q.size } → From c rs r

join-in : (c : ℕ) (rs : List Run) {r : Run} → r ∈ join c rs → From c rs r
unfolding join
join-in c [] m = pick (cases m)
  where
    pick : {r : Run} → (r ≡ record { left = c; size = 1 }) ⊎ (r ∈ []) → From c [] r
    pick (inl z) = new z
    pick (inr n) = old n
join-in c (q ∷ qs) {r} m = step (eqb q.left (suc c)) refl m
  where
    step : (b : Bool) → eqb q.left (suc c) ≡ b → r ∈ cond b (record { left = c; size = suc q.size } ∷ qs) (record { left = c; size = 1 } ∷ q ∷ qs) → From c (q ∷ qs) r
    step true e n = pick (cases n)
      where
        pick : (r ≡ record { left = c; size = suc q.size }) ⊎ (r ∈ qs) → From c (q ∷ qs) r
        pick (inl z) = grown q (here refl) (eqb→eq q.left (suc c) (rw e tt)) z
        pick (inr k) = old (there k)
    step false e n = pick (cases n)
      where
        pick : (r ≡ record { left = c; size = 1 }) ⊎ (r ∈ q ∷ qs) → From c (q ∷ qs) r
        pick (inl z) = new z
        pick (inr k) = old k

from-lies : (f : ℕ → Bool) (c n : ℕ) (rs : List Run) → T (f c) → ((q : Run) → q ∈ rs → Lies f (suc c) n q) → {r : Run} → From c rs r → Lies f c (suc n) r
from-lies f c n rs t below {r} (old m) = lies-wider (below r m)
from-lies f c n rs t below {r} (new z) = subst (λ x. Lies f c (suc n) x) (sym z) (record { low = omega arith; high = omega arith; not-empty = omega arith; passes = one })
  where
    one : (k : ℕ) → c ≤ k → k < c + 1 → T (f k)
    one k l h = let e : k ≡ c = omega arith in rw e t
from-lies f c n rs t below {r} (grown q m y z) =
    let l = below q m in
    subst (λ x. Lies f c (suc n) x) (sym z) (record { low = omega arith; high = omega arith; not-empty = omega arith; passes = more l })
  where
    more : Lies f (suc c) n q → (k : ℕ) → c ≤ k → k < c + suc q.size → T (f k)
    more l k a h = pick (dec_eq k c)
      where
        pick : Dec (k ≡ c) → T (f k)
        pick (yes e) = rw e t
        pick (no e) = l.passes k (omega arith) (omega arith)

pub runs-lie : (f : ℕ → Bool) (c n : ℕ) {r : Run} → r ∈ runs f (range c n) → Lies f c n r
unfolding runs range
runs-lie f c zero m = absurd (nowhere m)
runs-lie f c (suc n) {r} m = step (λ r' m'. runs-lie f (suc c) n {r = r'} m') (f c) refl m
  where
    step : ((r' : Run) → r' ∈ runs f (range (suc c) n) → Lies f (suc c) n r') → (b : Bool) → f c ≡ b
        → r ∈ cond b (join c (runs f (range (suc c) n))) (runs f (range (suc c) n)) → Lies f c (suc n) r
    step below false e k = lies-wider (below r k)
    step below true e k = from-lies f c n (runs f (range (suc c) n)) (rw e tt) below (join-in c (runs f (range (suc c) n)) k)

-- a ends, then a column that is in no run, then b: so no run could be longer
pub record Gap (a b : Run) : Type 0 where
  pub gap : a.left + a.size < b.left

sorted-join : (f : ℕ → Bool) (c n : ℕ) (rs : List Run) → ((r : Run) → r ∈ rs → Lies f (suc c) n r) → Sorted Gap rs → Sorted Gap (join c rs)
unfolding join
sorted-join f c n [] h s = next {x = record { left = c; size = 1 }} (λ y m. absurd (nowhere m)) empty
sorted-join f c n (r ∷ rs) h s = step (eqb r.left (suc c)) refl
  where
    low : suc c ≤ r.left
    low = (h r (here refl)).low

    step : (b : Bool) → eqb r.left (suc c) ≡ b
        → Sorted Gap (cond b (record { left = c; size = suc r.size } ∷ rs) (record { left = c; size = 1 } ∷ r ∷ rs))
    step true e =
        next {x = record { left = c; size = suc r.size }}
        (λ y m. let q = eqb-true r.left (suc c) e in let g = Sorted·head Gap s y m in record { gap = omega arith })
        (Sorted·tail Gap s)
    step false e = next {x = record { left = c; size = 1 }} (λ y m. record { gap = far y (cases m) }) s
      where
        away : r.left ≡ suc c → ⊥
        away = eqb-false r.left (suc c) e

        far : (y : Run) → (y ≡ r) ⊎ (y ∈ rs) → c + 1 < y.left
        far y (inl z) = let q : y.left ≡ r.left = ap (λ x. x.left) z in omega (arith, low, away)
        far y (inr m) = let g = Sorted·head Gap s y m in omega (arith, low)

-- THE RUNS STAND FROM LEFT TO RIGHT WITH A COLUMN BETWEEN
pub runs-sorted : (f : ℕ → Bool) (c n : ℕ) → Sorted Gap (runs f (range c n))
unfolding runs range
runs-sorted f c zero = empty
runs-sorted f c (suc n) = step (runs-sorted f (suc c) n) (f c)
  where
    step : Sorted Gap (runs f (range (suc c) n)) → (b : Bool) → Sorted Gap (cond b (join c (runs f (range (suc c) n))) (runs f (range (suc c) n)))
    step s true = sorted-join f c n (runs f (range (suc c) n)) (λ r m. runs-lie f (suc c) n m) s
    step s false = s

-- a column lies in a run of the list
pub record Held (k : ℕ) (rs : List Run) : Type 0 where
  pub run : Run
  pub among : run ∈ rs
  pub low : run.left ≤ k
  pub high : k < run.left + run.size

join-holds : (c : ℕ) (rs : List Run) → Held c (join c rs)
unfolding join
join-holds c [] = record { run = record { left = c; size = 1 }; among = here refl; low = omega arith; high = omega arith }
join-holds c (r ∷ rs) = step (eqb r.left (suc c))
  where
    step : (b : Bool) → Held c (cond b (record { left = c; size = suc r.size } ∷ rs) (record { left = c; size = 1 } ∷ r ∷ rs))
    step true = record { run = record { left = c; size = suc r.size }; among = here refl; low = omega arith; high = omega arith }
    step false = record { run = record { left = c; size = 1 }; among = here refl; low = omega arith; high = omega arith }

join-keeps : (c k : ℕ) (rs : List Run) → Held k rs → Held k (join c rs)
unfolding join
join-keeps c k [] h = absurd (nowhere h.among)
join-keeps c k (r ∷ rs) h = step (eqb r.left (suc c)) refl (cases h.among)
  where
    step : (b : Bool) → eqb r.left (suc c) ≡ b → (h.run ≡ r) ⊎ (h.run ∈ rs)
        → Held k (cond b (record { left = c; size = suc r.size } ∷ rs) (record { left = c; size = 1 } ∷ r ∷ rs))
    step false e m = record { run = h.run; among = there h.among; low = h.low; high = h.high }
    step true e (inr m) = record { run = h.run; among = there m; low = h.low; high = h.high }
    step true e (inl z) =
        let q = eqb-true r.left (suc c) e in
        let x : h.run.left ≡ r.left = ap (λ y. y.left) z in
        let y : h.run.size ≡ r.size = ap (λ y. y.size) z in
        record { run = record { left = c; size = suc r.size }; among = here refl; low = omega arith; high = omega arith }

-- EVERY COLUMN THAT PASSES LIES IN A RUN
pub runs-cover : (f : ℕ → Bool) (c n k : ℕ) → c ≤ k → k < c + n → T (f k) → Held k (runs f (range c n))
unfolding runs range
runs-cover f c zero k l h t = absurd (omega arith)
runs-cover f c (suc n) k l h t = step (λ a b. runs-cover f (suc c) n k a b t) (f c) refl (dec_eq k c)
  where
    step : (suc c ≤ k → k < suc c + n → Held k (runs f (range (suc c) n))) → (b : Bool) → f c ≡ b → Dec (k ≡ c)
        → Held k (cond b (join c (runs f (range (suc c) n))) (runs f (range (suc c) n)))
    step below true e (yes z) = rw z (join-holds c (runs f (range (suc c) n)))
    step below true e (no z) = join-keeps c k (runs f (range (suc c) n)) (below (omega arith) (omega arith))
    step below false e (yes z) = absurd (T_not (f k) (rw (z, e) tt) t)
    step below false e (no z) = below (omega arith) (omega arith)

-- A LONGEST RUN of the n columns from c on: its columns pass, and it can be made longer at neither end
pub record Longest (f : ℕ → Bool) (c n : ℕ) (r : Run) : Type 0 where
  pub lies : Lies f c n r
  pub left_end : (k : ℕ) → suc k ≡ r.left → c ≤ k → T (f k) → ⊥
  pub right_end : r.left + r.size < c + n → T (f (r.left + r.size)) → ⊥

-- a column that passes lies in one run only: it is in no other's reach
beside_none : (f : ℕ → Bool) (c n k : ℕ) {r : Run} → r ∈ runs f (range c n) → c ≤ k → k < c + n → T (f k)
    → (suc k ≡ r.left) ⊎ (k ≡ r.left + r.size) → ⊥
beside_none f c n k {r} m l h t w = pick w (sorted-compare Gap (runs-sorted f c n) q.among m)
  where
    q : Held k (runs f (range c n))
    q = runs-cover f c n k l h t

    lr : Lies f c n r
    lr = runs-lie f c n m

    pick : (suc k ≡ r.left) ⊎ (k ≡ r.left + r.size) → (q.run ≡ r) ⊎ (Gap q.run r ⊎ Gap r q.run) → ⊥
    pick (inl e) (inl z) = let x : q.run.left ≡ r.left = ap (λ y. y.left) z in omega (arith, q.low)
    pick (inr e) (inl z) =
        let x : q.run.left ≡ r.left = ap (λ y. y.left) z in
        let y : q.run.size ≡ r.size = ap (λ y. y.size) z in
        omega (arith, q.high)
    pick (inl e) (inr (inl g)) = omega (arith, q.high, g.gap)
    pick (inr e) (inr (inl g)) = omega (arith, q.high, g.gap)
    pick (inl e) (inr (inr g)) = omega (arith, q.low, g.gap)
    pick (inr e) (inr (inr g)) = omega (arith, q.low, g.gap)

-- EVERY RUN OF THE LIST IS A LONGEST ONE
pub runs-longest : (f : ℕ → Bool) (c n : ℕ) {r : Run} → r ∈ runs f (range c n) → Longest f c n r
runs-longest f c n {r} m = record {
  lies = runs-lie f c n m;
  left_end = λ k e l t. beside_none f c n k m l (let a = runs-lie f c n m in omega (arith, a.high, a.not-empty)) t (inl e);
  right_end = λ h t. beside_none f c n (r.left + r.size) m (let a = runs-lie f c n m in omega (arith, a.low)) h t (inr refl);
}

-- AND EVERY LONGEST RUN IS IN THE LIST
pub longest-runs : (f : ℕ → Bool) (c n : ℕ) (r : Run) → Longest f c n r → r ∈ runs f (range c n)
longest-runs f c n r o = subst (λ x. x ∈ runs f (range c n)) same q.among
  where
    a : Lies f c n r
    a = o.lies

    q : Held r.left (runs f (range c n))
    q = runs-cover f c n r.left a.low (omega (arith, a.high, a.not-empty)) (a.passes r.left (omega arith) (omega (arith, a.not-empty)))

    p : Longest f c n q.run
    p = runs-longest f c n q.among

    lefts : q.run.left ≡ r.left
    lefts = step (dec_lt q.run.left r.left)
      where
        step : Dec (q.run.left < r.left) → q.run.left ≡ r.left
        step (no z) = omega (arith, q.low)
        step (yes z) =
            absurd (o.left_end (r.left - 1) (omega arith) (omega (arith, p.lies.low)) (p.lies.passes (r.left - 1) (omega arith) (omega (arith, q.high))))

    sizes : q.run.size ≡ r.size
    sizes = step (dec_lt q.run.size r.size) (dec_lt r.size q.run.size)
      where
        step : Dec (q.run.size < r.size) → Dec (r.size < q.run.size) → q.run.size ≡ r.size
        step (yes z) w =
            absurd (p.right_end (omega (arith, a.high, lefts)) (a.passes (q.run.left + q.run.size) (omega (arith, lefts)) (omega (arith, lefts))))
        step (no z) (yes w) =
            absurd (o.right_end (omega (arith, p.lies.high, lefts)) (p.lies.passes (r.left + r.size) (omega (arith, lefts)) (omega (arith, lefts))))
        step (no z) (no w) = omega arith

    same : q.run ≡ r
    same = λ i. record { left = lefts i; size = sizes i }

-- tests that agree on the columns have the same runs
pub runs_same : (f g : ℕ → Bool) (c n : ℕ) → ((k : ℕ) → c ≤ k → k < c + n → f k ≡ g k) → runs f (range c n) ≡ runs g (range c n)
unfolding runs range
runs_same f g c zero h = refl
runs_same f g c (suc n) h = rw (h c (omega arith) (omega arith), runs_same f g (suc c) n (λ k l m. h k (omega arith) (omega arith)))
