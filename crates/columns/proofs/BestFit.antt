-- Best fit's order holds each run that is wide enough, the best first; one key tells which of two is better. Assumes nothing.
use Prim.Native.Nat.{ℕ, ◌≤◌, ◌<◌}
use mathlib.Core.Path.{◌≡◌, refl, sym, ap, ◌∙◌, subst}
use mathlib.Core.Logic.{◌⊎◌, inl, inr}
use mathlib.Core.Bool.{Bool, ◌&&◌}
use mathlib.Core.List.{List, [], ◌∷◌}
use mathlib.Core.List.Memᴰ.{cases_cons as cases}
use mathlib.Core.List.Memᴰ.{head as here}
use mathlib.Core.List.Memᴰ.{not-nil as nowhere}
use mathlib.Core.List.Memᴰ.{tail as there}
use native.Mathlib.Omega.{arith}
use native.Mathlib.Decide.{dec_lt}
use lib.Dec.{T, leb, ltb, eqb, leb→le, le→leb, ltb→lt, lt→ltb, eqb→eq, eqb_refl}
use Rattle.lists.specs.Lists.{◌∈◌, keep, range, never}
use Rattle.lists.proofs.Bools.{and_l, and_r, and_i, or_cases, or_l, or_r, same_bool}
use Rattle.lists.proofs.Members.{keep-in, in-keep, sort-in, in-sort}
use Rattle.lists.proofs.Order.{Sorted, empty, next, Sorted·head, Sorted·tail, sorted-keep, sorted-by, sort_sorted}
use Rattle.columns.specs.Columns.{columns, Run, runs, better, best_fit, key, left_of}
use Rattle.columns.proofs.Runs.{Gap, runs-sorted, Lies, runs-lie}

-- BEST FIT HAS JUST THE RUNS THAT ARE WIDE ENOUGH
pub fit-in : (w : ℕ) (rs : List Run) {r : Run} → r ∈ best_fit w rs → (r ∈ rs) × (w ≤ r.size)
unfolding best_fit
fit-in w rs {r} m =
    let k = keep-in (λ x. leb w x.size) rs (sort-in better (keep (λ x. leb w x.size) rs) m) in
    (k.0, leb→le w r.size k.1)

pub in-fit : (w : ℕ) (rs : List Run) {r : Run} → r ∈ rs → w ≤ r.size → r ∈ best_fit w rs
unfolding best_fit
in-fit w rs {r} m h = in-sort better (keep (λ x. leb w x.size) rs) (in-keep (λ x. leb w x.size) m (le→leb w r.size h))

-- THE COMPARISON, said of the two numbers of a run
abbrev Less : Run → Run → Type 0
Less r q = (r.size < q.size) ⊎ ((r.size ≡ q.size) × (r.left < q.left))

abbrev pub Better : Run → Run → Type 0
Better r q = T (better r q)

pub better-out : (r q : Run) → Better r q → Less r q
unfolding better
better-out r q t = pick (or_cases narrower (level && lefter) t)
  where
    narrower : Bool
    narrower = ltb r.size q.size

    level : Bool
    level = eqb r.size q.size

    lefter : Bool
    lefter = ltb r.left q.left

    pick : T narrower ⊎ T (level && lefter) → Less r q
    pick (inl h) = inl (ltb→lt r.size q.size h)
    pick (inr h) = inr (eqb→eq r.size q.size (and_l level lefter h), ltb→lt r.left q.left (and_r level lefter h))

pub better-in : (r q : Run) → Less r q → Better r q
unfolding better
better-in r q (inl h) = or_l (ltb r.size q.size) (eqb r.size q.size && ltb r.left q.left) (lt→ltb r.size q.size h)
better-in r q (inr (e, h)) =
    or_r (ltb r.size q.size) (eqb r.size q.size && ltb r.left q.left)
    (and_i (eqb r.size q.size) (ltb r.left q.left) (subst (λ n. T (eqb n q.size)) (sym e) (eqb_refl q.size)) (lt→ltb r.left q.left h))

better-trans : (a b c : Run) → Better a b → Better b c → Better a c
better-trans a b c s t = better-in a c (step (better-out a b s) (better-out b c t))
  where
    step : Less a b → Less b c → Less a c
    step (inl h) (inl k) = inl (omega arith)
    step (inl h) (inr (y, k)) = inl (omega arith)
    step (inr (x, h)) (inl k) = inl (omega arith)
    step (inr (x, h)) (inr (y, k)) = inr (x ∙ y, omega arith)

-- it tells two runs apart that begin at different columns
told : (r q : Run) → Gap r q → Better r q ⊎ Better q r
told r q g = step (dec_lt q.size r.size) (dec_lt r.size q.size)
  where
    step : Dec (q.size < r.size) → Dec (r.size < q.size) → Better r q ⊎ Better q r
    step (yes h) k = inr (better-in q r (inl h))
    step (no h) (yes k) = inl (better-in r q (inl k))
    step (no h) (no k) = inl (better-in r q (inr (omega arith, omega (arith, g.gap))))

-- THE KEY TELLS THAT ORDER, of runs whose left edge is small enough
pub key-order : (r q : Run) → r.left < 512 → q.left < 512 → better r q ≡ ltb (key r) (key q)
unfolding key
key-order r q a b = same_bool (better r q) (ltb (key r) (key q)) (λ t. to (better-out r q t)) (λ t. better-in r q (from (ltb→lt (key r) (key q) t) (dec_lt r.size q.size)))
  where
    to : Less r q → T (ltb (key r) (key q))
    to (inl h) = lt→ltb (key r) (key q) (omega arith)
    to (inr (e, h)) = lt→ltb (key r) (key q) (omega arith)

    from : key r < key q → Dec (r.size < q.size) → Less r q
    from t (yes h) = inl h
    from t (no h) = inr (omega arith, omega arith)

-- runs with the same numbers have the same key
pub key-same : (r q : Run) → r.left ≡ q.left → r.size ≡ q.size → key r ≡ key q
unfolding key
key-same r q e f = omega arith

-- what a key tells is small, whatever the number
pub left-small : (k : ℕ) {c : ℕ} → c ≡ left_of k → c < 512
unfolding left_of
left-small k e = omega arith

-- on a device of at most 256 columns
module _ {f : ℕ → Bool} {W : ℕ} (small : W ≤ 256) where
  -- the better of two runs has the lesser key
  pub key-less : {r q : Run} → Lies f 1 W r → Lies f 1 W q → Better r q → key r < key q
  key-less {r} {q} a b t =
      ltb→lt (key r) (key q) (subst T (key-order r q (omega (arith, a.high, a.not-empty)) (omega (arith, b.high, b.not-empty))) t)

  -- a key tells its run's left edge
  pub key_left : {r : Run} → Lies f 1 W r → left_of (key r) ≡ r.left
  unfolding key left_of
  key_left {r} a = omega (arith, a.high, a.not-empty)

  -- and counts: it is neither 0 nor past every key
  pub key_counts : {r : Run} → Lies f 1 W r → (0 < key r) × (key r < never)
  unfolding key
  key_counts {r} a = (omega (arith, a.not-empty), omega (arith, a.high, a.not-empty, a.low))

-- BEST FIT: the best first
pub best-sorted : (w : ℕ) (f : ℕ → Bool) (c n : ℕ) → Sorted Better (best_fit w (runs f (range c n)))
unfolding best_fit
best-sorted w f c n =
    sort_sorted better better-trans (sorted-by Gap (λ r q. Better r q ⊎ Better q r) told (sorted-keep Gap (λ r. leb w r.size) (runs-sorted f c n)))

-- and so of some of the runs
pub best-kept : (w : ℕ) (p : Run → Bool) (f : ℕ → Bool) (c n : ℕ) → Sorted Better (best_fit w (keep p (runs f (range c n))))
unfolding best_fit
best-kept w p f c n =
    sort_sorted better better-trans
    (sorted-by Gap (λ r q. Better r q ⊎ Better q r) told (sorted-keep Gap (λ r. leb w r.size) (sorted-keep Gap p (runs-sorted f c n))))

-- so, on a device of at most 256 columns, BY RISING KEY
pub best-rising : (w : ℕ) (f : ℕ → Bool) {W : ℕ} → W ≤ 256 → Sorted (λ r q. key r < key q) (best_fit w (runs f (columns W)))
best-rising w f {W} small =
    rise (best_fit w (runs f (columns W))) (λ r m. runs-lie f 1 W (fit-in w (runs f (columns W)) m).0) (best-sorted w f 1 W)
  where
    rise : (rs : List Run) → ((r : Run) → r ∈ rs → Lies f 1 W r) → Sorted Better rs → Sorted (λ r q. key r < key q) rs
    rise [] lies s = empty
    rise (r ∷ rs) lies s =
        next (λ q m. key-less small (lies r (here refl)) (lies q (there m)) (Sorted·head Better s q m))
        (rise rs (λ q m. lies q (there m)) (Sorted·tail Better s))

-- THE FIRST OF BEST FIT is the run that is wide enough and that no other such run is better than
pub best-head : (w : ℕ) (f : ℕ → Bool) (c n : ℕ) (r : Run) → r ∈ runs f (range c n) → w ≤ r.size
    → ((q : Run) → q ∈ runs f (range c n) → w ≤ q.size → Better q r → ⊥) → (qs : List Run) × (best_fit w (runs f (range c n)) ≡ r ∷ qs)
best-head w f c n r m h least = step (best_fit w (runs f (range c n))) refl (in-fit w (runs f (range c n)) m h) (best-sorted w f c n)
  where
    step : (l : List Run) → best_fit w (runs f (range c n)) ≡ l → r ∈ l → Sorted Better l → (qs : List Run) × (l ≡ r ∷ qs)
    step [] e k s = absurd (nowhere k)
    step (q ∷ qs) e k s = pick (cases k)
      where
        pick : (r ≡ q) ⊎ (r ∈ qs) → (xs : List Run) × (q ∷ qs ≡ r ∷ xs)
        pick (inl z) = (qs, ap (λ x. x ∷ qs) (sym z))
        pick (inr j) =
            let i = fit-in w (runs f (range c n)) (subst (λ l. q ∈ l) (sym e) (here refl)) in
            absurd (least q i.0 i.1 (Sorted·head Better s r j))

-- no run is wide enough: best fit has none
pub best_none : (w : ℕ) (rs : List Run) → ((q : Run) → q ∈ rs → w ≤ q.size → ⊥) → best_fit w rs ≡ []
best_none w rs none = step (best_fit w rs) refl
  where
    step : (l : List Run) → best_fit w rs ≡ l → l ≡ []
    step [] e = refl
    step (q ∷ qs) e = let i = fit-in w rs (subst (λ l. q ∈ l) (sym e) (here refl)) in absurd (none q i.0 i.1)
