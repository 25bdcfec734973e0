-- The row of the tasks that hold their columns: one task more keeps what it says; none in another's way, it says which columns are free. Assumes nothing.
use Rattle.std.proofs.Common.{◌≡◌, ℕ, zero, suc, ◌+◌, ◌<◌, ◌≤◌, max, Bool, true, false, cond, not, T, leb, ◌⊎◌, List, length, get_or, set, replicate, sym, refl, ap, ◌∙◌, subst, inl, inr, arith, length-set, get_or-set_other, get_or-set_same, le-leb, leb-true}
use native.Mathlib.Decide.{dec_lt, ℕ_discrete as dec_eq}
use Rattle.lists.specs.Lists.{◌∈◌, some?, never}
use Rattle.lists.proofs.Bools.{bool, same_bool}
use Rattle.lists.proofs.Members.{none_pass, pass-none}
use Rattle.tasks.specs.Tasks.{holds}
use Rattle.tasks.proofs.Laws.{Share, share-meets, Holds, holds-out, holds-in}
use Rattle.columns.specs.Columns.{columns, Run, runs, key}
use Rattle.columns.proofs.Runs.{runs_same}
use Rattle.planners.specs.Planners.{free}
use Rattle.live.specs.Live.{from_at, left_at, past_at, task_at, tasks_of, OnDevice, Falling, Apart, After}
use Rattle.live.proofs.Laws.{after-stays}
use Rattle.planners.proofs.Lent.{task-in, in-tasks}
use Rattle.stuffing.specs.Fit.{Marked, unheld, Stretches, NextFit}
use Rattle.stuffing.proofs.Fits.{unheld-out, unheld-in}

-- fewer tasks, and a device that is not wider than the widest
pub fewer : {W count n : ℕ} {live : List ℕ} → OnDevice W count live → n ≤ count → OnDevice 256 n live
fewer o h = record {
  wide = omega arith;
  few = omega (arith, o.few);
  from = λ i l. o.from i (omega arith);
  columns = λ i l. o.columns i (omega arith);
  past = λ i l. omega (arith, o.past i (omega arith), o.wide);
  ticks = λ i l. o.ticks i (omega arith);
  until = λ i l. o.until i (omega arith);
}

-- the first i tasks are in the row
pub record Marking (live : List ℕ) (n t : ℕ) (row : List ℕ) (i : ℕ) : Type 0 where
  pub upto : i ≤ n
  pub size : length row ≡ 257
  pub marked : Marked live i t row

pub mark-none : (live : List ℕ) (n t : ℕ) {row : List ℕ} → row ≡ replicate 257 0 → Marking live n t row 0
mark-none live n t {row} e = record {
  upto = omega arith;
  size = ap length e;
  marked = record {
    each = λ i h s. absurd (omega arith);
    one = λ c l h. absurd (let z : get_or row c 0 ≡ 0 = ap (λ x. get_or x c 0) e ∙ zero_row 257 c in omega arith);
  };
}
  where
    zero_row : (m k : ℕ) → ◌≡◌ {A = ℕ} (get_or (replicate m 0) k 0) 0
    zero_row zero k = refl
    zero_row (suc m) zero = refl
    zero_row (suc m) (suc k) = zero_row m k

-- where task i is put
pub put-at : {live : List ℕ} {n i x : ℕ} (t : ℕ) → OnDevice 256 n live → i < n → x ≡ cond (leb (from_at live i) t) (left_at live i) 0 → x < 257
put-at {live} {n} {i} {x} t d h e = go (leb (from_at live i) t) e
  where
    go : (b : Bool) → x ≡ cond b (left_at live i) 0 → x < 257
    go true z = omega (arith, d.columns i h, d.past i h)
    go false z = omega arith

-- ONE TASK MORE
pub mark-one : {live row : List ℕ} {n t i x : ℕ} → Marking live n t row i → OnDevice 256 n live → i < n
    → x ≡ cond (leb (from_at live i) t) (left_at live i) 0 → Marking live n t (set row x (past_at live i)) (i + 1)
mark-one {live} {row} {n} {t} {i} {x} o d h e = record {
  upto = omega arith;
  size = length-set row x (past_at live i) ∙ o.size;
  marked = record { each = λ k l s. each k l s (dec_eq (left_at live k) x) (dec_eq k i); one = λ c l p. one c l p (dec_eq c x) (leb (from_at live i) t) refl };
}
  where
    next : List ℕ
    next = set row x (past_at live i)

    here : (c : ℕ) → c ≡ x → get_or next c 0 ≡ past_at live i
    here c z = ap (λ m. get_or next m 0) z ∙ get_or-set_same row x (past_at live i) 0 (omega (arith, o.size, put-at t d h e))

    other : (c : ℕ) → (c ≡ x → ⊥) → get_or next c 0 ≡ get_or row c 0
    other c z = get_or-set_other row x c (past_at live i) 0 z

    each : (k : ℕ) → k < i + 1 → from_at live k ≤ t → Dec (left_at live k ≡ x) → Dec (k ≡ i) → 0 < get_or next (left_at live k) 0
    each k l s (yes z) q = omega (arith, here (left_at live k) z, d.columns i h)
    each k l s (no z) (yes q) =
        absurd (z (ap (left_at live) q ∙ sym (e ∙ ap (λ b. cond b (left_at live i) 0) (ap (λ m. leb (from_at live m) t) (sym q) ∙ le-leb (from_at live k) t s))))
    each k l s (no z) (no q) = omega (arith, other (left_at live k) z, o.marked.each k (omega arith) s)

    one : (c : ℕ) → 1 ≤ c → 0 < get_or next c 0 → Dec (c ≡ x) → (b : Bool) → leb (from_at live i) t ≡ b
        → (k : ℕ) × (k < i + 1) × (from_at live k ≤ t) × (left_at live k ≡ c) × (past_at live k ≡ get_or next c 0)
    one c l p (yes z) true q = (i, omega arith, leb-true (from_at live i) t q, sym (z ∙ e ∙ ap (λ b. cond b (left_at live i) 0) q), sym (here c z))
    one c l p (yes z) false q = absurd (let y : x ≡ 0 = e ∙ ap (λ b. cond b (left_at live i) 0) q in omega arith)
    one c l p (no z) b q =
        let k = o.marked.one c l (omega (arith, other c z)) in
        (k.0, omega (arith, k.1), k.2, k.3, k.4 ∙ sym (other c z))

pub mark-all : {live row : List ℕ} {n t i : ℕ} → Marking live n t row i → n ≤ i → Marked live n t row
mark-all {live} {row} {n} {t} {i} o h = let z : i ≡ n = omega (arith, o.upto) in subst (λ k. Marked live k t row) z o.marked

-- WHAT THE ROW OF ALL THE TASKS THAT FINISH AFTER t SAYS
module _ {W count n t : ℕ} {live row : List ℕ} (d : OnDevice W count live) (f : Falling count live) (p : Apart count live) (a : After live count t n) (m : Marked live n t row) where
  -- two tasks that hold their columns at t, of which each begins before the other ends, are one
  clash : (i j : ℕ) → i < n → j < n → from_at live i ≤ t → from_at live j ≤ t → left_at live i < past_at live j → left_at live j < past_at live i → i ≡ j
  clash i j g h s u x y = go (dec_lt i j) (dec_lt j i)
    where
      shared : (i j : ℕ) → i < n → j < n → from_at live i ≤ t → from_at live j ≤ t → left_at live i < past_at live j → left_at live j < past_at live i
          → Share (task_at live i) (task_at live j)
      shared i j g h s u x y =
          let b = d.columns i (omega (arith, a.few)) in
          let c = d.columns j (omega (arith, a.few)) in
          let v = after-stays f a i g in
          let w = after-stays f a j h in
          record {
            column = record { it = max (left_at live i) (left_at live j); low₁ = omega arith; high₁ = omega arith; low₂ = omega arith; high₂ = omega arith };
            tick = record { it = t; low₁ = s; high₁ = omega arith; low₂ = u; high₂ = omega arith };
          }

      barred : (i j : ℕ) → i < j → j < n → Share (task_at live i) (task_at live j) → ⊥
      barred i j l h q = subst T (p i j l (omega (arith, a.few))) (share-meets (task_at live i) (task_at live j) q)

      go : Dec (i < j) → Dec (j < i) → i ≡ j
      go (yes l) q = absurd (barred i j l h (shared i j g h s u x y))
      go (no l) (yes q) = absurd (barred j i q g (shared j i h g u s y x))
      go (no l) (no q) = omega arith

  pub stretches : Stretches W row
  stretches = record {
    up = λ c l h. let k = m.one c l h in omega (arith, d.columns k.0 (omega (arith, k.1, a.few)), k.3, k.4);
    most = λ c l. most c l (dec_lt 0 (get_or row c 0));
    apart = λ c k l h q. apart c k l h q (dec_lt k (get_or row c 0));
  }
    where
      most : (c : ℕ) → 1 ≤ c → Dec (0 < get_or row c 0) → get_or row c 0 ≤ suc W
      most c l (yes h) = let k = m.one c l h in omega (arith, d.past k.0 (omega (arith, k.1, a.few)), k.4)
      most c l (no h) = omega arith

      apart : (c k : ℕ) → 1 ≤ c → c < k → 0 < get_or row k 0 → Dec (k < get_or row c 0) → get_or row c 0 ≤ k
      apart c k l h q (yes r) =
          let x = m.one c l (omega arith) in
          let y = m.one k (omega arith) q in
          let b = d.columns y.0 (omega (arith, y.1, a.few)) in
          let z : left_at live x.0 ≡ left_at live y.0 = ap (left_at live) (clash x.0 y.0 x.1 y.1 x.2 y.2 (omega (arith, x.3, y.3)) (omega (arith, x.4, y.3))) in
          absurd (omega (arith, x.3, y.3))
      apart c k l h q (no r) = omega arith

  -- a column that no stretch holds is one that no task holds
  same : (c : ℕ) → unheld row c ≡ free (tasks_of count live) t c
  unfolding free
  same c = same_bool (unheld row c) (not (some? (holds t c) (tasks_of count live)))
      (λ x. pass-none (holds t c) (tasks_of count live) (λ u q. let k = task-in live count q in subst (λ v. T (not (holds t c v))) (sym k.2) (unheld-by x k.0 k.1)))
      (λ x. unheld-in row c (λ k l h. reaches x k l h (dec_lt c (get_or row k 0))))
    where
      -- task i does not hold it
      unheld-by : T (unheld row c) → (i : ℕ) → i < count → T (not (holds t c (task_at live i)))
      unheld-by x i h = go (bool (holds t c (task_at live i)))
        where
          over : Holds t c (task_at live i) → Dec (i < n) → ⊥
          over o (no l) = omega (arith, a.ended i (omega arith) h)
          over o (yes l) =
              let b = d.from i h in
              let k = m.one (left_at live i) b (m.each i l o.started) in
              let e = d.columns i h in
              let g = d.columns k.0 (omega (arith, k.1, a.few)) in
              let z : past_at live i ≡ past_at live k.0 = ap (past_at live) (clash i k.0 l k.1 o.started k.2 (omega (arith, k.3)) (omega (arith, k.3))) in
              omega (arith, unheld-out row c x (left_at live i) b o.left, k.4, o.right)

          go : T (holds t c (task_at live i)) ⊎ T (not (holds t c (task_at live i))) → T (not (holds t c (task_at live i)))
          go (inl y) = absurd (over (holds-out t c (task_at live i) y) (dec_lt i n))
          go (inr y) = y

      -- no stretch reaches over it: its task would hold it
      reaches : T (not (some? (holds t c) (tasks_of count live))) → (k : ℕ) → 1 ≤ k → k ≤ c → Dec (c < get_or row k 0) → get_or row k 0 ≤ c
      reaches x k l h (no q) = omega arith
      reaches x k l h (yes q) =
          let y = m.one k l (omega arith) in
          let i = y.0 in
          let i-in : i < count = omega (arith, y.1, a.few) in
          let v = after-stays f a i y.1 in
          let held : Holds t c (task_at live i) = record { started = y.2; unfinished = omega arith; left = omega (arith, y.3); right = omega (arith, y.4, d.columns i i-in) } in
          absurd (neither (holds t c (task_at live i)) (holds-in t c (task_at live i) held) (none_pass (holds t c) (tasks_of count live) x (in-tasks live count i i-in)))
        where
          neither : (b : Bool) → T b → T (not b) → ⊥
          neither true p q = absurd q
          neither false p q = absurd p

  -- THE NEXT INTERVAL of the row is that of the tasks
  pub fit_same : {w after r : ℕ} → NextFit (unheld row) W w after r → NextFit (free (tasks_of count live) t) W w after r
  fit_same {w} {after} {r} o = record {
    least = λ q i l h. o.least q (subst (λ x. q ∈ x) (sym e) i) l h;
    one = found o.one;
  }
    where
      e : runs (unheld row) (columns W) ≡ runs (free (tasks_of count live) t) (columns W)
      e = runs_same (unheld row) (free (tasks_of count live) t) 1 W (λ k l h. same k)

      found : (r ≡ never) ⊎ ((q : Run) × (q ∈ runs (unheld row) (columns W)) × (w ≤ q.size) × (after < key q) × (key q ≡ r))
          → (r ≡ never) ⊎ ((q : Run) × (q ∈ runs (free (tasks_of count live) t) (columns W)) × (w ≤ q.size) × (after < key q) × (key q ≡ r))
      found (inl z) = inl z
      found (inr z) = inr (z.0, subst (λ x. z.0 ∈ x) e z.1, z.2, z.3, z.4)
