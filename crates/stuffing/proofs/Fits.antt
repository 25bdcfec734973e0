-- The walk along a row: the runs that begin before the place where it stands are listed; at the end all are. Assumes nothing.
use Rattle.std.proofs.Common.{◌≡◌, ℕ, suc, ◌+◌, ◌-◌, ◌<◌, ◌≤◌, Bool, true, false, cond, T, leb, ◌⊎◌, List, length, get_or, set, sym, refl, ap, ◌∙◌, subst, inl, inr, arith, le→leb, leb→le, length-set, get_or-set_other, get_or-set_same}
use native.Mathlib.Decide.{dec_lt, ℕ_discrete as dec_eq}
use lib.Dec.{nleb→lt}
use Rattle.lists.specs.Lists.{◌∈◌, range, never}
use Rattle.lists.proofs.Members.{all_pass, pass_all, in-range, range-in}
use Rattle.columns.specs.Columns.{columns, Run, runs, key, up_to}
use Rattle.columns.proofs.Runs.{Longest, runs-longest, longest-runs}
use Rattle.columns.proofs.BestFit.{key-same}
use Rattle.stuffing.specs.Fit.{unheld, Stretches, FirstHeld, Listed, NextKey, NextFit}

-- the number x is the key of a longest run that begins before `from` and is wide enough
abbrev pub Stands : (passes : ℕ → Bool) (W w from x : ℕ) → Type 0
Stands passes W w from x = (q : Run) × (Longest passes 1 W q) × (q.left < from) × (w ≤ q.size) × (key q ≡ x)

-- the first m of the keys are theirs
pub record Listing (passes : ℕ → Bool) (W w : ℕ) (keys : List ℕ) (m from : ℕ) : Type 0 where
  pub each : (i : ℕ) → i < m → Stands passes W w from (get_or keys i 0)
  pub all : (q : Run) → Longest passes 1 W q → q.left < from → w ≤ q.size → (i : ℕ) × (i < m) × (get_or keys i 0 ≡ key q)

further : {passes : ℕ → Bool} {W w from x to : ℕ} → from ≤ to → Stands passes W w from x → Stands passes W w to x
further h s = (s.0, s.1, omega (arith, s.2), s.3, s.4)

-- an open run: the columns from `from` up to c pass, and the one before them does not
pub record Standing (passes : ℕ → Bool) (W w : ℕ) (keys : List ℕ) (m from c : ℕ) : Type 0 where
  pub low : 1 ≤ from
  pub order : from < c
  pub high : c ≤ suc W
  pub room : m < length keys
  pub passing : (k : ℕ) → from ≤ k → k < c → T (passes k)
  pub edge : (k : ℕ) → suc k ≡ from → 1 ≤ k → T (passes k) → ⊥
  pub listed : Listing passes W w keys m from

-- the open run has ended at c: it is listed too, if it is wide enough
module _ {passes : ℕ → Bool} {W w : ℕ} {keys : List ℕ} {m from c : ℕ} (o : Standing passes W w keys m from c) (ended : c ≤ W → T (passes c) → ⊥) where
  -- the run from `from` up to c
  open-run : Longest passes 1 W (up_to from c)
  open-run = record {
    lies = record { low = o.low; high = omega (arith, o.high); not-empty = omega (arith, o.order); passes = λ k p q. o.passing k p (omega arith) };
    left_end = λ k e p t. o.edge k e p t;
    right_end = λ h t. let z : from + (c - from) ≡ c = omega (arith, o.order) in ended (omega (arith, z)) (subst (λ x. T (passes x)) z t);
  }

  -- a longest run that begins before c and not before `from` is the open one
  is_open : (q : Run) → Longest passes 1 W q → from ≤ q.left → q.left < c → (q.left ≡ from) × (q.size ≡ c - from)
  is_open q p l h =
      let z : q.left ≡ from = step (dec_eq q.left from) in
      (z, sizes z (dec_lt q.size (c - from)) (dec_lt (c - from) q.size))
    where
      step : Dec (q.left ≡ from) → q.left ≡ from
      step (yes e) = e
      step (no e) = absurd (p.left_end (q.left - 1) (omega arith) (omega (arith, o.low)) (o.passing (q.left - 1) (omega arith) (omega arith)))

      sizes : q.left ≡ from → Dec (q.size < c - from) → Dec (c - from < q.size) → q.size ≡ c - from
      sizes z (yes a) b = absurd (p.right_end (omega (arith, o.high)) (o.passing (q.left + q.size) (omega arith) (omega arith)))
      sizes z (no a) (yes b) = absurd (ended (omega (arith, p.lies.high)) (p.lies.passes c (omega arith) (omega arith)))
      sizes z (no a) (no b) = omega arith

  -- THE RUNS THAT BEGIN BEFORE c ARE LISTED
  pub list-one : {k r : ℕ} → k ≡ key (up_to from c) → r ≡ cond (leb w (c - from)) 1 0 → Listing passes W w (set keys m k) (m + r) c
  list-one {k} {r} y e = go (leb w (c - from)) refl
    where
      next : List ℕ
      next = set keys m k

      here : get_or next m 0 ≡ key (up_to from c)
      here = get_or-set_same keys m k 0 o.room ∙ y

      other : (i : ℕ) → i < m → get_or next i 0 ≡ get_or keys i 0
      other i h = get_or-set_other keys m i k 0 (λ z. omega arith)

      old-each : (i : ℕ) → i < m → Stands passes W w c (get_or next i 0)
      old-each i h = further (omega (arith, o.order)) (subst (Stands passes W w from) (sym (other i h)) (o.listed.each i h))

      old-all : {n : ℕ} → m ≤ n → (q : Run) → Longest passes 1 W q → q.left < from → w ≤ q.size → (i : ℕ) × (i < n) × (get_or next i 0 ≡ key q)
      old-all l q p b h = let s = o.listed.all q p b h in (s.0, omega (arith, s.1), other s.0 s.1 ∙ s.2)

      -- it is wide enough
      with_it : w ≤ c - from → r ≡ 1 → Listing passes W w next (m + r) c
      with_it h z = record { each = λ i l. each i l (dec_lt i m); all = λ q p b l. all q p b l (dec_lt q.left from) }
        where
          each : (i : ℕ) → i < m + r → Dec (i < m) → Stands passes W w c (get_or next i 0)
          each i l (yes d) = old-each i d
          each i l (no d) =
              let y : m ≡ i = omega arith in
              subst (λ x. Stands passes W w c (get_or next x 0)) y (up_to from c, open-run, o.order, h, sym here)

          all : (q : Run) → Longest passes 1 W q → q.left < c → w ≤ q.size → Dec (q.left < from) → (i : ℕ) × (i < m + r) × (get_or next i 0 ≡ key q)
          all q p b l (yes d) = old-all (omega arith) q p d l
          all q p b l (no d) =
              let y = is_open q p (omega arith) b in
              (m, omega arith, here ∙ sym (key-same q (up_to from c) y.0 y.1))

      -- it is narrow: the next one takes its place
      without : c - from < w → r ≡ 0 → Listing passes W w next (m + r) c
      without h z = record { each = λ i l. old-each i (omega arith); all = λ q p b l. all q p b l (dec_lt q.left from) }
        where
          all : (q : Run) → Longest passes 1 W q → q.left < c → w ≤ q.size → Dec (q.left < from) → (i : ℕ) × (i < m + r) × (get_or next i 0 ≡ key q)
          all q p b l (yes d) = old-all (omega arith) q p d l
          all q p b l (no d) = absurd (omega (arith, (is_open q p (omega arith) b).1))

      go : (b : Bool) → leb w (c - from) ≡ b → Listing passes W w next (m + r) c
      go true z = with_it (leb→le w (c - from) (rw z tt)) (e ∙ ap (λ b. cond b 1 0) z)
      go false z = without (nleb→lt w (c - from) (rw z tt)) (e ∙ ap (λ b. cond b 1 0) z)

-- one free column more
pub free_more : (row : List ℕ) (c k : ℕ) → get_or row c 0 ≡ 0 → ((k ≡ c → ⊥) → get_or row k 0 ≡ 0) → get_or row k 0 ≡ 0
free_more row c k z f = step (dec_eq k c)
  where
    step : Dec (k ≡ c) → get_or row k 0 ≡ 0
    step (yes e) = ap (λ x. get_or row x 0) e ∙ z
    step (no e) = f e

-- the test of a column by the stretches that begin up to it
pub unheld-out : (row : List ℕ) (c : ℕ) → T (unheld row c) → (k : ℕ) → 1 ≤ k → k ≤ c → get_or row k 0 ≤ c
unfolding unheld
unheld-out row c t k l h = leb→le (get_or row k 0) c (all_pass (λ k. leb (get_or row k 0) c) (range 1 c) t (in-range 1 c k l (omega arith)))

pub unheld-in : (row : List ℕ) (c : ℕ) → ((k : ℕ) → 1 ≤ k → k ≤ c → get_or row k 0 ≤ c) → T (unheld row c)
unfolding unheld
unheld-in row c f =
    pass_all (λ k. leb (get_or row k 0) c) (range 1 c) (λ k m. let w = range-in 1 c m in le→leb (get_or row k 0) c (f k w.low (omega (arith, w.high))))

-- WHERE THE WALK STANDS: the runs that begin before `from` are listed, and none of them reaches it; no stretch that begins before it does.
-- Each listed one has taken a column, and the stretch behind it another
pub record Passed (row : List ℕ) (W w : ℕ) (keys : List ℕ) (m from : ℕ) : Type 0 where
  pub low : 1 ≤ from
  pub high : from ≤ suc W
  pub size : length keys ≡ 129
  pub few : m + m ≤ from
  pub fewer : from ≤ W → get_or row from 0 ≡ 0 → m + m < from
  pub clear : (k : ℕ) → 1 ≤ k → k < from → get_or row k 0 ≤ from
  pub edge : from ≤ W → (k : ℕ) → suc k ≡ from → 1 ≤ k → T (unheld row from) → T (unheld row k) → ⊥
  pub listed : Listing (unheld row) W w keys m from

pub pass-first : (row : List ℕ) (W w : ℕ) {keys : List ℕ} → length keys ≡ 129 → Passed row W w keys 0 1
pass-first row W w e = record {
  low = omega arith;
  high = omega arith;
  size = e;
  few = omega arith;
  fewer = λ h z. omega arith;
  clear = λ k l h. absurd (omega arith);
  edge = λ h k e l t s. omega arith;
  listed = record { each = λ i h. absurd (omega arith); all = λ q o l h. absurd (omega (arith, o.lies.low)) };
}

module _ {row : List ℕ} {W w : ℕ} {keys : List ℕ} {m from : ℕ} (o : Passed row W w keys m from) (j : Stretches W row) where
  -- a stretch begins here: no run begins before it ends
  pub pass-held : {x : ℕ} → get_or row from 0 ≡ x → 0 < x → (from < x) × Passed row W w keys m x
  pass-held {x} e n = (
    up,
    record {
      low = omega (arith, up);
      high = omega (arith, j.most from o.low);
      size = o.size;
      few = omega (arith, up, o.few);
      fewer = λ h z. omega (arith, up, o.few);
      clear = λ k l h. clear k l h (dec_lt k from) (dec_eq k from) (dec_lt 0 (get_or row k 0));
      edge = λ p k q m t u. held k (omega (arith, up)) (omega arith) u;
      listed = record { each = λ i l. further (omega (arith, up)) (o.listed.each i l); all = λ q p b l. far q p b l (dec_lt q.left from) };
    },
  )
    where
      up : from < x
      up = omega (arith, j.up from o.low (omega arith))

      held : (k : ℕ) → from ≤ k → k < x → T (unheld row k) → ⊥
      held k l h t = omega (arith, unheld-out row k t from o.low l)

      clear : (k : ℕ) → 1 ≤ k → k < x → Dec (k < from) → Dec (k ≡ from) → Dec (0 < get_or row k 0) → get_or row k 0 ≤ x
      clear k l h (yes a) b d = omega (arith, o.clear k l a, up)
      clear k l h (no a) (yes b) d = let z : get_or row k 0 ≡ x = ap (λ i. get_or row i 0) b ∙ e in omega arith
      clear k l h (no a) (no b) (yes d) = absurd (omega (arith, j.apart from k o.low (omega arith) d))
      clear k l h (no a) (no b) (no d) = omega arith

      far : (q : Run) → Longest (unheld row) 1 W q → q.left < x → w ≤ q.size → Dec (q.left < from) → (i : ℕ) × (i < m) × (get_or keys i 0 ≡ key q)
      far q p b l (yes d) = o.listed.all q p d l
      far q p b l (no d) = absurd (held q.left (omega arith) b (p.lies.passes q.left (omega arith) (omega (arith, p.lies.not-empty))))

  -- none begins here: there is room for the key of the run from here
  pub pass-room : W ≤ 256 → from ≤ W → get_or row from 0 ≡ 0 → m < 129
  pass-room small h z = omega (arith, o.fewer h z)

  -- it reaches up to the next stretch
  pub pass-free : {to : ℕ} → W ≤ 256 → from ≤ W → get_or row from 0 ≡ 0 → FirstHeld row (from + 1) W to
      → {k r : ℕ} → k ≡ key (up_to from to) → r ≡ cond (leb w (to - from)) 1 0 → r ≤ 1
      → Passed row W w (set keys m k) (m + r) to
  pass-free {to} small inside z f {k} {r} x e one = record {
    low = omega (arith, o.low, f.low);
    high = f.high;
    size = length-set keys m k ∙ o.size;
    few = omega (arith, o.fewer inside z, f.low);
    fewer = λ p y. absurd (omega (arith, f.held p));
    clear = λ k l h. clear k l h to (omega (arith, f.low)) (dec_lt k from);
    edge = λ p k q m t u. ended p t;
    listed = list-one (record {
      low = o.low;
      order = omega (arith, f.low);
      high = f.high;
      room = omega (arith, o.size, pass-room small inside z);
      passing = free;
      edge = λ k q m t. o.edge inside k q m (free from (omega arith) (omega (arith, f.low))) t;
      listed = o.listed;
    }) ended x e;
  }
    where
      zeros : (k : ℕ) → from ≤ k → k < to → get_or row k 0 ≡ 0
      zeros k l h = free_more row from k z (λ n. f.free k (omega arith) h)

      clear : (k : ℕ) → 1 ≤ k → k < to → (c : ℕ) → from ≤ c → Dec (k < from) → get_or row k 0 ≤ c
      clear k l h c m (yes d) = omega (arith, o.clear k l d)
      clear k l h c m (no d) = omega (arith, zeros k (omega arith) h)

      free : (k : ℕ) → from ≤ k → k < to → T (unheld row k)
      free k l h = unheld-in row k (λ c a b. clear c a (omega arith) k l (dec_lt c from))

      ended : to ≤ W → T (unheld row to) → ⊥
      ended p t = let y : 1 ≤ to = omega (arith, f.low) in omega (arith, unheld-out row to t to y (omega arith), j.up to y (f.held p))

-- THE END: no room for w columns is left
pub pass-last : {row : List ℕ} {W w : ℕ} {keys : List ℕ} {m from : ℕ} → Passed row W w keys m from → W ≤ 256 → suc W < from + w → Listed (unheld row) W w keys m
pass-last {row} {W} {w} {keys} {m} {from} o small e = record {
  size = o.size;
  few = omega (arith, o.few, o.high);
  each = λ i h. let s = o.listed.each i h in (s.0, longest-runs (unheld row) 1 W s.0 s.1, s.3, s.4);
  all = λ q i l. all q (runs-longest (unheld row) 1 W i) l (dec_lt q.left from);
}
  where
    all : (q : Run) → Longest (unheld row) 1 W q → w ≤ q.size → Dec (q.left < from) → (i : ℕ) × (i < m) × (get_or keys i 0 ≡ key q)
    all q p l (yes d) = o.listed.all q p d l
    all q p l (no d) = absurd (omega (arith, p.lies.high))

-- THE NEXT KEY of the list is that of the row
pub next-listed : {passes : ℕ → Bool} {W w : ℕ} {keys : List ℕ} {m after r : ℕ} → Listed passes W w keys m → NextKey keys m after r → NextFit passes W w after r
next-listed {passes} {W} {w} {keys} {m} {after} {r} o n = record { least = least; one = found n.one }
  where
    least : (q : Run) → q ∈ runs passes (columns W) → w ≤ q.size → after < key q → r ≤ key q
    least q i l a = let s = o.all q i l in omega (arith, s.2, n.least s.0 s.1 (omega (arith, s.2)))

    found : (r ≡ never) ⊎ ((i : ℕ) × (i < m) × (get_or keys i 0 ≡ r))
        → (r ≡ never) ⊎ ((q : Run) × (q ∈ runs passes (columns W)) × (w ≤ q.size) × (after < key q) × (key q ≡ r))
    found (inl z) = inl z
    found (inr z) = let s = o.each z.0 z.1 in inr (s.0, s.1, s.2, omega (arith, s.3, z.2, n.past), s.3 ∙ z.2)
