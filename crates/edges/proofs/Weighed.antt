-- The walk over the left edges: the runs that begin before the place where it stands are weighed; at the end all are. Assumes nothing.
use Prim.Native.Nat.{ℕ, suc, ◌+◌, ◌-◌, ◌≤◌, ◌<◌, min}
use mathlib.Core.Path.{◌≡◌, refl, sym, ap, ◌∙◌, subst}
use mathlib.Core.Logic.{◌⊎◌, inl, inr}
use mathlib.Core.Bool.{Bool, true, false, not, ◌||◌}
use mathlib.Core.List.{List}
use mathlib.Core.Option.{some}
use native.Mathlib.Omega.{arith}
use native.Mathlib.Decide.{dec_lt, ℕ_discrete as dec_eq}
use lib.Dec.{T, leb, ltb, leb→le, le→leb, nleb→lt, ltb→lt, lt→ltb}
use Rattle.lists.specs.Lists.{◌∈◌, keep, head?, never}
use Rattle.lists.proofs.Bools.{or_cases, or_l, or_r, bool, is_true, same_bool}
use Rattle.lists.proofs.Members.{keep-none}
use Rattle.lists.proofs.Order.{sorted-compare, first-keep}
use Rattle.words.specs.Words.{column, Least}
use Rattle.columns.specs.Columns.{columns, Run, runs, best_fit, key, left_of, up_to}
use Rattle.columns.proofs.Runs.{Gap, runs-sorted, Longest, runs-longest, longest-runs}
use Rattle.columns.proofs.BestFit.{fit-in, in-fit, best-rising, key_left, key_counts}
use Rattle.std.specs.Prelude.{Some, None}
use Rattle.edges.specs.Edges.{Fitting, Picked}

-- a test and its negation
absent : {b : Bool} → b ≡ true → T (not b) → ⊥
absent {b} e t = subst (λ x. T (not x)) e t

clear : {b : Bool} → b ≡ false → T (not b)
clear e = subst (λ x. T (not x)) (sym e) tt

neither : (x y : Bool) → (x || y) ≡ false → T (not x) × T (not y)
neither false y e = (tt, clear e)
neither true y e = absurd (absent refl (clear e))

-- a run begins at c, found by its place or by the column before it
pub edge-first : (held : List ℕ) (c : ℕ) → c ≤ 1 → true ≡ (leb c 1 || column held (c - 1))
edge-first held c h = sym (is_true (leb c 1 || column held (c - 1)) (or_l (leb c 1) (column held (c - 1)) (le→leb c 1 h)))

pub edge-next : (held : List ℕ) (c : ℕ) {r : ℕ} → Least (column held) (c - 1) 257 r → 1 < c → c ≤ 256 → ltb r c ≡ (leb c 1 || column held (c - 1))
edge-next held c {r} f l h = same_bool (ltb r c) (leb c 1 || column held (c - 1)) to (λ t. from (or_cases (leb c 1) (column held (c - 1)) t))
  where
    to : T (ltb r c) → T (leb c 1 || column held (c - 1))
    to t =
        let z : r ≡ c - 1 = omega (arith, ltb→lt r c t, f.low) in
        or_r (leb c 1) (column held (c - 1)) (subst (λ x. T (column held x)) z (subst T (sym (f.here (omega arith))) tt))

    from : T (leb c 1) ⊎ T (column held (c - 1)) → T (ltb r c)
    from (inl t) = absurd (omega (arith, leb→le c 1 t))
    from (inr t) = step (dec_lt r c)
      where
        step : Dec (r < c) → T (ltb r c)
        step (yes d) = lt→ltb r c d
        step (no d) = absurd (absent (is_true (column held (c - 1)) t) (clear (f.before (c - 1) (omega arith) (omega arith))))

module _ (held fit : List ℕ) where
  abbrev free : ℕ → Bool
  free c = not (column held c)

  -- a longest run of clear columns whose left edge fits
  pub record Edge (q : Run) : Type 0 where
    pub longest : Longest free 1 256 q
    pub fits : column fit q.left ≡ true

  -- best is the least key of the edges before `at`, or never
  pub record Weighed (at best : ℕ) : Type 0 where
    pub least : (q : Run) → Edge q → q.left < at → best ≤ key q
    pub one : (best ≡ never) ⊎ ((q : Run) × Edge q × (key q ≡ best))

  -- the columns that fit are clear
  abbrev Apart : Type 0
  Apart = (c : ℕ) → column fit c ≡ true → column held c ≡ false

  -- WHERE THE WALK STANDS
  pub record Stands (at best : ℕ) : Type 0 where
    pub low : 1 ≤ at
    pub high : at ≤ 257
    pub most : best ≤ never
    pub weighed : Apart → Weighed at best

  pub stands-first : Stands 1 never
  stands-first = record {
    low = omega arith;
    high = omega arith;
    most = omega arith;
    weighed = λ a. record { least = λ q e l. absurd (omega (arith, e.longest.lies.low)); one = inl refl };
  }

  -- no column fits any more
  pub stands-end : {at best c : ℕ} → Stands at best → Least (column fit) at 257 c → 257 ≤ c → Stands 257 best
  stands-end {at} {best} {c} o f h = record {
    low = omega arith;
    high = omega arith;
    most = o.most;
    weighed = λ a. record { least = λ q e l. far a q e l (dec_lt q.left at); one = (o.weighed a).one };
  }
    where
      far : Apart → (q : Run) → Edge q → q.left < 257 → Dec (q.left < at) → best ≤ key q
      far a q e l (yes d) = (o.weighed a).least q e d
      far a q e l (no d) = absurd (absent e.fits (clear (f.before q.left (omega arith) (omega arith))))

  -- c is the next that fits, and the columns from it up to `to` are clear
  module _ {at best c to : ℕ} (o : Stands at best) (f : Least (column fit) at 257 c) (h : c < 257) (g : Least (column held) (c + 1) 257 to) where
    here : column fit c ≡ true
    here = f.here h

    clears : Apart → (k : ℕ) → c ≤ k → k < to → T (free k)
    clears a k l m = step (dec_eq k c)
      where
        step : Dec (k ≡ c) → T (free k)
        step (yes e) = subst (λ x. T (free x)) (sym e) (clear (a c here))
        step (no e) = clear (g.before k (omega arith) m)

    -- an edge before `to` that is not weighed is c
    only : Apart → (q : Run) → Edge q → at ≤ q.left → q.left < to → q.left ≡ c
    only a q e l m = step (dec_lt q.left c) (dec_lt c q.left)
      where
        step : Dec (q.left < c) → Dec (c < q.left) → q.left ≡ c
        step (yes d) x = absurd (absent e.fits (clear (f.before q.left l d)))
        step (no d) (yes x) =
            absurd (e.longest.left_end (q.left - 1) (omega arith) (omega (arith, o.low, f.low)) (clears a (q.left - 1) (omega arith) (omega arith)))
        step (no d) (no x) = omega arith

    -- the run from c up to `to`
    abbrev run : Run
    run = up_to c to

    edge-run : Apart → (leb c 1 || column held (c - 1)) ≡ true → Edge run
    edge-run a b = record {
      longest = record {
        lies = record {
          low = omega (arith, o.low, f.low);
          high = omega (arith, g.low, g.high);
          not-empty = omega (arith, g.low);
          passes = λ k l m. clears a k l (omega (arith, g.low));
        };
        left_end = λ k e l t. before k e l t (or_cases (leb c 1) (column held (c - 1)) (subst T (sym b) tt));
        right_end = λ l t. let z : c + (to - c) ≡ to = omega (arith, g.low) in absent (g.here (omega arith)) (subst (λ x. T (free x)) z t);
      };
      fits = here;
    }
      where
        before : (k : ℕ) → suc k ≡ c → 1 ≤ k → T (free k) → T (leb c 1) ⊎ T (column held (c - 1)) → ⊥
        before k e l t (inl u) = omega (arith, leb→le c 1 u)
        before k e l t (inr u) = let z : k ≡ c - 1 = omega arith in absent (is_true (column held (c - 1)) u) (subst (λ x. T (free x)) z t)

    -- an edge at c has that run's key
    same : Edge run → (q : Run) → Edge q → q.left ≡ c → key q ≡ key run
    same r q e z = step (sorted-compare Gap (runs-sorted free 1 256) (longest-runs free 1 256 q e.longest) (longest-runs free 1 256 run r.longest))
      where
        step : (q ≡ run) ⊎ (Gap q run ⊎ Gap run q) → key q ≡ key run
        step (inl x) = ap key x
        step (inr (inl x)) = absurd (omega (arith, x.gap))
        step (inr (inr x)) = absurd (omega (arith, x.gap))

    -- A RUN BEGINS AT c: it is weighed
    pub stands-edge : {r : ℕ} → (leb c 1 || column held (c - 1)) ≡ true → r ≡ min (key run) best → Stands to r
    stands-edge {r} b z = record {
      low = omega (arith, g.low);
      high = g.high;
      most = omega (arith, o.most);
      weighed = λ a. record {
        least = λ q e l. least a q e l (dec_lt q.left at);
        one = one a (dec_lt (key run) best);
      };
    }
      where
        least : Apart → (q : Run) → Edge q → q.left < to → Dec (q.left < at) → r ≤ key q
        least a q e l (yes d) = omega (arith, (o.weighed a).least q e d)
        least a q e l (no d) = omega (arith, same (edge-run a b) q e (only a q e (omega arith) l))

        one : Apart → Dec (key run < best) → (r ≡ never) ⊎ ((q : Run) × Edge q × (key q ≡ r))
        one a (yes d) = inr (run, edge-run a b, omega arith)
        one a (no d) = let e : best ≡ r = omega arith in subst (λ x. (x ≡ never) ⊎ ((q : Run) × Edge q × (key q ≡ x))) e (o.weighed a).one

    -- none begins at c, nor before `to`
    pub stands-over : (leb c 1 || column held (c - 1)) ≡ false → Stands to best
    stands-over b = record {
      low = omega (arith, g.low);
      high = g.high;
      most = o.most;
      weighed = λ a. record { least = λ q e l. least a q e l (dec_lt q.left at); one = (o.weighed a).one };
    }
      where
        none_here : (q : Run) → Edge q → q.left ≡ c → T (not (leb c 1)) × T (free (c - 1)) → ⊥
        none_here q e z (u, v) = let k = nleb→lt c 1 u in e.longest.left_end (c - 1) (omega arith) (omega arith) v

        least : Apart → (q : Run) → Edge q → q.left < to → Dec (q.left < at) → best ≤ key q
        least a q e l (yes d) = (o.weighed a).least q e d
        least a q e l (no d) = absurd (none_here q e (only a q e (omega arith) l) (neither (leb c 1) (column held (c - 1)) b))

  -- on a device of W columns, with all past it held, the longest runs are those of the 256
  module _ {W w : ℕ} (d : Fitting held fit W w) where
    apart : Apart
    apart c e = d.clear c e c (omega arith) (omega (arith, d.wide))

    past : (c : ℕ) → W < c → c ≤ 256 → T (free c) → ⊥
    past c l h = absent (d.beyond c l h)

    to-device : {q : Run} → Longest free 1 256 q → Longest free 1 W q
    to-device {q} o = record {
      lies = record { low = o.lies.low; high = inside (dec_lt W (q.left + q.size - 1)); not-empty = o.lies.not-empty; passes = o.lies.passes };
      left_end = o.left_end;
      right_end = λ h t. o.right_end (omega (arith, d.small)) t;
    }
      where
        inside : Dec (W < q.left + q.size - 1) → q.left + q.size ≤ 1 + W
        inside (no h) = omega arith
        inside (yes h) =
            let l = o.lies in
            let k = q.left + q.size - 1 in
            absurd (past k h (omega (arith, l.high)) (l.passes k (omega (arith, l.not-empty)) (omega (arith, l.not-empty))))

    of-device : {q : Run} → Longest free 1 W q → Longest free 1 256 q
    of-device {q} o = record {
      lies = record { low = o.lies.low; high = omega (arith, o.lies.high, d.small); not-empty = o.lies.not-empty; passes = o.lies.passes };
      left_end = o.left_end;
      right_end = λ h t. ended h t (dec_lt (q.left + q.size) (1 + W));
    }
      where
        ended : q.left + q.size < 257 → T (free (q.left + q.size)) → Dec (q.left + q.size < 1 + W) → ⊥
        ended h t (yes k) = o.right_end k t
        ended h t (no k) = past (q.left + q.size) (omega arith) (omega arith) t

    abbrev rs : List Run
    rs = runs free (columns W)

    -- the run of an edge is wide enough
    room : {q : Run} → Edge q → w ≤ q.size
    room {q} e = step (dec_lt q.size w)
      where
        step : Dec (q.size < w) → w ≤ q.size
        step (no h) = omega arith
        step (yes h) =
            let k = d.high q.left e.fits in
            absurd (e.longest.right_end (omega arith) (clear (d.clear q.left e.fits (q.left + q.size) (omega arith) (omega arith))))

    edge_in : {q : Run} → Edge q → q ∈ best_fit w rs
    edge_in {q} e = in-fit w rs (longest-runs free 1 W q (to-device e.longest)) (room e)

    in-edge : {q : Run} → q ∈ best_fit w rs → column fit q.left ≡ true → Edge q
    in-edge m e = record { longest = of-device (runs-longest free 1 W (fit-in w rs m).0); fits = e }

    -- a run that is no edge does not pass
    dull : (q : Run) → q ∈ best_fit w rs → (Edge q → ⊥) → T (not (column fit q.left))
    dull q m f = step (bool (column fit q.left))
      where
        step : T (column fit q.left) ⊎ T (not (column fit q.left)) → T (not (column fit q.left))
        step (inl t) = absurd (f (in-edge m (is_true (column fit q.left) t)))
        step (inr t) = t

    -- NO EDGE
    pub stands-none : {at best : ℕ} → Stands at best → 257 ≤ at → never ≤ best → Picked (column fit) w rs None
    stands-none {at} {best} o h l = keep-none (λ x. column fit x.left) (best_fit w rs) (λ q m. dull q m (λ e. far q e))
      where
        far : (q : Run) → Edge q → ⊥
        far q e = let k = e.longest.lies in omega (arith, (o.weighed apart).least q e (omega (arith, k.high, k.not-empty)), (key_counts (omega arith) k).1)

    -- THE LEAST KEY'S LEFT EDGE
    pub stands_one : {at best r : ℕ} → Stands at best → 257 ≤ at → best < never → r ≡ left_of best → Picked (column fit) w rs (Some r)
    stands_one {at} {best} {r} o h l i = go (o.weighed apart).one
      where
        go : (best ≡ never) ⊎ ((q : Run) × Edge q × (key q ≡ best)) → Picked (column fit) w rs (Some r)
        go (inl z) = absurd (omega arith)
        go (inr (q, e, z)) =
            let k = e.longest.lies in
            let c : q.left ≡ r = sym (key_left (omega arith) k) ∙ ap left_of z ∙ sym i in
            (q, c, first)
          where
            lesser : (x : Run) → key x < key q → Edge x → ⊥
            lesser x b f = let j = f.longest.lies in omega (arith, (o.weighed apart).least x f (omega (arith, j.high, j.not-empty)))

            first : head? (keep (λ x. column fit x.left) (best_fit w rs)) ≡ some q
            first =
                first-keep (λ x y. key x < key y) (λ x. column fit x.left) (best-rising w free d.small) (edge_in e) (subst T (sym e.fits) tt)
                (λ x m b. dull x m (lesser x b))
