-- The horizon list has just the longest runs of columns with equal release, by release and then column, and parts the device. Assumes nothing.
use Prim.Native.Nat.{ℕ, suc, ◌+◌, ◌-◌, ◌≤◌, ◌<◌}
use mathlib.Core.Path.{◌≡◌, refl, sym, ap, ◌∙◌, subst}
use mathlib.Core.Logic.{◌⊎◌, inl, inr}
use mathlib.Core.Bool.{Bool}
use mathlib.Core.List.{List, map}
use native.Mathlib.Omega.{arith}
use lib.Dec.{T, eqb, eqb→eq, eqb_refl}
use Rattle.lists.specs.Lists.{◌∈◌, rising}
use Rattle.lists.proofs.Members.{each_in, in-each, map-in, in_map, in-range, in-rising}
use Rattle.lists.proofs.Order.{Sorted, sorted-map, sorted-each, rising-sorted, sorted-compare}
use Rattle.tasks.specs.declared.Task.{Task}
use Rattle.columns.specs.Columns.{columns, Run, runs}
use Rattle.columns.proofs.Runs.{Gap, Longest, runs-sorted, runs-cover, runs-longest, longest-runs}
use Rattle.planners.specs.Planners.{release}
use Rattle.lookups.specs.Lookups.{Strip, strip, horizon_list}

-- A LONGEST RUN OF COLUMNS WITH EQUAL RELEASE
pub record EqualRelease (W now : ℕ) (ts : List Task) (s : Strip) : Type 0 where
  pub from_one : 1 ≤ s.first
  pub some-column : s.first ≤ s.last
  pub on-device : s.last ≤ W
  pub equal : (c : ℕ) → s.first ≤ c → c ≤ s.last → release now ts c ≡ s.release
  pub left_end : (c : ℕ) → suc c ≡ s.first → 1 ≤ c → release now ts c ≡ s.release → ⊥
  pub right_end : s.last < W → release now ts (suc s.last) ≡ s.release → ⊥

-- by release and then column
pub data Earlier (s t : Strip) : Type 0 where
  sooner : s.release < t.release → Earlier s t
  lefter : s.release ≡ t.release → s.first < t.first → Earlier s t

is-eqb : {a b : ℕ} → a ≡ b → T (eqb a b)
is-eqb {a} e = subst (λ x. T (eqb a x)) e (eqb_refl a)

module _ (W now : ℕ) (ts : List Task) where
  abbrev at : ℕ → ℕ → Bool
  at t c = eqb (release now ts c) t

  abbrev times : List ℕ
  times = map (release now ts) (columns W)

  -- EXACTLY THESE RUNS ARE LISTED
  pub listed-equal : {s : Strip} → s ∈ horizon_list W now ts → EqualRelease W now ts s
  unfolding horizon_list
  listed-equal {s} m =
      let k = each_in (rising times) (λ t. map (strip t) (runs (at t) (columns W))) m in
      let r = map-in (strip k.0) (runs (at k.0) (columns W)) k.2 in
      let o = runs-longest (at k.0) 1 W r.1 in
      let f : s.first ≡ r.0.left = ap (λ x. x.first) r.2 in
      let l : s.last ≡ r.0.left + r.0.size - 1 = ap (λ x. x.last) r.2 in
      let e : s.release ≡ k.0 = ap (λ x. x.release) r.2 in
      let n = o.lies.not-empty in
      record {
        from_one = omega (arith, o.lies.low);
        some-column = omega arith;
        on-device = omega (arith, o.lies.high);
        equal = λ c p q. eqb→eq (release now ts c) k.0 (o.lies.passes c (omega arith) (omega arith)) ∙ sym e;
        left_end = λ c p q z. o.left_end c (p ∙ f) q (is-eqb (z ∙ e));
        right_end = λ p z.
            let y : suc s.last ≡ r.0.left + r.0.size = omega arith in
            o.right_end (omega arith) (subst (λ c. T (at k.0 c)) y (is-eqb (z ∙ e)));
      }

  pub equal-listed : (s : Strip) → EqualRelease W now ts s → s ∈ horizon_list W now ts
  unfolding horizon_list
  equal-listed s o =
      let r : Run = record { left = s.first; size = suc s.last - s.first } in
      let among = longest-runs (at s.release) 1 W r longest in
      let same : strip s.release r ≡ s = λ i. record { first = s.first; last = back i; release = s.release } in
      let strips = map (strip s.release) (runs (at s.release) (columns W)) in
      let listed : s ∈ strips = subst (λ x. x ∈ strips) same (in_map (strip s.release) among) in
      in-each (λ t. map (strip t) (runs (at t) (columns W))) (in-rising times there-is) listed
    where
      back : s.first + (suc s.last - s.first) - 1 ≡ s.last
      back = omega (arith, o.some-column)

      -- the release stands among the columns' releases: it is that of the run's first column
      there-is : s.release ∈ times
      there-is =
          subst (λ x. x ∈ times) (o.equal s.first (omega arith) o.some-column)
          (in_map (release now ts) (in-range 1 W s.first o.from_one (omega (arith, o.some-column, o.on-device))))

      longest : Longest (at s.release) 1 W (record { left = s.first; size = suc s.last - s.first })
      longest = record {
        lies = record {
          low = o.from_one;
          high = omega (arith, o.some-column, o.on-device);
          not-empty = omega (arith, o.some-column);
          passes = λ c p q. rw (o.equal c p (omega (arith, o.some-column))) (eqb_refl s.release);
        };
        left_end = λ c p q t. o.left_end c p q (eqb→eq (release now ts c) s.release t);
        right_end = λ p t.
            let y : s.first + (suc s.last - s.first) ≡ suc s.last = omega (arith, o.some-column) in
            o.right_end (omega (arith, o.some-column)) (eqb→eq (release now ts (suc s.last)) s.release (rw y at t));
      }

  -- IN ORDER: by release and then column
  pub horizon-ordered : Sorted Earlier (horizon_list W now ts)
  unfolding horizon_list
  horizon-ordered =
      sorted-each ◌<◌ Earlier (λ t. map (strip t) (runs (at t) (columns W)))
      (λ t. sorted-map Gap Earlier (strip t) (λ a b g. lefter refl (omega (arith, g.gap))) (runs-sorted (at t) 1 W))
      (λ t u h a b m n. sooner (ahead t u h a b m n))
      (rising-sorted times)
    where
      ahead : (t u : ℕ) → t < u → (a b : Strip) → a ∈ map (strip t) (runs (at t) (columns W)) → b ∈ map (strip u) (runs (at u) (columns W)) → a.release < b.release
      ahead t u h a b m n =
          let x : a.release ≡ t = ap (λ z. z.release) (map-in (strip t) (runs (at t) (columns W)) m).2 in
          let y : b.release ≡ u = ap (λ z. z.release) (map-in (strip u) (runs (at u) (columns W)) n).2 in
          omega arith

  -- NOTHING LEFT OUT, NOTHING TWICE: each column lies in one run of the list, and in one only
  pub record Lying (c : ℕ) : Type 0 where
    pub strip : Strip
    pub among : strip ∈ horizon_list W now ts
    pub from : strip.first ≤ c
    pub to : c ≤ strip.last

  pub each-lies : (c : ℕ) → 1 ≤ c → c ≤ W → Lying c
  unfolding horizon_list
  each-lies c l h =
      let t = release now ts c in
      let q = runs-cover (at t) 1 W c l (omega arith) (eqb_refl t) in
      record {
        strip = strip t q.run;
        among = in-each (λ u. map (strip u) (runs (at u) (columns W))) (in-rising times (in_map (release now ts) (in-range 1 W c l (omega arith)))) (in_map (strip t) q.among);
        from = q.low;
        to = omega (arith, q.high);
      }

  pub lies-once : (c : ℕ) (p q : Lying c) → p.strip ≡ q.strip
  lies-once c p q = step (sorted-compare Earlier horizon-ordered p.among q.among)
    where
      a : EqualRelease W now ts p.strip
      a = listed-equal p.among

      b : EqualRelease W now ts q.strip
      b = listed-equal q.among

      releases : p.strip.release ≡ q.strip.release
      releases = sym (a.equal c p.from p.to) ∙ b.equal c q.from q.to

      -- of two runs with a common column, neither begins behind the other
      never : (s t : Strip) → EqualRelease W now ts s → EqualRelease W now ts t → s.release ≡ t.release → s.first < t.first → t.first ≤ c → c ≤ s.last → ⊥
      never s t x y e l m n =
          y.left_end (t.first - 1) (omega arith) (omega (arith, x.from_one)) (x.equal (t.first - 1) (omega arith) (omega arith) ∙ e)

      step : (p.strip ≡ q.strip) ⊎ (Earlier p.strip q.strip ⊎ Earlier q.strip p.strip) → p.strip ≡ q.strip
      step (inl z) = z
      step (inr (inl (sooner h))) = absurd (omega (arith, releases))
      step (inr (inl (lefter e h))) = absurd (never p.strip q.strip a b e h q.from p.to)
      step (inr (inr (sooner h))) = absurd (omega (arith, releases))
      step (inr (inr (lefter e h))) = absurd (never q.strip p.strip b a e h p.from q.to)
