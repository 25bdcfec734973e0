-- The grid: with g = 1 the definitions are document 01's; where all live tasks lie on it, every planner answers as with g = 1. Assumes nothing.
use Prim.Native.Nat.{ℕ, zero, suc, ◌+◌, ◌-◌, ◌*◌, ◌/◌, ◌≤◌, ◌<◌, max}
use mathlib.Core.Path.{◌≡◌, refl, sym, ap, ◌∙◌, subst, fun_ext}
use mathlib.Core.Logic.{◌⊎◌, inl, inr}
use mathlib.Core.Bool.{Bool, not}
use mathlib.Core.Option.{Option, none, some}
use mathlib.Core.List.{List, [], ◌∷◌, ◌++◌, map, map-append}
use native.Mathlib.Omega.{arith}
use native.Mathlib.Nat.{zero-add, div-mul-le_self, lt-div-mul-add}
use native.Mathlib.Decide.{dec_lt}
use lib.Dec.{T, leb, ltb, leb→le, le→leb, not_T, T_not}
use Rattle.lists.specs.Lists.{◌∈◌, keep, some?, head?, first_answer, range}
use Rattle.lists.proofs.Append.{range-more}
use Rattle.lists.proofs.Bools.{not-not}
use Rattle.lists.proofs.Members.{keep-in, keep_all, none_pass, some-pass, map-in, highest-one, highest-from}
use Rattle.ways.specs.Ways.{pair, Ways, is_open}
use Rattle.tasks.specs.declared.Task.{Task}
use Rattle.tasks.specs.declared.Submission.{Submission}
use Rattle.tasks.specs.Numbers.{multiple, may_begin}
use Rattle.tasks.specs.Tasks.{finish, past, meets, covers, holds, booked}
use Rattle.tasks.proofs.Grid.{multiple-zero, multiple-steps, multiple-gap, begins-after, multiple-one, begin-one}
use Rattle.tasks.proofs.Laws.{Common, holds-out, holds-in, covers-in, covers_out}
use Rattle.columns.specs.Columns.{columns, Run, runs, best_fit}
use Rattle.columns.proofs.Runs.{Longest, runs-longest}
use Rattle.planners.specs.Openings.{Place, ways, full}
use Rattle.planners.specs.Planners.{free, release, on_grid, left_edge, visited, clear_of_waiting, candidates, released_edges, reference, horizon, stuffing, planned}
use Rattle.planners.specs.Lent.{Stepped, run_at}
use Rattle.planners.proofs.Openings.{Opening, Before, earlier, lower, full-opens, full-first, full-rejects}
use Rattle.planners.proofs.Planners.{release-over, waiting-is-all}

-- WITH g = 1 EVERY DEFINITION IS DOCUMENT 01'S: every column is a place, and every run is tried
pub all-on-grid : (rs : List Run) → on_grid 1 rs ≡ rs
unfolding on_grid
all-on-grid rs = keep_all (λ r. may_begin 1 r.left) rs (λ r m. rw (begin-one r.left) tt)

module _ (W now : ℕ) (ts : List Task) (a : Submission) where
  pub ways-one : ways 1 W now ts a ≡ record {
    things = ts;
    in_way = λ s c u. meets (booked now a s c) u;
    places = range 1 (suc W - a.w);
    before = ltb;
    from = now;
    starts = suc a.d - (now + a.e);
  }
  unfolding ways
  ways-one = ap there (keep_all (may_begin 1) (range 1 (suc W - a.w)) (λ c m. rw (begin-one c) tt))
    where
      there : List ℕ → Ways ℕ Task
      there cs = record {
        things = ts;
        in_way = λ s c u. meets (booked now a s c) u;
        places = cs;
        before = ltb;
        from = now;
        starts = suc a.d - (now + a.e);
      }

  pub candidates-one : (i : ℕ) → candidates 1 W now ts a i ≡ keep (clear_of_waiting W now ts a i) (map (left_edge i) (best_fit a.w (runs (free ts i) (columns W))))
  unfolding candidates
  candidates-one i = ap (λ rs. keep (clear_of_waiting W now ts a i) (map (left_edge i) (best_fit a.w rs))) (all-on-grid (runs (free ts i) (columns W)))

  pub released-one : (i : ℕ) → released_edges 1 W now ts a i ≡ map (left_edge i) (best_fit a.w (runs (λ c. leb (release now ts c) i) (columns W)))
  unfolding released_edges
  released-one i = ap (λ rs. map (left_edge i) (best_fit a.w rs)) (all-on-grid (runs (λ c. leb (release now ts c) i) (columns W)))

  -- and what is clear of waiting tasks is open
  pub waiting-one : (i : ℕ) {p : Place} → p ∈ map (left_edge i) (best_fit a.w (runs (free ts i) (columns W)))
      → clear_of_waiting W now ts a i p ≡ is_open (ways 1 W now ts a) p
  waiting-one i {p} m =
      waiting-is-all 1 W now ts a i (subst (λ rs. p ∈ map (left_edge i) (best_fit a.w rs)) (sym (all-on-grid (runs (free ts i) (columns W)))) m)

-- all tasks lie on the grid of 1
pub stepped-one : (W w : ℕ) (ts : List Task) → Stepped 1 W w ts
unfolding may_begin
stepped-one W w ts = record {
  step = omega arith;
  device = rw (multiple-one W) tt;
  width = rw (multiple-one w) tt;
  begins = λ u m. rw (begin-one u.column) tt;
  ends = λ u m. rw (begin-one (past u)) tt;
}

-- a run of openings, a step apart: one more at its end
pub run_more : (t step from n : ℕ) → run_at t step from (n + 1) ≡ run_at t step from n ++ (pair t (from + n * step) ∷ [])
run_more t step from n = ap (map at) (range-more 0 n) ∙ map-append at (range 0 n) ((0 + n) ∷ []) ∙ ap (λ x. map at (range 0 n) ++ (at x ∷ [])) (zero-add n)
  where
    at : ℕ → Place
    at k = pair t (from + k * step)

-- where a task has column c and not the next, c is a multiple of the grid
pub ends-on-grid : {g W w : ℕ} {ts : List Task} → Stepped g W w ts → {u : Task} → u ∈ ts → (c : ℕ) → u.column ≤ c → c < past u → T (not (covers (suc c) u)) → T (multiple g c)
unfolding may_begin
ends-on-grid {g} o {u} m c l h n = subst (λ x. T (multiple g x)) (sym end) (o.ends u m)
  where
    last : Dec (suc c < past u) → c ≡ past u - 1
    last (yes k) = absurd (T_not (covers (suc c) u) n (covers-in (suc c) u (omega arith) k))
    last (no k) = omega arith

    end : c ≡ past u - 1
    end = last (dec_lt (suc c) (past u))

-- A RUN BEGINS ON THE GRID where a column that does not pass before one that does is a multiple
pub runs-begin : (g W : ℕ) (f : ℕ → Bool) → ((c : ℕ) → T (not (f c)) → T (f (suc c)) → T (multiple g c)) → on_grid g (runs f (columns W)) ≡ runs f (columns W)
unfolding on_grid
runs-begin g W f ends = keep_all (λ r. may_begin g r.left) (runs f (columns W)) each
  where
    each : (r : Run) → r ∈ runs f (columns W) → T (may_begin g r.left)
    each r m = subst (λ c. T (may_begin g c)) last (go (r.left - 1) refl)
      where
        o : Longest f 1 W r
        o = runs-longest f 1 W m

        last : suc (r.left - 1) ≡ r.left
        last = omega (arith, o.lies.low)

        go : (c : ℕ) → r.left - 1 ≡ c → T (may_begin g (suc (r.left - 1)))
        go zero e = subst (λ c. T (may_begin g (suc c))) (sym e) (begins-after g 0 (multiple-zero g))
        go (suc c) e =
            begins-after g (r.left - 1)
            (ends (r.left - 1) (not_T (f (r.left - 1)) (λ t. o.left_end (r.left - 1) last (omega arith) t))
            (subst (λ x. T (f x)) (sym last) (o.lies.passes r.left (omega arith) (omega (arith, o.lies.not-empty)))))

module _ {g W : ℕ} {ts : List Task} (now : ℕ) (a : Submission) (o : Stepped g W a.w ts) where
  -- EVERY INTERVAL FREE AT A TIME begins on the grid
  pub free-begin : (i : ℕ) → on_grid g (runs (free ts i) (columns W)) ≡ runs (free ts i) (columns W)
  unfolding free
  free-begin i = runs-begin g W (free ts i) ends
    where
      ends : (c : ℕ) → T (not (not (some? (holds i c) ts))) → T (not (some? (holds i (suc c)) ts)) → T (multiple g c)
      ends c x y =
          let u = some-pass (holds i c) ts (not-not (some? (holds i c) ts) x) in
          let h = holds-out i c u.it u.passes in
          ends-on-grid o u.among c h.left h.right (not_T (covers (suc c) u.it) (λ t.
          let k = covers_out (suc c) u.it t in
          T_not (holds i (suc c) u.it) (none_pass (holds i (suc c)) ts y u.among)
          (holds-in i (suc c) u.it (record { started = h.started; unfinished = h.unfinished; left = k.0; right = k.1 }))))

  -- and so does every run of columns released by it
  pub released-begin : (i : ℕ) → on_grid g (runs (λ c. leb (release now ts c) i) (columns W)) ≡ runs (λ c. leb (release now ts c) i) (columns W)
  unfolding release
  released-begin i =
      runs-begin g W (λ c. leb (release now ts c) i) (λ c x y.
      ends c (leb→le (release now ts (suc c)) i y) (λ h. T_not (leb (release now ts c) i) x (le→leb (release now ts c) i h))
      (highest-one now (map finish (keep (covers c) ts))))
    where
      ends : (c : ℕ) → release now ts (suc c) ≤ i → (release now ts c ≤ i → ⊥)
          → (release now ts c ≡ now) ⊎ (release now ts c ∈ map finish (keep (covers c) ts)) → T (multiple g c)
      ends c y x (inl z) = absurd (x (omega (arith, highest-from now (map finish (keep (covers (suc c)) ts)))))
      ends c y x (inr n) =
          let m = map-in finish (keep (covers c) ts) n in
          let k = keep-in (covers c) ts m.1 in
          let h = covers_out c m.0 k.1 in
          ends-on-grid o k.0 c h.0 h.1 (not_T (covers (suc c) m.0) (λ t.
          x (omega (arith, m.2, release-over now ts (suc c) k.0 t))))

  -- SO THE FILTER DROPS NOTHING
  candidates-on : candidates g W now ts a ≡ candidates 1 W now ts a
  candidates-on = fun_ext (λ i. unfold candidates in
      ap (λ rs. keep (clear_of_waiting W now ts a i) (map (left_edge i) (best_fit a.w rs))) (free-begin i ∙ sym (all-on-grid (runs (free ts i) (columns W)))))

  released-on : released_edges g W now ts a ≡ released_edges 1 W now ts a
  released-on = fun_ext (λ i. unfold released_edges in
      ap (λ rs. map (left_edge i) (best_fit a.w rs)) (released-begin i ∙ sym (all-on-grid (runs (λ c. leb (release now ts c) i) (columns W)))))

  -- an opening on the grid is one
  wider : {p : Place} → Opening g W now ts a p → Opening 1 W now ts a p
  wider {p} k = record {
    from-now = k.from-now;
    in-time = k.in-time;
    from_one = k.from_one;
    on-device = k.on-device;
    on-grid = rw (begin-one p.place) tt;
    apart = k.apart;
  }

  -- the column of the grid next to the left
  under : ℕ → ℕ
  under c = suc ((c - 1) / g * g)

  under_left : (c : ℕ) → 1 ≤ c → under c ≤ c
  unfolding under
  under_left c h = let z = div-mul-le_self (c - 1) g in omega arith

  -- AN OPENING CAN BE MOVED LEFT TO THE GRID: a task in the way there would be in the way here
  moved : {p : Place} → Opening 1 W now ts a p → Opening g W now ts a (pair p.start (under p.place))
  unfolding under may_begin
  moved {p} k = record {
    from-now = k.from-now;
    in-time = k.in-time;
    from_one = omega arith;
    on-device = omega (arith, k.on-device, left);
    on-grid = begins-after g ((c - 1) / g * g) grid;
    apart = λ u m x y. k.apart u m (here u m x) y;
  }
    where
      c : ℕ
      c = p.place

      left : under c ≤ c
      left = under_left c k.from_one

      near : c < under c + g
      near = let z = lt-div-mul-add {a = c - 1} (let y : 0 < g = omega (arith, o.step) in y) in omega arith

      grid : T (multiple g ((c - 1) / g * g))
      grid = multiple-steps g ((c - 1) / g)

      here : (u : Task) → u ∈ ts → Common (under c) (under c + a.w) u.column (past u) → Common c (c + a.w) u.column (past u)
      here u m x =
          let z = multiple-gap g ((c - 1) / g * g) (past u - 1) grid (o.ends u m) (omega (arith, x.low₁, x.high₂)) in
          record {
            it = max c u.column;
            low₁ = omega arith;
            high₁ = omega (arith, x.low₁, x.high₁, x.low₂, left);
            low₂ = omega arith;
            high₂ = omega (arith, x.low₁, x.high₂, x.low₂, near);
          }

  -- so the first opening of all lies on the grid
  first_on : {p : Place} → full 1 W now ts a ≡ some p → Opening g W now ts a p
  first_on {p} e = go (full-first 1 W now ts a p (pair p.start (under p.place)) e (wider here))
    where
      here : Opening g W now ts a (pair p.start (under p.place))
      here = moved (full-opens 1 W now ts a p e)

      left : under p.place ≤ p.place
      left = under_left p.place (full-opens 1 W now ts a p e).from_one

      go : (pair p.start (under p.place) ≡ p) ⊎ Before p (pair p.start (under p.place)) → Opening g W now ts a p
      go (inl z) = subst (Opening g W now ts a) z here
      go (inr (earlier k)) = absurd (omega arith)
      go (inr (lower k l)) = absurd (omega (arith, left))

  -- FULL takes the first of all, which lies on the grid
  full-on : full g W now ts a ≡ full 1 W now ts a
  full-on = go (full 1 W now ts a) refl (full g W now ts a) refl
    where
      same : {p q : Place} → (q ≡ p) ⊎ Before p q → (p ≡ q) ⊎ Before q p → q ≡ p
      same (inl z) y = z
      same (inr x) (inl z) = sym z
      same (inr (earlier k)) (inr (earlier l)) = absurd (omega arith)
      same (inr (earlier k)) (inr (lower l m)) = absurd (omega arith)
      same (inr (lower k m)) (inr (earlier l)) = absurd (omega arith)
      same (inr (lower k m)) (inr (lower l n)) = absurd (omega arith)

      go : (r : Option Place) → full 1 W now ts a ≡ r → (v : Option Place) → full g W now ts a ≡ v → full g W now ts a ≡ full 1 W now ts a
      go none e none k = k ∙ sym e
      go none e (some q) k = absurd (full-rejects 1 W now ts a e q (wider (full-opens g W now ts a q k)))
      go (some p) e none k = absurd (full-rejects g W now ts a k p (first_on e))
      go (some p) e (some q) k =
          k ∙ ap some (same (full-first 1 W now ts a p q e (wider (full-opens g W now ts a q k))) (full-first g W now ts a q p k (first_on e))) ∙ sym e

  -- EVERY PLANNER ANSWERS AS WITH g = 1
  pub planned-on : (n : ℕ) → planned g W now ts a n ≡ planned 1 W now ts a n
  unfolding planned reference horizon stuffing
  planned-on zero = ap (λ f. head? (f now)) candidates-on
  planned-on (suc zero) = ap (λ f. first_answer (λ i. head? (f i)) (visited W now ts a (map (release now ts) (columns W)))) released-on
  planned-on (suc (suc zero)) = ap (λ f. first_answer (λ i. head? (f i)) (visited W now ts a (map finish ts))) candidates-on
  planned-on (suc (suc (suc zero))) = full-on
  planned-on (suc (suc (suc (suc n)))) = refl
