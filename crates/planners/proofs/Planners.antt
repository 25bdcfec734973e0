-- What the published planners answer: the least visited time that has a candidate, the first candidate there, always an opening. Assumes nothing.
use Prim.Native.Nat.{ℕ, zero, suc, ◌+◌, ◌≤◌, ◌<◌}
use mathlib.Core.Path.{◌≡◌, refl, ap, subst}
use mathlib.Core.Logic.{◌⊎◌, inl, inr}
use mathlib.Core.Bool.{Bool, not, ◌&&◌}
use mathlib.Core.Option.{none, some}
use mathlib.Core.List.Memᴰ.{cases_cons as cases}
use mathlib.Core.List.Memᴰ.{head as here}
use mathlib.Core.List.Memᴰ.{tail as there}
use mathlib.Core.List.{List, [], ◌∷◌, map}
use native.Mathlib.Omega.{arith}
use native.Mathlib.Decide.{dec_lt}
use lib.Dec.{T, leb, ltb, leb→le, le→leb, ltb→lt, lt→ltb, not_T, T_not}
use Rattle.lists.specs.Lists.{◌∈◌, keep, some?, head?, first_answer, rising}
use Rattle.lists.proofs.Bools.{and_l, and_r, and_i, same_bool}
use Rattle.lists.proofs.Members.{keep-in, in-keep, none_pass, pass-none, map-in, in_map, head-none, head-some, head_in, highest-over, rising-in, in-rising}
use Rattle.lists.proofs.Order.{Sorted, next, sorted-keep, rising-sorted, first_some, first-none, none_first}
use Rattle.ways.specs.Ways.{is_open}
use Rattle.tasks.specs.declared.Task.{Task}
use Rattle.tasks.specs.declared.Submission.{Submission}
use Rattle.tasks.specs.Numbers.{may_begin}
use Rattle.tasks.specs.Tasks.{finish, meets, covers, holds, phase_at, waiting_phase, stamped, booked}
use Rattle.tasks.proofs.Laws.{Share, meets-share, share-meets, holds-in, covers-in, phase-waiting}
use Rattle.columns.specs.Columns.{columns, runs, best_fit}
use Rattle.columns.proofs.Runs.{runs-lie}
use Rattle.columns.proofs.BestFit.{fit-in}
use Rattle.planners.specs.Openings.{Place, ways}
use Rattle.planners.specs.Planners.{free, release, on_grid, left_edge, visited, clear_of_waiting, candidates, released_edges, reference, horizon, stuffing, planned}
use Rattle.planners.proofs.Openings.{Opening, full-opens}

-- a planner that tries the candidates of each time in turn: the least time that has one, and the first there
pub record Answers (tried : ℕ → List Place) (times : List ℕ) (p : Place) : Type 0 where
  pub at : ℕ
  pub among : at ∈ times
  pub others : List Place
  pub first : tried at ≡ p ∷ others
  pub none_before : (i : ℕ) → i ∈ times → i < at → tried i ≡ []

answers : (tried : ℕ → List Place) {times : List ℕ} → Sorted ◌<◌ times → {p : Place} → first_answer (λ i. head? (tried i)) times ≡ some p → Answers tried times p
answers tried s e =
    let r = first_some (λ i. head? (tried i)) s e in
    let h = head-some (tried r.at) r.gives in
    record { at = r.at; among = r.among; others = h.0; first = h.1; none_before = λ i m l. head-none (tried i) (r.none_before i m l) }

nothing : (tried : ℕ → List Place) (times : List ℕ) → first_answer (λ i. head? (tried i)) times ≡ none → (i : ℕ) → i ∈ times → tried i ≡ []
nothing tried times e i m = head-none (tried i) (first-none (λ j. head? (tried j)) times e m)

nothing-tried : (tried : ℕ → List Place) (times : List ℕ) → ((i : ℕ) → i ∈ times → tried i ≡ []) → first_answer (λ i. head? (tried i)) times ≡ none
nothing-tried tried times f = none_first (λ j. head? (tried j)) times (λ i m. empty i (f i m))
  where
    empty : (i : ℕ) → tried i ≡ [] → head? (tried i) ≡ none
    empty i e = unfold head? in rw e

-- the release of a column is not before the finish of a live task that has the column
pub release-over : (now : ℕ) (ts : List Task) (c : ℕ) {u : Task} → u ∈ ts → T (covers c u) → finish u ≤ release now ts c
unfolding release
release-over now ts c m t = highest-over now (in_map finish (in-keep (covers c) m t))

module _ (W now : ℕ) (ts : List Task) (a : Submission) where
  -- THE VISITED TIMES: now and each time of the list after now and up to d − e, no other
  pub record Visit (times : List ℕ) (i : ℕ) : Type 0 where
    pub listed : (i ≡ now) ⊎ (i ∈ times)
    pub from-now : now ≤ i
    pub in-time : (now < i) → i + a.e ≤ a.d

  pub visited-in : (times : List ℕ) {i : ℕ} → i ∈ visited W now ts a times → Visit times i
  unfolding visited
  visited-in times {i} m = pick (cases m)
    where
      pick : (i ≡ now) ⊎ (i ∈ keep (λ j. ltb now j && leb (j + a.e) a.d) (rising times)) → Visit times i
      pick (inl z) = record { listed = inl z; from-now = omega arith; in-time = λ h. absurd (omega arith) }
      pick (inr n) =
          let k = keep-in (λ j. ltb now j && leb (j + a.e) a.d) (rising times) n in
          let x = ltb→lt now i (and_l (ltb now i) (leb (i + a.e) a.d) k.1) in
          let y = leb→le (i + a.e) a.d (and_r (ltb now i) (leb (i + a.e) a.d) k.1) in
          record { listed = inr (rising-in times k.0); from-now = omega arith; in-time = λ h. y }

  pub now-visited : (times : List ℕ) → now ∈ visited W now ts a times
  unfolding visited
  now-visited times = here refl

  pub in-visited : (times : List ℕ) {i : ℕ} → i ∈ times → now < i → i + a.e ≤ a.d → i ∈ visited W now ts a times
  unfolding visited
  in-visited times {i} m l h =
      there (in-keep (λ j. ltb now j && leb (j + a.e) a.d) (in-rising times m)
      (and_i (ltb now i) (leb (i + a.e) a.d) (lt→ltb now i l) (le→leb (i + a.e) a.d h)))

  -- rising, so that none is visited twice
  pub visited-rising : (times : List ℕ) → Sorted ◌<◌ (visited W now ts a times)
  unfolding visited
  visited-rising times =
      next {x = now}
      (λ y m. let k = keep-in (λ j. ltb now j && leb (j + a.e) a.d) (rising times) m in ltb→lt now y (and_l (ltb now y) (leb (y + a.e) a.d) k.1))
      (sorted-keep ◌<◌ (λ j. ltb now j && leb (j + a.e) a.d) (rising-sorted times))

  visited-until : (times : List ℕ) {i : ℕ} → now + a.e ≤ a.d → i ∈ visited W now ts a times → (now ≤ i) × (i + a.e ≤ a.d)
  visited-until times {i} h m = let v = visited-in times m in (v.from-now, step v (dec_lt now i))
    where
      step : Visit times i → Dec (now < i) → i + a.e ≤ a.d
      step v (yes k) = v.in-time k
      step v (no k) = omega (arith, v.from-now)

module _ (g W now : ℕ) (ts : List Task) (a : Submission) where
  -- STUFFING answers at the least visited time that has a candidate, with the first candidate there
  pub stuffing-answers : {p : Place} → stuffing g W now ts a ≡ some p → Answers (candidates g W now ts a) (visited W now ts a (map finish ts)) p
  unfolding stuffing
  stuffing-answers e = answers (candidates g W now ts a) (visited-rising W now ts a (map finish ts)) e

  -- and rejects exactly when no visited time has one
  pub stuffing-rejects : stuffing g W now ts a ≡ none → (i : ℕ) → i ∈ visited W now ts a (map finish ts) → candidates g W now ts a i ≡ []
  unfolding stuffing
  stuffing-rejects e = nothing (candidates g W now ts a) (visited W now ts a (map finish ts)) e

  pub rejects-stuffing : ((i : ℕ) → i ∈ visited W now ts a (map finish ts) → candidates g W now ts a i ≡ []) → stuffing g W now ts a ≡ none
  unfolding stuffing
  rejects-stuffing f = nothing-tried (candidates g W now ts a) (visited W now ts a (map finish ts)) f

  -- HORIZON answers at the least visited time that has a released run wide enough, with best fit's first
  pub horizon-answers : {p : Place} → horizon g W now ts a ≡ some p → Answers (released_edges g W now ts a) (visited W now ts a (map (release now ts) (columns W))) p
  unfolding horizon
  horizon-answers e = answers (released_edges g W now ts a) (visited-rising W now ts a (map (release now ts) (columns W))) e

  pub horizon-rejects : horizon g W now ts a ≡ none → (i : ℕ) → i ∈ visited W now ts a (map (release now ts) (columns W)) → released_edges g W now ts a i ≡ []
  unfolding horizon
  horizon-rejects e = nothing (released_edges g W now ts a) (visited W now ts a (map (release now ts) (columns W))) e

  pub rejects-horizon : ((i : ℕ) → i ∈ visited W now ts a (map (release now ts) (columns W)) → released_edges g W now ts a i ≡ []) → horizon g W now ts a ≡ none
  unfolding horizon
  rejects-horizon f = nothing-tried (released_edges g W now ts a) (visited W now ts a (map (release now ts) (columns W))) f

  -- a left edge that best fit tries among the runs of columns that pass
  pub record Edge (passes : ℕ → Bool) (i : ℕ) (p : Place) : Type 0 where
    pub at : p.start ≡ i
    pub from_one : 1 ≤ p.place
    pub on-device : p.place + a.w ≤ suc W
    pub on-grid : T (may_begin g p.place)
    pub each : (c : ℕ) → p.place ≤ c → c < p.place + a.w → T (passes c)

  pub edge_in : (passes : ℕ → Bool) (i : ℕ) {p : Place} → p ∈ map (left_edge i) (best_fit a.w (on_grid g (runs passes (columns W)))) → Edge passes i p
  unfolding on_grid
  edge_in passes i {p} n =
      let m = map-in (left_edge i) (best_fit a.w (on_grid g (runs passes (columns W)))) n in
      let f = fit-in a.w (on_grid g (runs passes (columns W))) m.1 in
      let k = keep-in (λ r. may_begin g r.left) (runs passes (columns W)) f.0 in
      let r = runs-lie passes 1 W k.0 in
      let z : p.start ≡ i = ap (λ x. x.start) m.2 in
      let c : p.place ≡ m.0.left = ap (λ x. x.place) m.2 in
      record {
        at = z;
        from_one = omega (arith, r.low);
        on-device = omega (arith, r.high);
        on-grid = rw c k.1;
        each = λ k l h. r.passes k (omega arith) (omega arith);
      }

  -- WAITING OR ALL: a left edge of a free interval meets a live task only if that one waits
  waits : (i : ℕ) (p : Place) → Edge (free ts i) i p → (u : Task) → u ∈ ts → T (meets (booked now a p.start p.place) u) → T (waiting_phase (phase_at i u))
  unfolding free booked stamped
  waits i p o u m h = step (dec_lt i u.start)
    where
      s : Share (booked now a p.start p.place) u
      s = meets-share (booked now a p.start p.place) u h

      step : Dec (i < u.start) → T (waiting_phase (phase_at i u))
      step (yes l) = rw (phase-waiting i u l) tt
      step (no l) =
          absurd (T_not (holds i s.column.it u)
          (none_pass (holds i s.column.it) ts (o.each s.column.it s.column.low₁ s.column.high₁) m)
          (holds-in i s.column.it u (record {
            started = omega arith;
            unfinished = omega (arith, s.tick.low₁, s.tick.high₂, o.at);
            left = s.column.low₂;
            right = s.column.high₂;
          })))

  pub waiting-is-all : (i : ℕ) {p : Place} → p ∈ map (left_edge i) (best_fit a.w (on_grid g (runs (free ts i) (columns W))))
      → clear_of_waiting W now ts a i p ≡ is_open (ways g W now ts a) p
  unfolding clear_of_waiting is_open ways
  waiting-is-all i {p} n =
      same_bool (not (some? waits_and_meets ts)) (not (some? (meets k) ts))
      (λ t. pass-none (meets k) ts (λ u m. not_T (meets k u) (λ h.
      T_not (waits_and_meets u) (none_pass waits_and_meets ts t m) (and_i (waiting_phase (phase_at i u)) (meets k u) (waits i p (edge_in (free ts i) i n) u m h) h))))
      (λ t. pass-none waits_and_meets ts (λ u m. not_T (waits_and_meets u) (λ h. T_not (meets k u) (none_pass (meets k) ts t m) (and_r (waiting_phase (phase_at i u)) (meets k u) h))))
    where
      k : Task
      k = booked now a p.start p.place

      waits_and_meets : Task → Bool
      waits_and_meets u = waiting_phase (phase_at i u) && meets k u

  -- WHATEVER A PLANNER TAKES IS AN OPENING
  pub candidate-opens : (i : ℕ) {p : Place} → now ≤ i → i + a.e ≤ a.d → p ∈ candidates g W now ts a i → Opening g W now ts a p
  unfolding candidates ways is_open booked stamped
  candidate-opens i {p} l h n =
      let r = keep-in (clear_of_waiting W now ts a i) (map (left_edge i) (best_fit a.w (on_grid g (runs (free ts i) (columns W))))) n in
      let o = edge_in (free ts i) i r.0 in
      let t = subst T (waiting-is-all i r.0) r.1 in
      record {
        from-now = omega (arith, o.at);
        in-time = omega (arith, o.at);
        from_one = o.from_one;
        on-device = o.on-device;
        on-grid = o.on-grid;
        apart = λ u m x y. T_not (meets (booked now a p.start p.place) u) (none_pass (meets (booked now a p.start p.place)) ts t m)
            (share-meets (booked now a p.start p.place) u (record { column = x; tick = y }));
      }

  pub released-opens : (i : ℕ) {p : Place} → now ≤ i → i + a.e ≤ a.d → p ∈ released_edges g W now ts a i → Opening g W now ts a p
  unfolding released_edges
  released-opens i {p} l h n =
      let o = edge_in (λ c. leb (release now ts c) i) i n in
      record {
        from-now = omega (arith, o.at);
        in-time = omega (arith, o.at);
        from_one = o.from_one;
        on-device = o.on-device;
        on-grid = o.on-grid;
        apart = λ u m x y.
            let z = leb→le (release now ts x.it) i (o.each x.it x.low₁ x.high₁) in
            let v = release-over now ts x.it m (covers-in x.it u x.low₂ x.high₂) in
            omega (arith, y.low₁, y.high₂, o.at);
      }

  module _ (reachable : now + a.e ≤ a.d) where
    pub reference-opens : {p : Place} → reference g W now ts a ≡ some p → Opening g W now ts a p
    unfolding reference
    reference-opens e = candidate-opens now (omega arith) reachable (head_in (candidates g W now ts a now) e)

    pub stuffing-opens : {p : Place} → stuffing g W now ts a ≡ some p → Opening g W now ts a p
    stuffing-opens {p} e =
        let r = stuffing-answers e in
        let v = visited-until W now ts a (map finish ts) reachable r.among in
        candidate-opens r.at v.0 v.1 (rw r.first (here refl))

    pub horizon-opens : {p : Place} → horizon g W now ts a ≡ some p → Opening g W now ts a p
    horizon-opens {p} e =
        let r = horizon-answers e in
        let v = visited-until W now ts a (map (release now ts) (columns W)) reachable r.among in
        released-opens r.at v.0 v.1 (rw r.first (here refl))

    pub planned-opens : (n : ℕ) {p : Place} → planned g W now ts a n ≡ some p → Opening g W now ts a p
    unfolding planned
    planned-opens zero e = reference-opens e
    planned-opens (suc zero) e = horizon-opens e
    planned-opens (suc (suc zero)) e = stuffing-opens e
    planned-opens (suc (suc (suc zero))) {p} e = full-opens g W now ts a p e
    planned-opens (suc (suc (suc (suc n)))) e = absurd (let z : ◌≡◌ {A = ℕ} 0 1 = cc in omega arith)
