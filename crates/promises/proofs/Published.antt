-- Reference, Horizon and Stuffing as published: the times that each visits, the runs that it tries there, and that a submission is answered exactly so. Assumes nothing.
use Prim.Native.Nat.{ℕ, ◌+◌, ◌≤◌, ◌<◌}
use mathlib.Core.Path.{◌≡◌, refl, sym, ap, ◌∙◌, subst}
use mathlib.Core.Logic.{◌⊎◌, inl, inr}
use mathlib.Core.Bool.{Bool, ◌&&◌}
use mathlib.Core.Option.{Option, none, some}
use mathlib.Core.List.Memᴰ.{cases_cons as cases}
use mathlib.Core.List.Memᴰ.{head as here}
use mathlib.Core.List.Memᴰ.{not-nil as nowhere}
use mathlib.Core.List.{List, [], ◌∷◌, map}
use native.Mathlib.Omega.{arith}
use native.Mathlib.Decide.{dec_lt}
use lib.Dec.{T, leb, ltb, leb→le, ltb→lt, not_T, T_not}
use Rattle.lists.specs.Lists.{◌∈◌, keep, head?, or_else, first_answer, highest}
use Rattle.lists.proofs.Bools.{and_l, and_r, and_i}
use Rattle.lists.proofs.Members.{keep-in, in-keep, none_pass, pass-none, map-in, in_map, head-none, range-in, in-range, highest-over, highest-from, highest-one}
use Rattle.lists.proofs.Append.{keep-map}
use Rattle.lists.proofs.Order.{Sorted, empty, next, Sorted·head, sorted-keep, Earliest, first_some, first-none}
use Rattle.ways.specs.Ways.{pair}
use Rattle.tasks.specs.declared.Task.{Task}
use Rattle.tasks.specs.declared.Submission.{Submission}
use Rattle.tasks.specs.Numbers.{may_begin}
use Rattle.tasks.specs.Tasks.{finish, past, meets, covers, holds, phase_at, waiting_phase, stamped, booked}
use Rattle.tasks.proofs.Laws.{Common, Holds, Share, meets-share, share-meets, holds-in, holds-out, covers-in, phase-waiting, is-waiting}
use Rattle.columns.specs.Columns.{columns, Run, runs, best_fit}
use Rattle.columns.proofs.Runs.{Longest, runs-longest, longest-runs}
use Rattle.columns.proofs.BestFit.{Better, fit-in, in-fit, better-out, best-kept}
use Rattle.planners.specs.Openings.{Place}
use Rattle.planners.specs.Planners.{free, release, on_grid, left_edge, visited, clear_of_waiting, candidates, released_edges, reference, horizon, stuffing, planned}
use Rattle.planners.proofs.Planners.{visited-in, now-visited, in-visited, visited-rising, candidate-opens, released-opens}
use Rattle.board.specs.declared.Board.{Board}
use Rattle.board.specs.declared.Answer.TheVariants.{Placed, Rejected, Refused}
use Rattle.board.specs.Refusals.{live_of, refused_submit}
use Rattle.board.specs.Calls.{taken, submitted}
use Rattle.board.proofs.Submit.{accepted-answered}
use Rattle.board.proofs.Asking.{IsOpening}

-- "the narrowest run .. the leftmost of equals": r goes before q
abbrev pub Narrower : Run → Run → Type 0
Narrower r q = (r.size < q.size) ⊎ ((r.size ≡ q.size) × (r.left < q.left))

-- THE PLACE that a planner takes which visits certain times and tries certain runs at each
pub record Chosen (Visits : ℕ → Type 0) (Tries : ℕ → Run → Type 0) (s c : ℕ) : Type 0 where
  -- the start is visited, and a run is tried there
  pub visited : Visits s
  pub run : Run
  pub tried : Tries s run
  -- "the task goes to the run's left edge"
  pub edge : run.left ≡ c
  -- it is the best of them
  pub best : (q : Run) → Tries s q → (q ≡ run) ⊎ Narrower run q
  -- and no visited time before has any
  pub none_before : (i : ℕ) → Visits i → i < s → (q : Run) → Tries i q → ⊥

-- THE ANSWERS of such a planner: that place exactly, and a rejection exactly where no visited time has a run to try
pub record AnswersAs (b : Board) (n : ℕ) (a : Submission) (Visits : ℕ → Type 0) (Tries : ℕ → Run → Type 0) : Type 0 where
  pub placed : {c s f : ℕ} → (submitted b n a).answer ≡ Placed c s f → Chosen Visits Tries s c × (f ≡ s + a.e)
  pub places : (c s : ℕ) → Chosen Visits Tries s c → (submitted b n a).answer ≡ Placed c s (s + a.e)
  pub rejected : (submitted b n a).answer ≡ Rejected → (i : ℕ) → Visits i → (q : Run) → Tries i q → ⊥
  pub rejects : ((i : ℕ) → Visits i → (q : Run) → Tries i q → ⊥) → (submitted b n a).answer ≡ Rejected
  -- so where a visited time has a run to try, the task is placed; it is never refused
  pub takes : (i : ℕ) → Visits i → (q : Run) → Tries i q → (c : ℕ) × (s : ℕ) × ((submitted b n a).answer ≡ Placed c s (s + a.e))
  pub not-refused : (k : ℕ) → (submitted b n a).answer ≡ Refused k → ⊥

module _ (b : Board) (a : Submission) where
  -- REFERENCE AND STUFFING try the free intervals: "the longest runs of adjacent columns that no live task holds at t", of at least w columns, ..
  pub record FreeRun (t : ℕ) (r : Run) : Type 0 where
    pub longest : Longest (free (live_of b) t) 1 b.device.columns r
    pub wide : a.w ≤ r.size
    -- .. that begins on the grid (document 02, Q-3), ..
    pub on-grid : T (may_begin b.device.grid r.left)
    -- .. whose left edge "meets no waiting task": none that starts after t shares a column at a tick
    pub clear : (u : Task) → u ∈ live_of b → t < u.start → Common r.left (r.left + a.w) u.column (past u) → Common t (t + a.e) u.start (finish u) → ⊥

  -- HORIZON tries "the longest runs of columns released by t", of at least w columns, that begin on the grid
  pub record ReleasedRun (t : ℕ) (r : Run) : Type 0 where
    pub longest : Longest (λ c. leb (release b.now (live_of b) c) t) 1 b.device.columns r
    pub wide : a.w ≤ r.size
    pub on-grid : T (may_begin b.device.grid r.left)

  -- "Visit now, then each .. after now and up to d − e"
  pub data VisitsEach (Time : ℕ → Type 0) (i : ℕ) : Type 0 where
    now : i ≡ b.now → VisitsEach Time i
    later : Time i → b.now < i → i + a.e ≤ a.d → VisitsEach Time i

-- "each finish of a live task"
abbrev pub IsFinish : Board → ℕ → Type 0
IsFinish b i = (u : Task) × (u ∈ live_of b) × (finish u ≡ i)

-- "each release time"
abbrev pub IsRelease : Board → ℕ → Type 0
IsRelease b i = (c : ℕ) × (1 ≤ c) × (c ≤ b.device.columns) × (release b.now (live_of b) c ≡ i)

-- WHAT THE TWO TESTS OF A COLUMN SAY. Free at t: no live task holds it at t
pub free-out : (b : Board) (t c : ℕ) → T (free (live_of b) t c) → (u : Task) → u ∈ live_of b → Holds t c u → ⊥
unfolding free
free-out b t c h u m o = T_not (holds t c u) (none_pass (holds t c) (live_of b) h m) (holds-in t c u o)

pub free_in : (b : Board) (t c : ℕ) → ((u : Task) → u ∈ live_of b → Holds t c u → ⊥) → T (free (live_of b) t c)
unfolding free
free_in b t c f = pass-none (holds t c) (live_of b) (λ u m. not_T (holds t c u) (λ h. f u m (holds-out t c u h)))

-- THE RELEASE of a column: "the later of now and the last finish of any live task on it"
pub record LastFinish (b : Board) (c i : ℕ) : Type 0 where
  pub from-now : b.now ≤ i
  pub over : (u : Task) → u ∈ live_of b → u.column ≤ c → c < past u → finish u ≤ i
  pub reached : (i ≡ b.now) ⊎ ((u : Task) × (u ∈ live_of b) × (u.column ≤ c) × (c < past u) × (finish u ≡ i))

pub release-last : (b : Board) (c : ℕ) → LastFinish b c (release b.now (live_of b) c)
unfolding release covers
release-last b c = record {
  from-now = highest-from b.now finishes;
  over = λ u m l h. highest-over b.now (in_map finish (in-keep (covers c) m (covers-in c u l h)));
  reached = by (highest-one b.now finishes);
}
  where
    finishes : List ℕ
    finishes = map finish (keep (covers c) (live_of b))

    by : (highest b.now finishes ≡ b.now) ⊎ (highest b.now finishes ∈ finishes)
        → (highest b.now finishes ≡ b.now) ⊎ ((u : Task) × (u ∈ live_of b) × (u.column ≤ c) × (c < past u) × (finish u ≡ highest b.now finishes))
    by (inl z) = inl z
    by (inr m) =
        let k = map-in finish (keep (covers c) (live_of b)) m in
        let f = keep-in (covers c) (live_of b) k.1 in
        let u = k.0 in
        let l = leb→le u.column c (and_l (leb u.column c) (ltb c (past u)) f.1) in
        let h = ltb→lt c (past u) (and_r (leb u.column c) (ltb c (past u)) f.1) in
        inr (u, f.0, l, h, sym k.2)

-- a place is chosen once
same-choice : (Visits : ℕ → Type 0) (Tries : ℕ → Run → Type 0) {s c t d : ℕ} → Chosen Visits Tries s c → Chosen Visits Tries t d → (s ≡ t) × (c ≡ d)
same-choice Visits Tries {s} {c} {t} {d} x y = (starts, columns_of (x.best y.run at-s) (y.best x.run at-t))
  where
    starts : s ≡ t
    starts = by (dec_lt s t) (dec_lt t s)
      where
        by : Dec (s < t) → Dec (t < s) → s ≡ t
        by (yes h) l = absurd (y.none_before s x.visited h x.run x.tried)
        by (no h) (yes l) = absurd (x.none_before t y.visited l y.run y.tried)
        by (no h) (no l) = omega arith

    at-s : Tries s y.run
    at-s = subst (λ i. Tries i y.run) (sym starts) y.tried

    at-t : Tries t x.run
    at-t = subst (λ i. Tries i x.run) starts x.tried

    columns_of : (y.run ≡ x.run) ⊎ Narrower x.run y.run → (x.run ≡ y.run) ⊎ Narrower y.run x.run → c ≡ d
    columns_of (inl z) w = let e : y.run.left ≡ x.run.left = ap (λ r. r.left) z in omega (arith, x.edge, y.edge)
    columns_of (inr v) (inl z) = let e : x.run.left ≡ y.run.left = ap (λ r. r.left) z in omega (arith, x.edge, y.edge)
    columns_of (inr (inl h)) (inr (inl l)) = absurd (omega arith)
    columns_of (inr (inl h)) (inr (inr (q, l))) = absurd (omega arith)
    columns_of (inr (inr (p, h))) (inr (inl l)) = absurd (omega arith)
    columns_of (inr (inr (p, h))) (inr (inr (q, l))) = absurd (omega arith)

-- how a planner tries: at each of some rising times the left edges of some runs, the best first
record Trying (Visits : ℕ → Type 0) (Tries : ℕ → Run → Type 0) (tried : ℕ → List Place) (times : List ℕ) : Type 0 where
  rising : Sorted ◌<◌ times
  visits : (i : ℕ) → i ∈ times → Visits i
  times-in : (i : ℕ) → Visits i → i ∈ times
  runs_at : ℕ → List Run
  edges : (i : ℕ) → tried i ≡ map (left_edge i) (runs_at i)
  tries : (i : ℕ) (r : Run) → r ∈ runs_at i → Tries i r
  runs-in : (i : ℕ) (r : Run) → Tries i r → r ∈ runs_at i
  sorted : (i : ℕ) → Sorted Better (runs_at i)

module _ (Visits : ℕ → Type 0) (Tries : ℕ → Run → Type 0) (tried : ℕ → List Place) (times : List ℕ) (o : Trying Visits Tries tried times) where
  -- where the walk finds a place, it is the one chosen
  chosen : {p : Place} → first_answer (λ i. head? (tried i)) times ≡ some p → Chosen Visits Tries p.start p.place
  unfolding head?
  chosen {p} e = go (first_some (λ i. head? (tried i)) o.rising e)
    where
      go : Earliest (λ i. head? (tried i)) times p → Chosen Visits Tries p.start p.place
      go f = by (o.runs_at t) refl (sym (ap head? (o.edges t)) ∙ f.gives)
        where
          t : ℕ
          t = f.at

          before : (i : ℕ) → Visits i → i < t → (q : Run) → Tries i q → ⊥
          before i v l q m =
              let z = sym (o.edges i) ∙ head-none (tried i) (f.none_before i (o.times-in i v) l) in
              nowhere (subst (λ ps. left_edge i q ∈ ps) z (in_map (left_edge i) (o.runs-in i q m)))

          by : (rs : List Run) → o.runs_at t ≡ rs → head? (map (left_edge t) rs) ≡ some p → Chosen Visits Tries p.start p.place
          by [] z h = absurd (let y : ◌≡◌ {A = ℕ} 0 1 = cc in omega arith)
          by (r ∷ rs) z h =
              let y : left_edge t r ≡ p = cc in
              subst (λ x. Chosen Visits Tries x.start x.place) y (record {
                visited = o.visits t f.among;
                run = r;
                tried = o.tries t r (rw z (here refl));
                edge = refl;
                best = λ q m. pick q (cases (rw z at (o.runs-in t q m))) (rw z at (o.sorted t));
                none_before = before;
              })
            where
              pick : (q : Run) → (q ≡ r) ⊎ (q ∈ rs) → Sorted Better (r ∷ rs) → (q ≡ r) ⊎ Narrower r q
              pick q (inl x) s = inl x
              pick q (inr m) s = inr (better-out r q (Sorted·head Better s q m))

  -- where it finds none, there is nothing to try
  none-chosen : first_answer (λ i. head? (tried i)) times ≡ none → (i : ℕ) → Visits i → (q : Run) → Tries i q → ⊥
  none-chosen e i v q m =
      let z = sym (o.edges i) ∙ head-none (tried i) (first-none (λ j. head? (tried j)) times e (o.times-in i v)) in
      nowhere (subst (λ ps. left_edge i q ∈ ps) z (in_map (left_edge i) (o.runs-in i q m)))

  -- so it answers
  answers-as : (b : Board) (n : ℕ) (a : Submission) → planned b.device.grid b.device.columns b.now (live_of b) a n ≡ first_answer (λ i. head? (tried i)) times
      → refused_submit b n a ≡ 0 → AnswersAs b n a Visits Tries
  unfolding taken
  answers-as b n a walk r = by (first_answer (λ i. head? (tried i)) times) refl
    where
      by : (x : Option Place) → first_answer (λ i. head? (tried i)) times ≡ x → AnswersAs b n a Visits Tries
      by none e =
          let z : (submitted b n a).answer ≡ Rejected = ap (λ y. y.answer) (accepted-answered b n a r ∙ ap (taken b a) (walk ∙ e)) in
          record {
            placed = λ h. absurd (let y : ◌≡◌ {A = ℕ} 0 1 = cc in omega arith);
            places = λ c s h. absurd (none-chosen e s h.visited h.run h.tried);
            rejected = λ h. none-chosen e;
            rejects = λ h. z;
            takes = λ i v q m. absurd (none-chosen e i v q m);
            not-refused = λ k h. let y : ◌≡◌ {A = ℕ} 0 1 = cc in omega arith;
          }
      by (some p) e =
          let z : (submitted b n a).answer ≡ Placed p.place p.start (p.start + a.e) = ap (λ y. y.answer) (accepted-answered b n a r ∙ ap (taken b a) (walk ∙ e)) in
          let x = chosen e in
          record {
            placed = λ {c} {s} {f} h.
                let u : p.place ≡ c = cc in
                let v : p.start ≡ s = cc in
                let w : p.start + a.e ≡ f = cc in
                (subst (λ i. Chosen Visits Tries s i) u (subst (λ i. Chosen Visits Tries i p.place) v x), omega arith);
            places = λ c s h. let y = same-choice Visits Tries x h in z ∙ ap (λ i. Placed i p.start (p.start + a.e)) y.1 ∙ ap (λ i. Placed c i (i + a.e)) y.0;
            rejected = λ h. absurd (let y : ◌≡◌ {A = ℕ} 0 1 = cc in omega arith);
            rejects = λ h. absurd (h p.start x.visited x.run x.tried);
            takes = λ i v q m. (p.place, p.start, z);
            not-refused = λ k h. let y : ◌≡◌ {A = ℕ} 0 1 = cc in omega arith;
          }

module _ (b : Board) (a : Submission) where
  abbrev W : ℕ
  W = b.device.columns

  abbrev g : ℕ
  g = b.device.grid

  -- a run that begins on the grid
  abbrev begins : Run → Bool
  begins r = may_begin g r.left

  abbrev ts : List Task
  ts = live_of b

  -- a left edge is clear of the waiting tasks exactly if none that starts later shares a column with it at a tick
  module _ (i : ℕ) (r : Run) where
    abbrev stay : Task
    stay = booked b.now a i r.left

    abbrev waits_and_meets : Task → Bool
    waits_and_meets u = waiting_phase (phase_at i u) && meets stay u

    abbrev Clear : Type 0
    Clear = (u : Task) → u ∈ ts → i < u.start → Common r.left (r.left + a.w) u.column (past u) → Common i (i + a.e) u.start (finish u) → ⊥

    clear-out : T (clear_of_waiting W b.now ts a i (left_edge i r)) → Clear
    unfolding clear_of_waiting booked stamped
    clear-out t u m l x y =
        T_not (waits_and_meets u) (none_pass waits_and_meets ts t m)
        (and_i (waiting_phase (phase_at i u)) (meets stay u) (rw (phase-waiting i u l) tt) (share-meets stay u (record { column = x; tick = y })))

    clear_in : Clear → T (clear_of_waiting W b.now ts a i (left_edge i r))
    unfolding clear_of_waiting booked stamped
    clear_in f = pass-none waits_and_meets ts (λ u m. not_T (waits_and_meets u) (λ t. by u m t (meets-share stay u (and_r (waiting_phase (phase_at i u)) (meets stay u) t))))
      where
        by : (u : Task) → u ∈ ts → T (waits_and_meets u) → Share stay u → ⊥
        by u m t s = f u m (ltb→lt i u.start (subst T (is-waiting i u) (and_l (waiting_phase (phase_at i u)) (meets stay u) t))) s.column s.tick

  -- the times that are visited
  module _ (Time : ℕ → Type 0) (times : List ℕ) (to : (i : ℕ) → i ∈ times → Time i) (back : (i : ℕ) → Time i → i ∈ times) where
    visits-each : (i : ℕ) → i ∈ visited W b.now ts a times → VisitsEach b a Time i
    visits-each i m = let v = visited-in W b.now ts a times m in by v.listed (dec_lt b.now i) v.from-now v.in-time
      where
        by : (i ≡ b.now) ⊎ (i ∈ times) → Dec (b.now < i) → b.now ≤ i → (b.now < i → i + a.e ≤ a.d) → VisitsEach b a Time i
        by (inl z) d l h = now z
        by (inr n) (yes d) l h = later (to i n) d (h d)
        by (inr n) (no d) l h = now (omega arith)

    each-visited : (i : ℕ) → VisitsEach b a Time i → i ∈ visited W b.now ts a times
    each-visited i (now z) = rw z (now-visited W b.now ts a times)
    each-visited i (later t l h) = in-visited W b.now ts a times (back i t) l h

  -- the runs that Reference and Stuffing try
  free-trying : (Visits : ℕ → Type 0) (times : List ℕ) → Sorted ◌<◌ times → ((i : ℕ) → i ∈ times → Visits i) → ((i : ℕ) → Visits i → i ∈ times)
      → Trying Visits (FreeRun b a) (candidates g W b.now ts a) times
  unfolding candidates on_grid
  free-trying Visits times rise to back = record {
    rising = rise;
    visits = to;
    times-in = back;
    runs_at = λ i. keep (clear i) (fits i);
    edges = λ i. keep-map (clear_of_waiting W b.now ts a i) (left_edge i) (fits i);
    tries = λ i r m.
        let k = keep-in (clear i) (fits i) m in
        let f = fit-in a.w (on_grid g (runs (free ts i) (columns W))) k.0 in
        let o = keep-in begins (runs (free ts i) (columns W)) f.0 in
        record { longest = runs-longest (free ts i) 1 W o.0; wide = f.1; on-grid = o.1; clear = clear-out i r k.1 };
    runs-in = λ i r o.
        in-keep (clear i) (in-fit a.w (on_grid g (runs (free ts i) (columns W))) (in-keep begins (longest-runs (free ts i) 1 W r o.longest) o.on-grid) o.wide) (clear_in i r o.clear);
    sorted = λ i. sorted-keep Better (clear i) (best-kept a.w begins (free ts i) 1 W);
  }
    where
      fits : ℕ → List Run
      fits i = best_fit a.w (on_grid g (runs (free ts i) (columns W)))

      clear : ℕ → Run → Bool
      clear i r = clear_of_waiting W b.now ts a i (left_edge i r)

  -- REFERENCE: at now only
  pub reference-as : refused_submit b 0 a ≡ 0 → AnswersAs b 0 a (λ i. i ≡ b.now) (FreeRun b a)
  unfolding planned reference first_answer or_else
  reference-as r =
      answers-as (λ i. i ≡ b.now) (FreeRun b a) (candidates g W b.now ts a) (b.now ∷ [])
      (free-trying (λ i. i ≡ b.now) (b.now ∷ []) (next {x = b.now} (λ y m. absurd (nowhere m)) empty) (λ i m. one (cases m)) (λ i z. here z))
      b 0 a (alone (head? (candidates g W b.now ts a b.now))) r
    where
      one : {i : ℕ} → (i ≡ b.now) ⊎ (i ∈ []) → i ≡ b.now
      one (inl z) = z
      one (inr m) = absurd (nowhere m)

      alone : (o : Option Place) → o ≡ or_else o none
      alone none = refl
      alone (some p) = refl

  -- STUFFING: at now and each finish of a live task
  pub stuffing-as : refused_submit b 2 a ≡ 0 → AnswersAs b 2 a (VisitsEach b a (IsFinish b)) (FreeRun b a)
  unfolding planned stuffing
  stuffing-as r =
      answers-as (VisitsEach b a (IsFinish b)) (FreeRun b a) (candidates g W b.now ts a) (visited W b.now ts a (map finish ts))
      (free-trying (VisitsEach b a (IsFinish b)) (visited W b.now ts a (map finish ts)) (visited-rising W b.now ts a (map finish ts))
      (visits-each (IsFinish b) (map finish ts) to back) (each-visited (IsFinish b) (map finish ts) to back))
      b 2 a refl r
    where
      to : (i : ℕ) → i ∈ map finish ts → IsFinish b i
      to i m = let k = map-in finish ts m in (k.0, k.1, sym k.2)

      back : (i : ℕ) → IsFinish b i → i ∈ map finish ts
      back i (u, m, z) = subst (λ j. j ∈ map finish ts) z (in_map finish m)

  -- HORIZON: at now and each release
  pub horizon-as : refused_submit b 1 a ≡ 0 → AnswersAs b 1 a (VisitsEach b a (IsRelease b)) (ReleasedRun b a)
  unfolding planned horizon released_edges on_grid
  horizon-as r =
      answers-as (VisitsEach b a (IsRelease b)) (ReleasedRun b a) (released_edges g W b.now ts a) (visited W b.now ts a releases)
      (record {
        rising = visited-rising W b.now ts a releases;
        visits = visits-each (IsRelease b) releases to back;
        times-in = each-visited (IsRelease b) releases to back;
        runs_at = λ i. best_fit a.w (on_grid g (runs (released i) (columns W)));
        edges = λ i. refl;
        tries = λ i r m.
            let f = fit-in a.w (on_grid g (runs (released i) (columns W))) m in
            let o = keep-in begins (runs (released i) (columns W)) f.0 in
            record { longest = runs-longest (released i) 1 W o.0; wide = f.1; on-grid = o.1 };
        runs-in = λ i r o. in-fit a.w (on_grid g (runs (released i) (columns W))) (in-keep begins (longest-runs (released i) 1 W r o.longest) o.on-grid) o.wide;
        sorted = λ i. best-kept a.w begins (released i) 1 W;
      })
      b 1 a refl r
    where
      released : ℕ → ℕ → Bool
      released i c = leb (release b.now ts c) i

      releases : List ℕ
      releases = map (release b.now ts) (columns W)

      to : (i : ℕ) → i ∈ releases → IsRelease b i
      to i m = let k = map-in (release b.now ts) (columns W) m in let w = range-in 1 W k.1 in (k.0, w.low, omega (arith, w.high), sym k.2)

      back : (i : ℕ) → IsRelease b i → i ∈ releases
      back i (c, l, h, z) = subst (λ j. j ∈ releases) z (in_map (release b.now ts) (in-range 1 W c l (omega arith)))

  -- A RUN THAT IS TRIED IS AN OPENING, from now on and up to d − e: at the left edge of a free interval, to meet no waiting task is to meet no live task
  pub free-run-opens : (t : ℕ) (r : Run) → b.now ≤ t → t + a.e ≤ a.d → FreeRun b a t r → IsOpening b a (pair t r.left)
  unfolding candidates on_grid
  free-run-opens t r l h o =
      let fits = in-fit a.w (on_grid g (runs (free ts t) (columns W))) (in-keep begins (longest-runs (free ts t) 1 W r o.longest) o.on-grid) o.wide in
      candidate-opens g W b.now ts a t l h (in-keep (clear_of_waiting W b.now ts a t) (in_map (left_edge t) fits) (clear_in t r o.clear))

  -- and so is one of released columns
  pub released-run-opens : (t : ℕ) (r : Run) → b.now ≤ t → t + a.e ≤ a.d → ReleasedRun b a t r → IsOpening b a (pair t r.left)
  unfolding released_edges on_grid
  released-run-opens t r l h o =
      let released : ℕ → Bool = λ c. leb (release b.now ts c) t in
      let fits = in-fit a.w (on_grid g (runs released (columns W))) (in-keep begins (longest-runs released 1 W r o.longest) o.on-grid) o.wide in
      released-opens g W b.now ts a t l h (in_map (left_edge t) fits)
