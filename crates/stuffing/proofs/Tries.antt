-- The two walks of Stuffing: the tries at a time give its first candidate, the visits give the answer. Assumes nothing.
use Rattle.std.proofs.Common.{◌≡◌, ℕ, ◌-◌, ◌<◌, ◌≤◌, Bool, true, false, not, T, ◌⊎◌, List, [], map, sym, refl, ap, ◌∙◌, subst, inl, inr, arith}
use mathlib.Core.Option.{some}
use native.Mathlib.Decide.{dec_le}
use Rattle.lists.specs.Lists.{◌∈◌, some?, keep, head?, never}
use Rattle.lists.proofs.Members.{in_map, keep-none}
use Rattle.lists.proofs.Order.{first-keep}
use Rattle.lists.proofs.Append.{keep-map, head-map}
use Rattle.ways.specs.Ways.{pair, is_open}
use Rattle.tasks.specs.declared.Task.{Task}
use Rattle.tasks.specs.declared.Submission.{Submission}
use Rattle.tasks.specs.Tasks.{finish, meets, stamped, booked}
use Rattle.tasks.specs.Numbers.{last_instant}
use Rattle.columns.specs.Columns.{columns, Run, runs, best_fit, key, left_of}
use Rattle.columns.proofs.Runs.{Lies, runs-lie}
use Rattle.columns.proofs.BestFit.{best-rising, fit-in, in-fit, key_left, key_counts}
use Rattle.std.specs.Prelude.{Some, None}
use Rattle.planners.specs.Openings.{Place, ways}
use Rattle.planners.specs.Planners.{free, left_edge, clear_of_waiting, candidates, stuffing}
use Rattle.live.specs.Live.{tasks_of, OnDevice, NextFinish}
use Rattle.planners.specs.Lent.{found_of, asked}
use Rattle.planners.proofs.Grid.{candidates-one, waiting-one}
use Rattle.planners.proofs.Walk.{Visits, visits-hit, visits-none, visits-on, not-before, next-time}
use Rattle.stuffing.specs.Fit.{meets_at, NextFit}

-- every free interval at t up to the key `after` that is wide enough meets a task at its left edge
pub record Tried (W : ℕ) (ts : List Task) (w e t after : ℕ) : Type 0 where
  pub most : after < never
  pub met : (q : Run) → q ∈ runs (free ts t) (columns W) → w ≤ q.size → key q ≤ after → some? (meets_at q.left w t e) ts ≡ true

module _ (W now : ℕ) (ts : List Task) (w e d : ℕ) (small : W ≤ 256) where
  abbrev a : Submission
  a = asked w e d

  abbrev meet : ℕ → ℕ → Bool
  meet t c = some? (meets_at c w t e) ts

  -- the free intervals at t that are wide enough, narrowest first; the left edge of one is clear of waiting tasks
  abbrev best : ℕ → List Run
  best t = best_fit w (runs (free ts t) (columns W))

  abbrev clear : ℕ → Run → Bool
  clear t q = clear_of_waiting W now ts a t (left_edge t q)

  abbrev Tries : ℕ → ℕ → Type 0
  Tries t after = Tried W ts w e t after

  lies : (t : ℕ) (q : Run) → q ∈ runs (free ts t) (columns W) → Lies (free ts t) 1 W q
  lies t q m = runs-lie (free ts t) 1 W m

  pub tries-start : (t : ℕ) → Tries t 0
  tries-start t = record { most = omega arith; met = λ q m l k. absurd (omega (arith, (key_counts small (lies t q m)).0)) }

  left-of : (t : ℕ) (q : Run) → q ∈ runs (free ts t) (columns W) → left_of (key q) ≡ q.left
  left-of t q m = key_left small (lies t q m)

  small-key : (t : ℕ) (q : Run) → q ∈ runs (free ts t) (columns W) → key q < never
  small-key t q m = (key_counts small (lies t q m)).1

  -- the test of the code is that of the book
  clear-is : (t : ℕ) {p : Place} → p ∈ map (left_edge t) (best t) → clear_of_waiting W now ts a t p ≡ not (meet p.start p.place)
  clear-is t {p} m = waiting-one W now ts a t m ∙ (unfold is_open ways booked stamped meets in refl)

  edge-clear : (t : ℕ) (q : Run) → q ∈ best t → clear t q ≡ not (meet t q.left)
  edge-clear t q m = clear-is t (in_map (left_edge t) m)

  -- all are tried: no candidate
  pub tries-none : {t after r : ℕ} → Tries t after → NextFit (free ts t) W w after r → r ≡ never → candidates 1 W now ts a t ≡ []
  tries-none {t} {after} {r} o n z =
      candidates-one W now ts a t ∙ keep-map (clear_of_waiting W now ts a t) (left_edge t) (best t) ∙ ap (map (left_edge t)) (keep-none (clear t) (best t) each)
    where
      each : (q : Run) → q ∈ best t → T (not (clear t q))
      each q m =
          let f = fit-in w (runs (free ts t) (columns W)) m in
          subst (λ b. T (not b)) (sym (edge-clear t q m ∙ ap not (o.met q f.0 f.1 (tried f (dec_le (key q) after))))) tt
        where
          tried : (q ∈ runs (free ts t) (columns W)) × (w ≤ q.size) → Dec (key q ≤ after) → key q ≤ after
          tried f (yes k) = k
          tried f (no k) = absurd (let l = n.least q f.0 f.1 (omega arith) in let s = small-key t q f.0 in omega arith)

  -- the next is clear: it is the first candidate
  pub tries-hit : {t after r x : ℕ} → Tries t after → NextFit (free ts t) W w after r → (r ≡ never → ⊥) → x ≡ left_of r → meet t x ≡ false
      → head? (candidates 1 W now ts a t) ≡ some (pair t x)
  tries-hit {t} {after} {r} {x} o n f e z = ap head? (candidates-one W now ts a t) ∙ go n.one
    where
      go : (r ≡ never) ⊎ ((q : Run) × (q ∈ runs (free ts t) (columns W)) × (w ≤ q.size) × (after < key q) × (key q ≡ r))
          → head? (keep (clear_of_waiting W now ts a t) (map (left_edge t) (best t))) ≡ some (pair t x)
      go (inl k) = absurd (f k)
      go (inr k) =
          let q = k.0 in
          let c : q.left ≡ x = sym (left-of t q k.1) ∙ ap left_of k.4 ∙ sym e in
          let m = in-fit w (runs (free ts t) (columns W)) k.1 k.2 in
          ap head? (keep-map (clear_of_waiting W now ts a t) (left_edge t) (best t))
          ∙ head-map (left_edge t) (keep (clear t) (best t))
          (first-keep (λ y z. key y < key z) (clear t) (best-rising w (free ts t) small) m
          (subst T (sym (edge-clear t q m ∙ ap not (ap (meet t) c ∙ z))) tt)
          (λ y i b. before y i k.4 (fit-in w (runs (free ts t) (columns W)) i) b))
          ∙ ap (λ y. some (pair t y)) c
        where
          before : (q : Run) → q ∈ best t → key k.0 ≡ r → (q ∈ runs (free ts t) (columns W)) × (w ≤ q.size)
              → key q < key k.0 → T (not (clear t q))
          before q i y j b =
              subst (λ v. T (not v)) (sym (edge-clear t q i ∙ ap not (o.met q j.0 j.1 (tried (dec_le (key q) after))))) tt
            where
              tried : Dec (key q ≤ after) → key q ≤ after
              tried (yes u) = u
              tried (no u) = absurd (let l = n.least q j.0 j.1 (omega arith) in omega arith)

  -- the next meets a task: on
  pub tries-on : {t after r x : ℕ} → Tries t after → NextFit (free ts t) W w after r → (r ≡ never → ⊥) → x ≡ left_of r → meet t x ≡ true → Tries t r
  tries-on {t} {after} {r} {x} o n f e z = record { most = most n.one; met = λ q m l k. each q m l k (dec_le (key q) after) }
    where
      most : (r ≡ never) ⊎ ((q : Run) × (q ∈ runs (free ts t) (columns W)) × (w ≤ q.size) × (after < key q) × (key q ≡ r)) → r < never
      most (inl k) = absurd (f k)
      most (inr k) = let s = small-key t k.0 k.1 in omega (arith, k.4)

      each : (q : Run) → q ∈ runs (free ts t) (columns W) → w ≤ q.size → key q ≤ r → Dec (key q ≤ after) → meet t q.left ≡ true
      each q m l k (yes u) = o.met q m l u
      each q m l k (no u) =
          let v : key q ≡ r = omega (arith, n.least q m l (omega arith)) in
          ap (meet t) (sym (left-of t q m) ∙ ap left_of v ∙ sym e) ∙ z

  -- the next key is past the last
  pub tries-past : {t after r : ℕ} → Tries t after → NextFit (free ts t) W w after r → (r ≡ never → ⊥) → (after < r) × (r < never)
  tries-past {t} {after} {r} o n f = go n.one
    where
      go : (r ≡ never) ⊎ ((q : Run) × (q ∈ runs (free ts t) (columns W)) × (w ≤ q.size) × (after < key q) × (key q ≡ r)) → (after < r) × (r < never)
      go (inl k) = absurd (f k)
      go (inr k) = let s = small-key t k.0 k.1 in (omega (arith, k.3, k.4), omega (arith, k.4))

-- the visits of Stuffing
abbrev pub Stuffs : (W now : ℕ) → List Task → (w e d : ℕ) → ℕ → Type 0
Stuffs W now ts w e d t = Visits W now ts (asked w e d) (candidates 1 W now ts (asked w e d)) (map finish ts) t

module _ (W now n : ℕ) (live : List ℕ) (o : OnDevice W n live) (w e d : ℕ) where
  abbrev ts : List Task
  ts = tasks_of n live

  pub stuffs-hit : {t c : ℕ} → Stuffs W now ts w e d t → head? (candidates 1 W now ts (asked w e d) t) ≡ some (pair t c) → Some (record { column = c; start = t }) ≡ found_of (stuffing 1 W now ts (asked w e d))
  unfolding stuffing
  stuffs-hit v q = sym (ap found_of (visits-hit W now ts (asked w e d) (candidates 1 W now ts (asked w e d)) (map finish ts) v q))

  pub stuffs-none : {t u : ℕ} → Stuffs W now ts w e d t → candidates 1 W now ts (asked w e d) t ≡ [] → NextFinish live n t u → d - e < u → e ≤ d
      → None ≡ found_of (stuffing 1 W now ts (asked w e d))
  unfolding stuffing
  stuffs-none {t} {u} v q x h g = sym (ap found_of (visits-none W now ts (asked w e d) (candidates 1 W now ts (asked w e d)) (map finish ts) v q (not-before o x) (omega arith)))

  pub stuffs-on : {t u : ℕ} → Stuffs W now ts w e d t → candidates 1 W now ts (asked w e d) t ≡ [] → NextFinish live n t u
      → u ≤ d - e → e ≤ d → d ≤ last_instant → Stuffs W now ts w e d u
  stuffs-on {t} {u} v q x h g k =
      visits-on W now ts (asked w e d) (candidates 1 W now ts (asked w e d)) (map finish ts) v q (not-before o x) (next-time o x (omega arith)) x.after (omega arith)
