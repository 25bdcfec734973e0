-- A planner reads of a task only its columns and its ticks. Assumes nothing.
use Prim.Native.Nat.{ℕ, ◌+◌}
use mathlib.Core.Path.{◌≡◌, refl, sym, ap, ap₂, ◌∙◌, fun_ext}
use mathlib.Core.Bool.{Bool, not, ◌&&◌}
use mathlib.Core.Option.{Option, none, some}
use mathlib.Core.List.{List, [], ◌∷◌, map}
use native.Mathlib.Omega.{arith}
use lib.Dec.{leb, ltb, leb→le, ltb→lt, not_T}
use Rattle.lists.specs.Lists.{keep, head?, or_else, first_answer, highest, rising}
use Rattle.lists.proofs.Bools.{and_l, and_r}
use Rattle.lists.proofs.Members.{keep-no}
use Rattle.lists.proofs.Append.{some-map, keep-map, map-map}
use Rattle.ways.specs.Ways.{is_open, pairs_in, openings_in, after, openings_after}
use Rattle.tasks.specs.declared.Task.{Task}
use Rattle.tasks.specs.declared.Submission.{Submission}
use Rattle.tasks.specs.Tasks.{finish, meets, covers, holds, phase_at, waiting_phase, stamped, booked}
use Rattle.columns.specs.Columns.{columns, runs, best_fit}
use Rattle.planners.specs.Openings.{Place, ways, openings, full}
use Rattle.planners.specs.Planners.{free, release, on_grid, left_edge, visited, clear_of_waiting, candidates, released_edges, reference, horizon, stuffing}
use Rattle.live.specs.Live.{bare}
use Rattle.planners.specs.Lent.{asked}

module _ (g W now : ℕ) (ts : List Task) (a : Submission) where
  abbrev us : List Task
  us = map bare ts

  free-bare : (i : ℕ) → free us i ≡ free ts i
  free-bare i = fun_ext (λ c. unfold free holds covers in ap not (some-map (holds i c) bare ts))

  release-bare : release now us ≡ release now ts
  release-bare = fun_ext (λ c. unfold release covers in ap (highest now) (ap (map finish) (keep-map (covers c) bare ts) ∙ map-map finish bare (keep (covers c) ts)))

  finish-bare : map finish us ≡ map finish ts
  finish-bare = map-map finish bare ts

  clear-bare : (i : ℕ) → clear_of_waiting W now us a i ≡ clear_of_waiting W now ts a i
  clear-bare i =
      fun_ext (λ p. unfold clear_of_waiting phase_at meets in ap not (some-map (λ u. waiting_phase (phase_at i u) && meets (booked now a p.start p.place) u) bare ts))

  candidates-bare : candidates g W now us a ≡ candidates g W now ts a
  candidates-bare =
      fun_ext (λ i. unfold candidates in ap₂ (λ p f. keep p (map (left_edge i) (best_fit a.w (on_grid g (runs f (columns W)))))) (clear-bare i) (free-bare i))

  released-bare : released_edges g W now us a ≡ released_edges g W now ts a
  released-bare = fun_ext (λ i. unfold released_edges in ap (λ f. map (left_edge i) (best_fit a.w (on_grid g (runs (λ c. leb (f c) i) (columns W))))) release-bare)

  pub stuffing-bare : stuffing g W now us a ≡ stuffing g W now ts a
  unfolding stuffing visited
  stuffing-bare = ap₂ (λ f xs. first_answer (λ i. head? (f i)) (visited W now ts a xs)) candidates-bare finish-bare

  pub reference-bare : reference g W now us a ≡ reference g W now ts a
  unfolding reference
  reference-bare = ap (λ f. head? (f now)) candidates-bare

  pub horizon-bare : horizon g W now us a ≡ horizon g W now ts a
  unfolding horizon visited
  horizon-bare = ap₂ (λ f r. first_answer (λ i. head? (f i)) (visited W now ts a (map r (columns W)))) released-bare release-bare

  pub openings-bare : openings g W now us a ≡ openings g W now ts a
  unfolding openings_in pairs_in ways
  openings-bare =
      ap (λ p. keep p (pairs_in (ways g W now ts a)))
      (fun_ext (λ q. unfold is_open meets in ap not (some-map (meets (booked now a q.start q.place)) bare ts)))

  pub after-bare : (p : Place) → openings_after (ways g W now us a) p ≡ openings_after (ways g W now ts a) p
  unfolding openings_after after ways
  after-bare p = ap (keep (after (ways g W now ts a) p)) openings-bare

  pub full-bare : full g W now us a ≡ full g W now ts a
  unfolding full
  full-bare = ap head? openings-bare

-- REFERENCE is Stuffing with no time after now: its deadline is now + e
pub reference-is : (g W now : ℕ) (ts : List Task) (w e d : ℕ) → reference g W now ts (asked w e d) ≡ stuffing g W now ts (asked w e (now + e))
unfolding reference stuffing visited first_answer or_else candidates clear_of_waiting booked stamped meets
reference-is g W now ts w e d =
    last (head? (candidates g W now ts (asked w e (now + e)) now))
    ∙ ap (λ l. first_answer (λ i. head? (candidates g W now ts (asked w e (now + e)) i)) (now ∷ l)) (sym none-later)
  where
    last : (o : Option Place) → o ≡ or_else o none
    last none = refl
    last (some p) = refl

    later : ℕ → Bool
    later i = ltb now i && leb (i + e) (now + e)

    no-later : (xs : List ℕ) → keep later xs ≡ []
    no-later [] = unfold keep in refl
    no-later (x ∷ xs) =
        keep-no later x xs (not_T (later x) (λ t.
        let p = ltb→lt now x (and_l (ltb now x) (leb (x + e) (now + e)) t) in
        let q = leb→le (x + e) (now + e) (and_r (ltb now x) (leb (x + e) (now + e)) t) in
        omega arith))
        ∙ no-later xs

    none-later : keep later (rising (map finish ts)) ≡ []
    none-later = no-later (rising (map finish ts))
