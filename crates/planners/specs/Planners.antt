-- The planners of source document 003 over a device of W columns with a grid g at now, its live tasks and a submission. Assumes nothing.
use Rattle.std.specs.Prelude.{ℕ, zero, suc, ◌+◌, Bool, not, ◌&&◌, List, ◌∷◌, map, leb, ltb}
use Rattle.std.proofs.Math.Option.{Option, none}
use Rattle.lists.specs.Lists.{keep, some?, head?, first_answer, highest, rising}
use Rattle.ways.specs.Ways.{pair}
use Rattle.tasks.specs.declared.Task.{Task}
use Rattle.tasks.specs.declared.Submission.{Submission}
use Rattle.tasks.specs.Numbers.{may_begin}
use Rattle.tasks.specs.Tasks.{finish, meets, covers, holds, phase_at, waiting_phase, booked}
use Rattle.columns.specs.Columns.{columns, Run, runs, best_fit}
use Rattle.planners.specs.Openings.{Place, full}

-- a column "that no live task holds at t, tasks starting at t included and tasks ending at t not"
unfoldable pub free : List Task → ℕ → ℕ → Bool
free ts i c = not (some? (holds i c) ts)

-- "A column's release is the later of now and the last finish of any live task on it"
unfoldable pub release : ℕ → List Task → ℕ → ℕ
release now ts c = highest now (map finish (keep (covers c) ts))

-- document 02, Q-3: the runs at whose left edge a task may begin
unfoldable pub on_grid : ℕ → List Run → List Run
on_grid g rs = keep (λ r. may_begin g r.left) rs

-- "the task goes to the run's left edge"
abbrev pub left_edge : ℕ → Run → Place
left_edge i r = pair i r.left

module _ (W now : ℕ) (ts : List Task) (a : Submission) where
  -- "Visit now, then each .. after now and up to d − e, rising"
  unfoldable pub visited : List ℕ → List ℕ
  visited times = now ∷ keep (λ i. ltb now i && leb (i + a.e) a.d) (rising times)

  -- the place "meets no waiting task": none that waits at i
  unfoldable pub clear_of_waiting : ℕ → Place → Bool
  clear_of_waiting i p = not (some? (λ u. waiting_phase (phase_at i u) && meets (booked now a p.start p.place) u) ts)

module _ (g W now : ℕ) (ts : List Task) (a : Submission) where
  -- "try the free intervals in best-fit order": the left edges at i that meet no waiting task
  unfoldable pub candidates : ℕ → List Place
  candidates i = keep (clear_of_waiting W now ts a i) (map (left_edge i) (best_fit a.w (on_grid g (runs (free ts i) (columns W)))))

  -- "at t, look at the longest runs of columns released by t": their left edges in best-fit order
  unfoldable pub released_edges : ℕ → List Place
  released_edges i = map (left_edge i) (best_fit a.w (on_grid g (runs (λ c. leb (release now ts c) i) (columns W))))

  -- "Reference. At now only .. take the first left edge that meets no waiting task"
  unfoldable pub reference : Option Place
  reference = head? (candidates now)

  -- "Horizon (Algorithm 1) .. now and then each release time .. the first t with a run wide enough"
  unfoldable pub horizon : Option Place
  horizon = first_answer (λ i. head? (released_edges i)) (visited W now ts a (map (release now ts) (columns W)))

  -- "Stuffing (Algorithm 2). Visit now, then each finish of a live task .. At each, do as Reference does at that t"
  unfoldable pub stuffing : Option Place
  stuffing = first_answer (λ i. head? (candidates i)) (visited W now ts a (map finish ts))

  -- "0 Reference", "1 Horizon", "2 Stuffing", "3 Full"; there is no other
  unfoldable pub planned : ℕ → Option Place
  planned zero = reference
  planned (suc zero) = horizon
  planned (suc (suc zero)) = stuffing
  planned (suc (suc (suc zero))) = full g W now ts a
  planned (suc (suc (suc (suc n)))) = none
