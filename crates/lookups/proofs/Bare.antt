-- The horizon list and the busy columns read of a task only its columns and its ticks. Assumes nothing.
use Prim.Native.Nat.{ℕ}
use mathlib.Core.Path.{◌≡◌, ap, ◌∙◌, fun_ext}
use mathlib.Core.Bool.{not}
use mathlib.Core.List.{List, map}
use lib.Dec.{eqb}
use lib.ListN.{length}
use Rattle.lists.specs.Lists.{keep, each, highest, rising}
use Rattle.lists.proofs.Append.{some-map, keep-map, map-map}
use Rattle.tasks.specs.declared.Task.{Task}
use Rattle.tasks.specs.Tasks.{finish, covers, holds}
use Rattle.columns.specs.Columns.{columns, runs}
use Rattle.planners.specs.Planners.{free, release}
use Rattle.live.specs.Live.{bare}
use Rattle.lookups.specs.Lookups.{strip, horizon_list, busy_columns}

module _ (ts : List Task) where
  release-bare : (now : ℕ) → release now (map bare ts) ≡ release now ts
  release-bare now = fun_ext (λ c. unfold release covers in ap (highest now) (ap (map finish) (keep-map (covers c) bare ts) ∙ map-map finish bare (keep (covers c) ts)))

  free-bare : (i : ℕ) → free (map bare ts) i ≡ free ts i
  free-bare i = fun_ext (λ c. unfold free holds covers in ap not (some-map (holds i c) bare ts))

  pub horizon-list-bare : (W now : ℕ) → horizon_list W now (map bare ts) ≡ horizon_list W now ts
  unfolding horizon_list
  horizon-list-bare W now = ap (λ f. each (rising (map f (columns W))) (λ t. map (strip t) (runs (λ c. eqb (f c) t) (columns W)))) (release-bare now)

  pub busy-bare : (W i : ℕ) → busy_columns W (map bare ts) i ≡ busy_columns W ts i
  unfolding busy_columns
  busy-bare W i = ap (λ f. length (keep (λ c. not (f c)) (columns W))) (free-bare i)
