-- The busy columns are the columns that some live task holds at the instant. Assumes nothing.
use Prim.Native.Nat.{ℕ}
use mathlib.Core.Path.{◌≡◌, refl, ap, fun_ext}
use mathlib.Core.Bool.{Bool, true, false, not}
use mathlib.Core.List.{List}
use lib.ListN.{length}
use Rattle.lists.specs.Lists.{keep, some?}
use Rattle.tasks.specs.declared.Task.{Task}
use Rattle.tasks.specs.Tasks.{holds}
use Rattle.columns.specs.Columns.{columns}
use Rattle.planners.specs.Planners.{free}
use Rattle.lookups.specs.Lookups.{busy_columns}

twice : (b : Bool) → not (not b) ≡ b
twice true = refl
twice false = refl

-- THE COUNT OF THE COLUMNS THAT SOME TASK HOLDS
pub busy-held : (W : ℕ) (ts : List Task) (i : ℕ) → busy_columns W ts i ≡ length (keep (λ c. some? (holds i c) ts) (columns W))
unfolding busy_columns free
busy-held W ts i = ap (λ p. length (keep p (columns W))) (fun_ext (λ c. twice (some? (holds i c) ts)))
