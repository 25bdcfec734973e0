-- What a viewer draws of the live tasks: the horizon list and the busy columns. Assumes nothing.
use Rattle.std.specs.Prelude.{ℕ, ◌+◌, ◌-◌, not, List, [], ◌∷◌, map, eqb, length}
use Rattle.lists.specs.Lists.{keep, each, rising}
use Rattle.tasks.specs.declared.Task.{Task}
use Rattle.columns.specs.Columns.{columns, Run, runs}
use Rattle.planners.specs.Planners.{free, release}

-- "First column, last column, release"
pub record Strip : Type 0 where
  pub first : ℕ
  pub last : ℕ
  pub release : ℕ

-- a run with its release; a run has a column or more
abbrev pub strip : ℕ → Run → Strip
strip t r = record { first = r.left; last = r.left + r.size - 1; release = t }

-- "for each longest run of columns with equal release, by release and then column"
unfoldable pub horizon_list : ℕ → ℕ → List Task → List Strip
horizon_list W now ts =
    each (rising (map (release now ts) (columns W)))
    (λ t. map (strip t) (runs (λ c. eqb (release now ts c) t) (columns W)))

-- three words a run
unfoldable pub strip_numbers : List Strip → List ℕ
strip_numbers [] = []
strip_numbers (s ∷ ss) = s.first ∷ s.last ∷ s.release ∷ strip_numbers ss

-- "The number of columns held at an instant"
unfoldable pub busy_columns : ℕ → List Task → ℕ → ℕ
busy_columns W ts i = length (keep (λ c. not (free ts i c)) (columns W))
