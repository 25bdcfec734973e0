-- What a planner is asked, and the place as the code answers it: code-level definitions; no promise of a public call cites them. Assumes nothing.
use Rattle.std.specs.Prelude.{ℕ, ◌+◌, ◌*◌, ◌≤◌, ◌<◌, List, map, T, Option as Answer, Some, None}
use Rattle.std.proofs.Math.Option.{Option, none, some}
use Rattle.lists.specs.Lists.{◌∈◌, range}
use Rattle.ways.specs.Ways.{pair}
use Rattle.tasks.specs.declared.Submission.{Submission}
use Rattle.tasks.specs.declared.Task.{Task}
use Rattle.tasks.specs.Numbers.{last_instant, multiple, may_begin}
use Rattle.tasks.specs.Tasks.{past}
use Rattle.planners.specs.declared.Place.{Place as FoundPlace}
use Rattle.planners.specs.declared.Window.{Window}
use Rattle.planners.specs.Openings.{Place}

-- a place as the code answers it
abbrev pub found_of : Option Place → Answer FoundPlace
found_of none = None
found_of (some p) = Some (record { column = p.place; start = p.start })

-- what is asked fits the device, and the window of its starts is not empty
pub record Fits (q : Window) : Type 0 where
  pub wide : 1 ≤ q.w
  pub columns : q.w ≤ q.width
  pub long : 1 ≤ q.e
  pub in-time : q.clock + q.e ≤ q.d
  pub until : q.d ≤ last_instant

-- a submission by what a planner reads of it
abbrev pub asked : ℕ → ℕ → ℕ → Submission
asked w e d = record { id = 0; e = e; d = d; w = w; h = 0 }

-- the submission of a window
abbrev pub wanted : Window → Submission
wanted q = asked q.w q.e q.d

-- columns come in steps of g: those of the device, the w asked for, and of every live task both ends
pub record Stepped (g W w : ℕ) (ts : List Task) : Type 0 where
  pub step : 1 ≤ g
  pub device : T (multiple g W)
  pub width : T (multiple g w)
  pub begins : (u : Task) → u ∈ ts → T (may_begin g u.column)
  pub ends : (u : Task) → u ∈ ts → T (may_begin g (past u))

-- r is n rounded up to the grid
pub record Rounded (g n r : ℕ) : Type 0 where
  pub multiple : T (multiple g r)
  pub low : n ≤ r
  pub near : r < n + g

-- n openings at t from a column on, a step apart
abbrev pub run_at : ℕ → ℕ → ℕ → ℕ → List Place
run_at t step from n = map (λ k. pair t (from + k * step)) (range 0 n)
