-- A board inside a call, its live table lent: code-level definitions; no promise of a public call cites them. Assumes nothing.
use Rattle.std.specs.Prelude.{ℕ, ◌+◌, ◌≡◌, List, set}
use Rattle.tasks.specs.declared.Device.{Device}
use Rattle.tasks.specs.declared.Task.{Task}
use Rattle.tasks.specs.declared.Submission.{Submission}
use Rattle.tasks.specs.Tasks.{booked}
use Rattle.live.specs.Live.{Masked}
use Rattle.live.specs.Kept.{Kept, lowest_free}
use Rattle.board.specs.declared.Board.{Board}
use Rattle.board.specs.declared.Answer.TheVariants.{Placed}
use Rattle.board.specs.declared.Submitted.{Submitted}
use Rattle.board.specs.Calls.{with_tasks}

-- a task booked into a slot
abbrev pub submitted_booked : Board → Submission → ℕ → ℕ → ℕ → Submitted
submitted_booked b a i c t =
    record { answer = Placed c t (t + a.e); board = with_tasks b (set b.tasks i (booked b.now a t c)) }

-- a board by its slots, clock and device
abbrev pub board_of : List Task → ℕ → Device → Board
board_of ks now D = record { tasks = ks; now = now; device = D }

-- the live table of a sound board is lent, as planner number p reads it, and its lowest free slot told
pub record Standing (D : Device) (now n free planner : ℕ) (rows masks : List ℕ) : Type 0 where
  pub slots : List Task
  pub kept : Kept D now slots n rows
  pub lowest : free ≡ lowest_free slots
  pub masked : (planner ≡ 1 → ⊥) → (planner ≡ 2 → ⊥) → Masked n rows masks
