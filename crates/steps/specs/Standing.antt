-- The board inside a run: device and clock, live table, and the records as booked: code-level definitions; no promise of a public call cites them. Assumes nothing.
use Rattle.std.specs.Prelude.{ℕ, ◌<◌, ◌≡◌, cond, Some, List, length, set, replicate}
use Rattle.std.specs.Option.{is_some}
use Rattle.tasks.specs.declared.Task.{Task}
use Rattle.survey.specs.declared.Findings.{Findings}
use Rattle.tasks.specs.Tasks.{free_slot}
use Rattle.slots.specs.Slots.{sound, all_aged_to}
use Rattle.live.specs.Live.{Masked}
use Rattle.live.specs.Kept.{Kept, InUse}
use Rattle.board.specs.Standing.{board_of}
use Rattle.steps.specs.declared.State.{State}
use Rattle.steps.specs.declared.Brief.{Brief}
use Rattle.steps.specs.declared.Change.{Change}
use Rattle.steps.specs.declared.Change.TheVariants.{Nothing, Booked, Freed, Cleared}
use Rattle.steps.specs.declared.Done.{Done}
use Rattle.steps.specs.Outcomes.{Outcome}

-- the state by the slots of its board and the rest in brief
abbrev pub state_of : List Task → Brief → State
state_of ks d = record { board = board_of ks d.clock d.device }

-- the slots ks of the board, and where it is sound, its live table
pub record Keeps (d : Brief) (ks : List Task) (rows masks : List ℕ) : Type 0 where
  pub slots : length ks ≡ 64
  pub size : length rows ≡ 384
  pub wide : length masks ≡ 256
  pub good : sound d.device d.clock ks ≡ is_some d.found
  pub kept : (v : Findings) → d.found ≡ Some v → Kept d.device d.clock ks v.count rows
  pub masked : (v : Findings) → d.found ≡ Some v → Masked v.count rows masks
  pub used : (v : Findings) → d.found ≡ Some v → InUse 64 ks v.used

-- the records as they were booked: brought up to the clock they are the slots of a sound board
abbrev pub as_booked : Brief → List Task → List Task
as_booked d tasks = cond (is_some d.found) (all_aged_to d.clock tasks) tasks

-- an event's change to them
unfoldable pub changed : Change → List Task → List Task
changed Nothing tasks = tasks
changed (Booked slot k) tasks = set tasks slot k
changed (Freed slot) tasks = set tasks slot free_slot
changed Cleared tasks = replicate 64 free_slot

-- the slot that it changes, where it changes one
abbrev pub slot_of : Change → ℕ
slot_of Nothing = 0
slot_of (Booked slot k) = slot
slot_of (Freed slot) = slot
slot_of Cleared = 0

-- what an event did follows the book
pub record Follows (d : Brief) (ks : List Task) (o : Outcome) (r : Done) (rows masks : List ℕ) : Type 0 where
  pub number : r.number ≡ o.answer.number
  pub column : r.column ≡ o.answer.column
  pub start : r.start ≡ o.answer.start
  pub finish : r.finish ≡ o.answer.finish
  pub clock : r.brief.clock ≡ o.state.board.now
  pub device : r.brief.device ≡ o.state.board.device
  pub keeps : Keeps r.brief o.state.board.tasks rows masks
  pub inside : slot_of r.change < 64
  pub records : (tasks : List Task) → length tasks ≡ 64 → ks ≡ as_booked d tasks → o.state.board.tasks ≡ as_booked r.brief (changed r.change tasks)

-- there are such slots
pub record Has (d : Brief) (rows masks : List ℕ) : Type 0 where
  pub tasks : List Task
  pub keeps : Keeps d tasks rows masks
