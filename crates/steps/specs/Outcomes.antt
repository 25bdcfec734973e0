-- What each event is answered: its call. Assumes nothing.
use Rattle.std.specs.Prelude.{ℕ}
use Rattle.tasks.specs.declared.Submission.{Submission}
use Rattle.board.specs.declared.Board.{Board}
use Rattle.board.specs.Answers.{Told, bare, told}
use Rattle.board.specs.Calls.{zero_board, created, submitted, clocked, withdrawn}
use Rattle.events.specs.declared.Event.{Event}
use Rattle.events.specs.declared.Event.TheVariants.{NewBoard, Submit, Clock, Withdraw, GridBoard}
use Rattle.events.specs.Records.{submission_of}
use Rattle.steps.specs.declared.State.{State}

-- "begins with an unsound board of zeros"
abbrev pub first_state : State
first_state = record { board = zero_board }

-- the state with another board
abbrev pub with_board : State → Board → State
with_board s b = record { board = b }

-- what an event is answered, and the state that follows
pub record Outcome : Type 0 where
  pub answer : Told
  pub state : State

-- a new board on a grid: its answer, and the state that follows
abbrev pub board_outcome : State → ℕ → ℕ → ℕ → Outcome
board_outcome s W H g = let r = created W H g in record { answer = bare r.number; state = with_board s r.board }

-- a submission to planner n: its answer, and the state that follows
abbrev pub submit_outcome : State → ℕ → Submission → Outcome
submit_outcome s n a = let r = submitted s.board n a in record { answer = told r.answer; state = with_board s r.board }

-- each event is its call; "the last three 0 for all but submissions"; document 02, Q-3: "kind 1 means g = 1"
unfoldable pub outcome : State → Event → Outcome
outcome s (NewBoard W H) = board_outcome s W H 1
outcome s (Submit n a) = submit_outcome s n (submission_of a)
outcome s (Clock i) = let r = clocked s.board i in record { answer = bare r.number; state = with_board s r.board }
outcome s (Withdraw n) = let r = withdrawn s.board n in record { answer = bare r.number; state = with_board s r.board }
outcome s (GridBoard W H g) = board_outcome s W H g
