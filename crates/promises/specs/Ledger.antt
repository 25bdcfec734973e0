-- What was promised over a session: the accepted tasks since the last new board that were not withdrawn. Assumes nothing.
use Rattle.std.specs.Prelude.{ℕ, zero, suc, not, ◌&&◌, List, [], ◌∷◌, eqb}
use Rattle.lists.specs.Lists.{keep}
use Rattle.tasks.specs.declared.Task.{Task}
use Rattle.tasks.specs.declared.Submission.{Submission}
use Rattle.tasks.specs.Tasks.{waiting_phase, phase_at, booked}
use Rattle.board.specs.declared.Board.{Board}
use Rattle.board.specs.declared.Answer.{Answer}
use Rattle.board.specs.declared.Answer.TheVariants.{Rejected, Placed, Refused}
use Rattle.board.specs.Calls.{submitted, withdrawn}
use Rattle.events.specs.declared.Event.{Event}
use Rattle.events.specs.declared.Event.TheVariants.{NewBoard, Submit, Clock, Withdraw, GridBoard}
use Rattle.events.specs.Records.{submission_of}
use Rattle.steps.specs.declared.State.{State}
use Rattle.session.specs.Recording.{outcome}

-- a place answered is a promise: the task with its column and start
unfoldable pub entered : Board → Submission → Answer → List Task → List Task
entered b a Rejected ks = ks
entered b a (Placed c s f) ks = booked b.now a s c ∷ ks
entered b a (Refused n) ks = ks

-- a withdrawal that is not refused strikes the waiting task of that id
unfoldable pub struck : Board → ℕ → ℕ → List Task → List Task
struck b zero n ks = keep (λ k. not (eqb k.id n && waiting_phase (phase_at b.now k))) ks
struck b (suc m) n ks = ks

-- the promises after an event; "between one new board and the next"
unfoldable pub ledger_after : State → List Task → Event → List Task
ledger_after s ks (NewBoard W H) = []
ledger_after s ks (Submit n a) = let x = submission_of a in entered s.board x (submitted s.board n x).answer ks
ledger_after s ks (Clock i) = ks
ledger_after s ks (Withdraw n) = struck s.board (withdrawn s.board n).number n ks
ledger_after s ks (GridBoard W H g) = []

-- the state of a run with the promises made in it
pub record Account : Type 0 where
  pub state : State
  pub promises : List Task

-- a session, by the book's run
unfoldable pub account_after : Account → List Event → Account
account_after c [] = c
account_after c (v ∷ vs) = account_after (record { state = (outcome c.state v).state; promises = ledger_after c.state c.promises v }) vs
