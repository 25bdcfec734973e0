-- How a case is written down: a device, what is done and asked, and the numbers that come of it. Assumes nothing.
use Rattle.std.specs.Prelude.{ℕ, Bool, true, false, cond, List, [], ◌∷◌, eqb, get_or, replicate}
use Rattle.tasks.specs.declared.Task.{Task}
use Rattle.tasks.specs.Tasks.{live, waiting_phase, free_slot}
use Rattle.tasks.specs.declared.Submission.{Submission}
use Rattle.board.specs.declared.Board.{Board}
use Rattle.board.specs.Answers.{Told}
use Rattle.board.specs.Calls.{created, opened, opened_buffer, listed, listed_buffer, counted}
use Rattle.events.specs.declared.Ask.{Ask}
use Rattle.events.specs.declared.Event.TheVariants.{NewBoard, Submit, Clock, Withdraw, GridBoard}
use Rattle.session.specs.Recording.{first_state, Outcome, outcome}
use Rattle.steps.specs.Outcomes.{with_board}

-- what an event asks for, in the order of document 01's cases
abbrev pub ask : ℕ → ℕ → ℕ → ℕ → ℕ → Ask
ask id w h e d = record { id = id; e = e; d = d; w = w; h = h }

-- a task without an id, for the openings call
abbrev pub task : ℕ → ℕ → ℕ → ℕ → Submission
task w h e d = record { id = 0; e = e; d = d; w = w; h = h }

-- what is done to a board, or asked of it with a buffer of that many words, each 999 before
pub data Step : Type 0 where
  board : (W H : ℕ) → Step
  grid : (W H g : ℕ) → Step
  submit : (planner id w h e d : ℕ) → Step
  clock : (instant : ℕ) → Step
  withdraw : (id : ℕ) → Step
  horizon : (words : ℕ) → Step
  openings : (w h e d start column words : ℕ) → Step
  busy : (instant : ℕ) → Step
  slot : (place : ℕ) → Step

-- number, column, start, finish
unfoldable pub numbers : Told → List ℕ
numbers a = a.number ∷ a.column ∷ a.start ∷ a.finish ∷ []

-- "A record holds id, w, h, e, d, column, start and phase": as numbers, the phase 0 ended, 1 waiting, 2 running
unfoldable pub record_numbers : Task → List ℕ
record_numbers k = k.id ∷ k.w ∷ k.h ∷ k.e ∷ k.d ∷ k.column ∷ k.start ∷ cond (live k) (cond (waiting_phase k.phase) 1 2) 0 ∷ []

-- an event's numbers, and the rest from the board that follows
unfoldable pub after_event : Outcome → (Board → List (List ℕ)) → List (List ℕ)
after_event r rest = numbers r.answer ∷ rest r.state.board

-- a list of numbers for each step: of a question, its number, its counts and the whole buffer; of a look at a slot (from 0), its record
unfoldable pub play : List Step → Board → List (List ℕ)
play [] b = []
play (board W H ∷ vs) b = after_event (outcome (with_board first_state b) (NewBoard W H)) (play vs)
play (grid W H g ∷ vs) b = after_event (outcome (with_board first_state b) (GridBoard W H g)) (play vs)
play (submit n id w h e d ∷ vs) b = after_event (outcome (with_board first_state b) (Submit n (ask id w h e d))) (play vs)
play (clock i ∷ vs) b = after_event (outcome (with_board first_state b) (Clock i)) (play vs)
play (withdraw n ∷ vs) b = after_event (outcome (with_board first_state b) (Withdraw n)) (play vs)
play (horizon words ∷ vs) b =
    let r = listed b words in
    (r.number ∷ r.count ∷ listed_buffer b (replicate words 999)) ∷ play vs r.board
play (openings w h e d s c words ∷ vs) b =
    let r = opened b (task w h e d) s c words in
    (r.number ∷ r.count ∷ cond r.more 1 0 ∷ opened_buffer b (task w h e d) s c (replicate words 999)) ∷ play vs r.board
play (busy i ∷ vs) b =
    let r = counted b i in
    (r.number ∷ r.count ∷ []) ∷ play vs r.board
play (slot i ∷ vs) b = record_numbers (get_or b.tasks i free_slot) ∷ play vs b

-- steps on a new board of W columns and H rows, and what comes of each
pub record Case : Type 0 where
  pub W : ℕ
  pub H : ℕ
  pub steps : List Step
  pub answers : List (List ℕ)

-- a case in one line
abbrev pub case : ℕ → ℕ → List Step → List (List ℕ) → Case
case W H vs out = record { W = W; H = H; steps = vs; answers = out }

-- the same numbers
unfoldable pub same : List ℕ → List ℕ → Bool
same [] [] = true
same [] (y ∷ ys) = false
same (x ∷ xs) [] = false
same (x ∷ xs) (y ∷ ys) = elim (eqb x y) [ true ↦ same xs ys | false ↦ false ]

-- the same lists of numbers
unfoldable pub same_all : List (List ℕ) → List (List ℕ) → Bool
same_all [] [] = true
same_all [] (y ∷ ys) = false
same_all (x ∷ xs) [] = false
same_all (x ∷ xs) (y ∷ ys) = elim (same x y) [ true ↦ same_all xs ys | false ↦ false ]

-- what comes of the steps is what the case says
unfoldable pub passes : Case → Bool
passes k = same_all (play k.steps (created k.W k.H 1).board) k.answers

-- a submission that is placed at a column and start for e ticks
unfoldable pub at : ℕ → ℕ → ℕ → List ℕ
at c s f = 0 ∷ c ∷ s ∷ f ∷ []

-- an answer that is a number alone
unfoldable pub only : ℕ → List ℕ
only n = n ∷ 0 ∷ 0 ∷ 0 ∷ []
