-- A board as `ask` shows it: texts of the issue's rows, in ASCII. Assumes nothing.
use Rattle.std.specs.Prelude.{ℕ, suc, cond, List, [], ◌∷◌, ◌++◌, eqb}
use Rattle.tasks.specs.declared.Phase.{Phase}
use Rattle.tasks.specs.declared.Phase.TheVariants.{Ended, Waiting, Running}
use Rattle.tasks.specs.declared.Task.{Task}
use Rattle.tasks.specs.Tasks.{finish, live, stamped_all}
use Rattle.text.specs.Text.{ascii, decimal, line_text, row_text}
use Rattle.board.specs.declared.Board.{Board}

-- "phase in words": ended, waiting, running
abbrev pub phase_word : Phase → List ℕ
phase_word Ended = ascii "ended"
phase_word Waiting = ascii "waiting"
phase_word Running = ascii "running"

-- "Its first line is `answer N`"
unfoldable pub answer_text : ℕ → List ℕ
answer_text n = line_text (ascii "answer" ∷ decimal n ∷ [])

-- "a row `slot id w h e d column start finish phase`"
unfoldable pub task_text : ℕ → Task → List ℕ
task_text slot k =
    line_text
    (decimal slot ∷ decimal k.id ∷ decimal k.w ∷ decimal k.h ∷ decimal k.e ∷ decimal k.d
    ∷ decimal k.column ∷ decimal k.start ∷ decimal (finish k) ∷ phase_word k.phase ∷ [])

-- "for each live task by slot": the slots from one on decide which are live, and what is shown of each stands in another table
unfoldable pub tasks_text : ℕ → List Task → List Task → List ℕ
tasks_text slot [] shown = []
tasks_text slot (k ∷ ks) [] = []
tasks_text slot (k ∷ ks) (s ∷ shown) = cond (live k) (task_text slot s) [] ++ tasks_text (suc slot) ks shown

-- "a row `W H now` for g 1 and `W H now G` otherwise"
unfoldable pub device_row : Board → List ℕ
device_row b =
    cond (eqb b.device.grid 1) (b.device.columns ∷ b.device.rows ∷ b.now ∷ []) (b.device.columns ∷ b.device.rows ∷ b.now ∷ b.device.grid ∷ [])

-- the row of the device, "then a row .. for each live task by slot, slots counted from 1"
unfoldable pub shown_text : Board → List Task → List ℕ
shown_text b shown = row_text (device_row b) ++ tasks_text 1 b.tasks shown

-- "`ask board`"
abbrev pub board_text : Board → List ℕ
board_text b = shown_text b b.tasks

-- "`ask stamp T`: as `ask board`, the phases stamped at T"
abbrev pub stamp_text : ℕ → Board → List ℕ
stamp_text instant b = shown_text b (stamped_all instant b.tasks)

-- "ask: event "
abbrev pub ask_event : List ℕ
ask_event = ascii "ask: event "

-- " (kind "
abbrev pub of_kind : List ℕ
of_kind = ascii " (kind "

-- ") is cut short (15): not answered"
abbrev pub is_cut_short : List ℕ
is_cut_short = ascii ") is cut short (15): not answered\n"

-- ") is of no known kind (16): not answered"
abbrev pub is_unknown : List ℕ
is_unknown = ascii ") is of no known kind (16): not answered\n"

-- "A recording that ends in 15 or 16 is not answered: a message .. names the event"
unfoldable pub halt_text : ℕ → ℕ → ℕ → List ℕ
halt_text event kind end = ask_event ++ (decimal event ++ (of_kind ++ (decimal kind ++ cond (eqb end 15) is_cut_short is_unknown)))
