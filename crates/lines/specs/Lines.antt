-- What a line of text says, by the sentences of the program `record`. Assumes nothing.
use Rattle.std.specs.Prelude.{ℕ, ◌+◌, ◌-◌, Bool, cond, Option, Some, None, Result, Ok, Err, List, [], ◌∷◌, ltb, eqb, length, take}
use Rattle.lists.specs.Lists.{index_of, last_or}
use Rattle.events.specs.declared.Event.{Event}
use Rattle.events.specs.declared.Event.TheVariants.{NewBoard, Submit, Clock, Withdraw, GridBoard}
use Rattle.text.specs.Text.{ascii, value}
use Rattle.tokens.specs.declared.Sort.TheVariants.{Hash}
use Rattle.tokens.specs.Tokens.{stops_at, words, first_word, other_words, same, empty, fits, wrong, nth}
use Rattle.lines.specs.declared.Kind.{Kind}
use Rattle.lines.specs.declared.Kind.TheVariants.{Unnamed, Board as OfBoard, Submit as OfSubmit, Clock as OfClock, Withdraw as OfWithdraw}
use Rattle.lines.specs.declared.Wrong.{Wrong}

-- what a line says: an event, or nothing; or which of its words is wrong
abbrev pub Line : Type 0
Line = Result (Option Event) Wrong

abbrev pub wrong_line : Kind → ℕ → Line
wrong_line kind word = Err (record { kind = kind; word = word })

-- "CR LF too": a line without a carriage return (13) at its end
unfoldable pub less_return : List ℕ → List ℕ
less_return line = cond (eqb (last_or 0 line) 13) (take (length line - 1) line) line

-- "a # begins a comment": what stands before it
unfoldable pub bare : List ℕ → List ℕ
bare line = take (index_of (stops_at Hash) (less_return line)) (less_return line)

-- "planner by name, reference, horizon, stuffing, full, or by number 0 to 255"
unfoldable pub planner_of : List ℕ → Option ℕ
planner_of p =
    cond (same p (ascii "reference")) (Some 0)
    (cond (same p (ascii "horizon")) (Some 1)
    (cond (same p (ascii "stuffing")) (Some 2)
    (cond (same p (ascii "full")) (Some 3)
    (cond (fits 255 p) (Some (value 0 p)) None))))

-- an event, where none of the words behind the first n is wrong; else the kind of the line and its first wrong word, counted from 1
unfoldable pub said_or : Kind → ℕ → ℕ → Event → Line
said_or kind n w event = cond (eqb w 0) (Ok (Some event)) (wrong_line kind (w + n))

-- "board W H", "clock T", "withdraw ID": the words behind the name; "Numbers .. must fit the record's field"
unfoldable pub plain_line : List (List ℕ) → Line
plain_line ws = said_or OfBoard 1 (wrong 1 (65535 ∷ 65535 ∷ []) ws) (NewBoard (nth 0 ws) (nth 1 ws))

-- "board W H G": document 02, Q-3: "Event kind 5 is a new board with W 2, H 2, g 1"
unfoldable pub grid_line : List (List ℕ) → Line
grid_line ws = said_or OfBoard 1 (wrong 1 (65535 ∷ 65535 ∷ 255 ∷ []) ws) (GridBoard (nth 0 ws) (nth 1 ws) (nth 2 ws))

-- "board W H [G]": a third word is the grid
unfoldable pub board_line : List (List ℕ) → Line
board_line ws = cond (ltb 2 (length ws)) (grid_line ws) (plain_line ws)

unfoldable pub clock_line : List (List ℕ) → Line
clock_line ws = said_or OfClock 1 (wrong 1 (4294967295 ∷ []) ws) (Clock (nth 0 ws))

unfoldable pub withdraw_line : List (List ℕ) → Line
withdraw_line ws = said_or OfWithdraw 1 (wrong 1 (4294967295 ∷ []) ws) (Withdraw (nth 0 ws))

-- "submit PLANNER ID W H E D": the words behind the name; those behind the planner
unfoldable pub asks : ℕ → List (List ℕ) → Event
asks planner ws = Submit planner (record { id = nth 0 ws; e = nth 3 ws; d = nth 4 ws; w = nth 1 ws; h = nth 2 ws })

unfoldable pub submit_numbers : Option ℕ → List (List ℕ) → Line
submit_numbers None ws = wrong_line OfSubmit 2
submit_numbers (Some planner) ws =
    said_or OfSubmit 2 (wrong 1 (4294967295 ∷ 65535 ∷ 65535 ∷ 4294967295 ∷ 4294967295 ∷ []) ws) (asks planner ws)

unfoldable pub submit_behind : List ℕ → List (List ℕ) → Line
submit_behind p ws = submit_numbers (planner_of p) ws

unfoldable pub submit_line : List (List ℕ) → Line
submit_line ws = submit_behind (first_word ws) (other_words ws)

-- a line by its first word: "board", "submit", "clock", "withdraw"; "empty lines are allowed"
unfoldable pub said_by : List ℕ → List (List ℕ) → Line
said_by name ws =
    cond (empty name) (Ok None)
    (cond (same name (ascii "board")) (board_line ws)
    (cond (same name (ascii "submit")) (submit_line ws)
    (cond (same name (ascii "clock")) (clock_line ws)
    (cond (same name (ascii "withdraw")) (withdraw_line ws) (wrong_line Unnamed 1)))))

-- WHAT A LINE SAYS
unfoldable pub says : List ℕ → Line
says line = said_by (first_word (words (bare line))) (other_words (words (bare line)))
