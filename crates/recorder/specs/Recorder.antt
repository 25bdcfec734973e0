-- What the program `record` writes for a text. Assumes nothing.
use Rattle.std.specs.Prelude.{ℕ, suc, ◌+◌, ◌-◌, Some, None, Ok, Err, Bool, true, false, cond, ◌&&◌, List, [], ◌∷◌, ◌++◌, map, leb, ltb, eqb, length, take, drop, get_or}
use Rattle.events.specs.Records.{record_of}
use Rattle.text.specs.Text.{ascii, decimal}
use Rattle.text.specs.Output.{Output, nothing, before}
use Rattle.tokens.specs.Tokens.{words, same, empty}
use Rattle.lines.specs.declared.Kind.{Kind}
use Rattle.lines.specs.declared.Kind.TheVariants.{Unnamed, Board, Submit, Clock, Withdraw}
use Rattle.lines.specs.Lines.{Line, bare, says}

-- "a line feed (10) ends a line, and so does the end of the text": the lines of a text behind the bytes of one that has begun
unfoldable pub lines_on : List ℕ → List ℕ → List (List ℕ)
lines_on begun [] = begun ∷ []
lines_on begun (b ∷ bs) = cond (eqb b 10) (begun ∷ lines_on [] bs) (lines_on (begun ++ (b ∷ [])) bs)

-- "a byte order mark (239 187 191) at the front of the text is skipped": what line n says without it
unfoldable pub unmarked : ℕ → List ℕ → List ℕ
unmarked n line = cond (eqb n 1 && same (take 3 line) (239 ∷ 187 ∷ 191 ∷ [])) (drop 3 line) line

-- a byte that is no character of ASCII is shown as `?` (63)
abbrev pub shown_byte : ℕ → ℕ
shown_byte b = cond (leb 32 b && leb b 126) b 63

-- a word longer than 40 bytes is shown by its first 40
unfoldable pub shown_word : List ℕ → List ℕ
shown_word w = cond (ltb 40 (length w)) (map shown_byte (take 40 w) ++ ascii "..") (map shown_byte w)

-- the wrong word in quotes; no bytes where the line ends before it
unfoldable pub quoted : List ℕ → List ℕ
quoted w = cond (empty w) (ascii "the line ends") (ascii "'" ++ (shown_word w ++ ascii "'"))

-- what a line of each kind has at a word, counted from 1: "board W H [G]"
unfoldable pub board_wants : ℕ → List ℕ
board_wants word =
    cond (eqb word 2) (ascii "W, a number from 0 to 65535 (board W H [G])")
    (cond (eqb word 3) (ascii "H, a number from 0 to 65535 (board W H [G])")
    (cond (eqb word 4) (ascii "G, a number from 0 to 255, or the end of the line (board W H [G])") (ascii "the end of the line (board W H [G])")))

-- "submit PLANNER ID W H E D"
unfoldable pub submit_wants : ℕ → List ℕ
submit_wants word =
    cond (eqb word 2) (ascii "PLANNER, reference, horizon, stuffing, full or a number from 0 to 255")
    (cond (eqb word 3) (ascii "ID, a number from 0 to 4294967295")
    (cond (eqb word 4) (ascii "W, a number from 0 to 65535")
    (cond (eqb word 5) (ascii "H, a number from 0 to 65535")
    (cond (eqb word 6) (ascii "E, a number from 0 to 4294967295")
    (cond (eqb word 7) (ascii "D, a number from 0 to 4294967295") (ascii "the end of the line"))))))

-- "clock T"
unfoldable pub clock_wants : ℕ → List ℕ
clock_wants word = cond (eqb word 2) (ascii "T, a number from 0 to 4294967295 (clock T)") (ascii "the end of the line (clock T)")

-- "withdraw ID"
unfoldable pub withdraw_wants : ℕ → List ℕ
withdraw_wants word = cond (eqb word 2) (ascii "ID, a number from 0 to 4294967295 (withdraw ID)") (ascii "the end of the line (withdraw ID)")

-- by the kind of the line
unfoldable pub expected : Kind → ℕ → List ℕ
expected Unnamed word = ascii "board, submit, clock or withdraw"
expected Board word = board_wants word
expected Submit word = submit_wants word ++ ascii " (submit PLANNER ID W H E D)"
expected Clock word = clock_wants word
expected Withdraw word = withdraw_wants word

-- "how many records were written before it": the end of a message
unfoldable pub count_text : ℕ → List ℕ
count_text records = ascii "; records written: " ++ (decimal records ++ (10 ∷ []))

-- the message of a wrong line: its number, the number of its wrong word, the word, what stands there in a right line
unfoldable pub wrong_text : ℕ → ℕ → Kind → ℕ → List ℕ → List ℕ
wrong_text n records kind word w =
    ascii "record: line " ++ (decimal n ++ (ascii ", word " ++ (decimal word ++ (ascii ": " ++ (quoted w
    ++ (ascii ": expected " ++ (expected kind word ++ count_text records)))))))

-- the message of a line that is too long
unfoldable pub long_text : ℕ → ℕ → List ℕ
long_text n records = ascii "record: line " ++ (decimal n ++ (ascii ": expected fewer than 65536 bytes in a line" ++ count_text records))

-- what a line makes: its output, how many records that is, whether the run goes on
pub record Made : Type 0 where
  pub output : Output
  pub records : ℕ
  pub more : Bool

-- "nothing of a wrong line or after it": a message, and one byte 0, which is of no kind, so that no reader takes the rest for a whole recording
abbrev pub refused : List ℕ → Made
refused message = record { output = record { out = 0 ∷ []; err = message }; records = 0; more = false }

-- line n behind so many records, by what it says
unfoldable pub made_of : ℕ → ℕ → List ℕ → Line → Made
made_of n records line (Ok None) = record { output = nothing; records = 0; more = true }
made_of n records line (Ok (Some v)) = record { output = record { out = record_of v; err = [] }; records = 1; more = true }
made_of n records line (Err w) = refused (wrong_text n records w.kind w.word (get_or (words (bare line)) (w.word - 1) []))

unfoldable pub line_made : ℕ → ℕ → List ℕ → Made
line_made n records line = made_of n records (unmarked n line) (says (unmarked n line))

-- "a line has fewer than 65,536 bytes"
unfoldable pub made : ℕ → ℕ → List ℕ → Made
made n records line = cond (ltb (length line) 65536) (line_made n records line) (refused (long_text n records))

-- lines, the first of which is line n, behind so many records
unfoldable pub record_lines : ℕ → ℕ → List (List ℕ) → Output
record_lines n records [] = nothing
record_lines n records (line ∷ lines) =
    let m = made n records line in
    let more = record_lines (suc n) (records + m.records) lines in
    cond m.more (before m.output more) m.output

-- WHAT `record` WRITES for a text: its lines are numbered from 1
unfoldable pub record_bytes : List ℕ → Output
record_bytes text = record_lines 1 0 (lines_on [] text)
