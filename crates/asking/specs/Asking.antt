-- What the program `ask` writes, by its question and the bytes of the recording. Assumes nothing.
use Rattle.std.specs.Prelude.{ℕ, suc, Option, Some, None, Bool, true, false, cond, List, [], ◌∷◌, ◌++◌, map, ltb, eqb, length, take}
use Rattle.planners.specs.Openings.{Place}
use Rattle.lookups.specs.Lookups.{Strip}
use Rattle.board.specs.declared.Board.{Board}
use Rattle.board.specs.Refusals.{sound_board, horizon_of}
use Rattle.board.specs.Calls.{remaining, opened, listed, counted}
use Rattle.session.specs.declared.Ending.{Ending}
use Rattle.session.specs.declared.Ending.TheVariants.{NotYet, AtEnd, In15, In16, AtLast, PastLast}
use Rattle.session.specs.Recording.{story}
use Rattle.text.specs.Text.{ascii, row_text, rows_text}
use Rattle.text.specs.Output.{Output}
use Rattle.questions.specs.declared.Question.{Question}
use Rattle.questions.specs.declared.Question.TheVariants as Asked
use Rattle.board_text.specs.BoardText.{answer_text, halt_text, board_text, stamp_text}

-- "Its first line is `answer N` with 01's number; rows follow only if N is 0"
unfoldable pub replied : ℕ → List ℕ → List ℕ
replied number rows = answer_text number ++ cond (eqb number 0) rows []

-- "rows `first last release`"
abbrev pub strip_row : Strip → List ℕ
strip_row s = s.first ∷ s.last ∷ s.release ∷ []

-- "rows `start column`"
abbrev pub place_row : Place → List ℕ
place_row p = p.start ∷ p.place ∷ []

unfoldable pub places_text : List Place → List ℕ
places_text ps = rows_text (map place_row ps)

-- "then a row `more` or `end`"
unfoldable pub last_row : Bool → List ℕ
last_row more = cond more (ascii "more\n") (ascii "end\n")

-- "at most MOST": the first of the openings that come strictly after the pair, and whether there are more
unfoldable pub openings_text : ℕ → List Place → List ℕ
openings_text most ps = places_text (take most ps) ++ last_row (ltb most (length ps))

-- three words a run: a device has at most 256 columns, so there is room for every horizon
abbrev pub horizon_words : ℕ
horizon_words = 768

-- 01's number where a board has only to be sound
abbrev pub unsoundness : Board → ℕ
unsoundness b = cond (sound_board b) 0 1

-- THE ANSWER to a question about a board; none where nothing is asked
unfoldable pub answered : Option Question → Board → List ℕ
answered None b = []
answered (Some Asked.Horizon) b = replied (listed b horizon_words).number (rows_text (map strip_row (horizon_of b)))
answered (Some (Asked.Busy i)) b = replied (counted b i).number (row_text ((counted b i).count ∷ []))
answered (Some (Asked.Openings a s c most)) b = replied (opened b a s c 0).number (openings_text most (remaining b a s c))
answered (Some Asked.Board) b = replied (unsoundness b) (board_text b)
answered (Some (Asked.Stamp i)) b = replied (unsoundness b) (stamp_text i b)

-- the recording is whole: only then is the question answered
unfoldable pub whole? : Ending → Bool
whole? NotYet = false
whole? AtEnd = true
whole? (In15 k) = false
whole? (In16 k) = false
whole? AtLast = true
whole? PastLast = false

-- "A recording that ends in 15 or 16 is not answered: a message on standard error names the event"; nor is one of more events than may be
unfoldable pub end_text : ℕ → Ending → List ℕ
end_text event NotYet = []
end_text event AtEnd = []
end_text event (In15 k) = halt_text event k 15
end_text event (In16 k) = halt_text event k 16
end_text event AtLast = []
end_text event PastLast = ascii "ask: the recording has more than 1000000000 events: not answered\n"

-- WHAT `ask` WRITES: "reads event records from standard input as `plan` does, in silence", and then answers about the board as it stands
unfoldable pub asked_output : Option Question → List ℕ → Output
asked_output q bytes =
    let s = story bytes in
    record { out = cond (whole? s.end) (answered q s.state.board) []; err = end_text (suc (length s.events)) s.end }
