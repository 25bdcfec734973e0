-- A line of a recording as text, with the id of its event and the answer in words. Assumes nothing.
use Rattle.std.specs.Prelude.{ℕ, List, [], ◌∷◌, ◌++◌, map, Option, Some, None}
use Rattle.text.specs.Text.{ascii, decimal, line_text}
use Rattle.answer_words.specs.AnswerWords.{answer_words}
use Rattle.session.specs.Recording.{Line}

-- "event number from 1, kind, answer, column, start, finish"
abbrev pub row_of : Line → List ℕ
row_of l = l.event ∷ l.kind ∷ l.answer ∷ l.column ∷ l.start ∷ l.finish ∷ []

-- the id that an event names, - where it names none
unfoldable pub id_text : Option ℕ → List ℕ
id_text None = ascii "-"
id_text (Some n) = decimal n

-- a line with the id and the answer in words, as in `3 no such planner`
unfoldable pub worded_text : Line → List ℕ
worded_text l = line_text (map decimal (row_of l) ++ (id_text l.id ∷ decimal l.answer ∷ answer_words l.answer ∷ []))
