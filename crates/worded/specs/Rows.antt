-- Lines with the id and the answer in words, as code puts them: code-level definitions; no promise of a public call cites them. Assumes nothing.
use Rattle.std.specs.Prelude.{ℕ, zero, suc, List, [], ◌∷◌, ◌++◌, map, get_or, take, drop, Option, Some, None, Ok, Err}
use Rattle.text.specs.Text.{decimal, line_text}
use Rattle.answer_words.specs.AnswerWords.{answer_words}
use Rattle.events.specs.Records.{Reading, id_of, read_from}
use Rattle.worded.specs.Worded.{id_text}

-- a line of six numbers, with an id and the answer in words
unfoldable pub worded_row : List ℕ → ℕ → Option ℕ → List ℕ
worded_row row answer id = line_text (map decimal row ++ (id_text id ∷ decimal answer ∷ answer_words answer ∷ []))

-- the id that a record names and its size; none where there is no whole one
unfoldable pub id_read : Reading → Option ℕ
id_read (Ok None) = None
id_read (Ok (Some (v, n))) = id_of v
id_read (Err e) = None

unfoldable pub size_read : Reading → ℕ
size_read (Ok None) = 0
size_read (Ok (Some (v, n))) = n
size_read (Err e) = 0

-- lines of six numbers each, one behind the other, and the bytes of their events
unfoldable pub worded_rows : ℕ → List ℕ → List ℕ → List ℕ
worded_rows zero numbers bytes = []
worded_rows (suc count) numbers bytes =
    worded_row (take 6 numbers) (get_or numbers 2 0) (id_read (read_from bytes)) ++ worded_rows count (drop 6 numbers) (drop (size_read (read_from bytes)) bytes)
