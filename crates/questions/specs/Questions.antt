-- What the program `ask` is asked, by the words of its arguments. Assumes nothing.
use Rattle.std.specs.Prelude.{ℕ, cond, Option, Some, None, List, [], ◌∷◌, eqb}
use Rattle.tasks.specs.declared.Submission.{Submission}
use Rattle.text.specs.Text.{ascii}
use Rattle.tokens.specs.Tokens.{words, first_word, other_words, same, wrong, nth}
use Rattle.questions.specs.declared.Question.{Question}
use Rattle.questions.specs.declared.Question.TheVariants.{Horizon, Busy, Openings, Board, Stamp}

-- what comes of words that are numbers within these limits, and no more of them; and of others
unfoldable pub right_or : {A : Type 0} → List ℕ → List (List ℕ) → A → A → A
right_or mosts ws right other = cond (eqb (wrong 1 mosts ws) 0) right other

-- "openings W H E D [START COLUMN [MOST]]": the task whose openings are asked for; its id is not read, so 0
unfoldable pub task_of : List (List ℕ) → Submission
task_of ws = record { id = 0; e = nth 2 ws; d = nth 3 ws; w = nth 0 ws; h = nth 1 ws }

-- "strictly after the pair (default 0 0), at most MOST (default 1,000)"
unfoldable pub openings_asked : List (List ℕ) → Option Question
openings_asked ws =
    right_or (65535 ∷ 65535 ∷ 4294967295 ∷ 4294967295 ∷ []) ws (Some (Openings (task_of ws) 0 0 1000))
    (right_or (65535 ∷ 65535 ∷ 4294967295 ∷ 4294967295 ∷ 4294967295 ∷ 65535 ∷ []) ws (Some (Openings (task_of ws) (nth 4 ws) (nth 5 ws) 1000))
    (right_or (65535 ∷ 65535 ∷ 4294967295 ∷ 4294967295 ∷ 4294967295 ∷ 65535 ∷ 4294967295 ∷ []) ws (Some (Openings (task_of ws) (nth 4 ws) (nth 5 ws) (nth 6 ws))) None))

-- a question by its first word and those behind it; none where it is wrong
unfoldable pub asked_by : List ℕ → List (List ℕ) → Option Question
asked_by name ws =
    cond (same name (ascii "horizon")) (right_or [] ws (Some Horizon) None)
    (cond (same name (ascii "busy")) (right_or (4294967295 ∷ []) ws (Some (Busy (nth 0 ws))) None)
    (cond (same name (ascii "openings")) (openings_asked ws)
    (cond (same name (ascii "board")) (right_or [] ws (Some Board) None)
    (cond (same name (ascii "stamp")) (right_or (4294967295 ∷ []) ws (Some (Stamp (nth 0 ws))) None) None))))

-- WHAT IS ASKED, where it is a question
unfoldable pub asks : List ℕ → Option Question
asks text = asked_by (first_word (words text)) (other_words (words text))
