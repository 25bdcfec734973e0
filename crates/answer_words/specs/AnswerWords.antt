-- The answer numbers of documents 01 and 02 in words. Assumes nothing.
use Rattle.std.specs.Prelude.{ℕ, List, [], ◌∷◌, get_or}
use Rattle.text.specs.Text.{ascii}

-- "Given exactly when": from 0 on, in a few words each
abbrev pub answer_texts : List (List ℕ)
answer_texts =
    ascii "done"
    ∷ ascii "the board is not sound"
    ∷ ascii "W, H or G out of range, or W no multiple of G"
    ∷ ascii "no such planner"
    ∷ ascii "the id is 0"
    ∷ ascii "w or h out of range, or w no multiple of G"
    ∷ ascii "e or d out of range"
    ∷ ascii "the id is live already"
    ∷ ascii "d is before now + e"
    ∷ ascii "64 tasks are live"
    ∷ ascii "rejected: no place"
    ∷ ascii "the instant is before now"
    ∷ ascii "the instant is over 2000000000"
    ∷ ascii "the id is not live"
    ∷ ascii "the task is running"
    ∷ ascii "the record is cut short"
    ∷ ascii "unknown kind byte"
    ∷ ascii "the buffer is too short"
    ∷ ascii "the laxity is over 10000000"
    ∷ []

-- an answer in words; none for a number that they do not give
unfoldable pub answer_words : ℕ → List ℕ
answer_words n = get_or answer_texts n []
