-- The words of a text and the numbers that they are, in ASCII. Assumes nothing.
use Rattle.std.specs.Prelude.{ℕ, ◌+◌, Bool, true, false, cond, not, ◌&&◌, ◌||◌, List, [], ◌∷◌, ◌++◌, leb, eqb, get_or}
use Rattle.lists.specs.Lists.{all?}
use Rattle.text.specs.Text.{value}
use Rattle.tokens.specs.declared.Sort.{Sort}
use Rattle.tokens.specs.declared.Sort.TheVariants.{Blank, Solid, Hash, Newline}

-- "words parted by spaces or tabs"
abbrev pub blank : ℕ → Bool
blank b = eqb b 32 || eqb b 9

-- what a search stops at: a blank; a byte that is none; "a # begins a comment"; the end of a line
unfoldable pub stops_at : Sort → ℕ → Bool
stops_at Blank b = blank b
stops_at Solid b = not (blank b)
stops_at Hash b = eqb b 35
stops_at Newline b = eqb b 10

-- a word that has ended before some others; a word has a byte
unfoldable pub ended : List ℕ → List (List ℕ) → List (List ℕ)
ended [] ws = ws
ended (b ∷ bs) ws = (b ∷ bs) ∷ ws

-- the words of a text behind the bytes of one that has begun
unfoldable pub words_on : List ℕ → List ℕ → List (List ℕ)
words_on begun [] = ended begun []
words_on begun (b ∷ bs) = cond (blank b) (ended begun (words_on [] bs)) (words_on (begun ++ (b ∷ [])) bs)

-- THE WORDS of a text
unfoldable pub words : List ℕ → List (List ℕ)
words text = words_on [] text

-- the first word, and those behind it; no bytes and no words where there is none
unfoldable pub first_word : List (List ℕ) → List ℕ
first_word [] = []
first_word (w ∷ ws) = w

unfoldable pub other_words : List (List ℕ) → List (List ℕ)
other_words [] = []
other_words (w ∷ ws) = ws

-- the same bytes
unfoldable pub same : List ℕ → List ℕ → Bool
same [] [] = true
same [] (y ∷ ys) = false
same (x ∷ xs) [] = false
same (x ∷ xs) (y ∷ ys) = eqb x y && same xs ys

-- a digit of ASCII
abbrev pub digit : ℕ → Bool
digit b = leb 48 b && leb b 57

unfoldable pub empty : List ℕ → Bool
empty [] = true
empty (b ∷ bs) = false

-- "Numbers are decimal and must fit the record's field": digits, one or more, whose value is at most so large
unfoldable pub fits : ℕ → List ℕ → Bool
fits most word = not (empty word) && (all? digit word && leb (value 0 word) most)

-- the word that is wrong where there has to be a number for each limit, counted from n; 0 where all are right.
-- A word that is missing and a word too many are wrong too
unfoldable pub wrong : ℕ → List ℕ → List (List ℕ) → ℕ
wrong n [] [] = 0
wrong n [] (w ∷ ws) = n
wrong n (m ∷ ms) [] = n
wrong n (m ∷ ms) (w ∷ ws) = cond (fits m w) (wrong (n + 1) ms ws) n

-- the number that a word is, by its place from 0
unfoldable pub nth : ℕ → List (List ℕ) → ℕ
nth i ws = value 0 (get_or ws i [])
