-- The functions on lists that the book is written with. They say nothing of boards. Assumes nothing.
use Rattle.std.specs.Prelude.{ℕ, zero, suc, ◌+◌, max, Bool, true, false, cond, ◌&&◌, ◌||◌, ltb, eqb, length, drop}
use mathlib.Core.List.{List, [], ◌∷◌, ◌++◌, Memᴰ}
use Rattle.std.proofs.Math.Option.{Option, none, some}

-- a stands in the list xs
abbrev pub ◌∈◌ : {A : Type 0} → A → List A → Type 0
◌∈◌ a xs = Memᴰ a xs

infix 20 ◌∈◌
module _ {A : Type 0} where
  -- the elements that pass a test, in order
  unfoldable pub keep : (A → Bool) → List A → List A
  keep p [] = []
  keep p (x ∷ xs) = cond (p x) (x ∷ keep p xs) (keep p xs)

  -- some element passes
  unfoldable pub some? : (A → Bool) → List A → Bool
  some? p [] = false
  some? p (x ∷ xs) = p x || some? p xs

  -- every element passes
  unfoldable pub all? : (A → Bool) → List A → Bool
  all? p [] = true
  all? p (x ∷ xs) = p x && all? p xs

  -- every two elements pass, the earlier one first
  unfoldable pub pairwise? : (A → A → Bool) → List A → Bool
  pairwise? p [] = true
  pairwise? p (x ∷ xs) = all? (p x) xs && pairwise? p xs

  -- the first element, if there is one
  unfoldable pub head? : List A → Option A
  head? [] = none
  head? (x ∷ xs) = some x

  -- the first answer, and the second where it is none
  unfoldable pub or_else : Option A → Option A → Option A
  or_else none r = r
  or_else (some a) r = some a

  -- the last element, and d where there is none
  unfoldable pub last_or : A → List A → A
  last_or d [] = d
  last_or d (x ∷ xs) = last_or x xs

  -- where the first element that passes stands, counted from 0; the length where none does
  unfoldable pub index_of : (A → Bool) → List A → ℕ
  index_of p [] = 0
  index_of p (x ∷ xs) = cond (p x) 0 (index_of p xs + 1)

  -- x in the place of the first element that passes; everything else stays
  unfoldable pub put_first : (A → Bool) → A → List A → List A
  put_first p x [] = []
  put_first p x (y ∷ ys) = cond (p y) (x ∷ ys) (y ∷ put_first p x ys)

  -- xs written over the front of a buffer; what lies beyond stays
  abbrev pub over_front : List A → List A → List A
  over_front xs buffer = xs ++ drop (length xs) buffer

  -- x before the first element that it goes before
  unfoldable pub insert_by : (A → A → Bool) → A → List A → List A
  insert_by before x [] = x ∷ []
  insert_by before x (y ∷ ys) = cond (before x y) (x ∷ y ∷ ys) (y ∷ insert_by before x ys)

  -- in the order of a comparison
  unfoldable pub sort_by : (A → A → Bool) → List A → List A
  sort_by before [] = []
  sort_by before (x ∷ xs) = insert_by before x (sort_by before xs)

module _ {A B : Type 0} where
  -- f of each element, one list after the other
  unfoldable pub each : List A → (A → List B) → List B
  each [] f = []
  each (x ∷ xs) f = f x ++ each xs f

  -- the answer at the first element that has one
  unfoldable pub first_answer : (A → Option B) → List A → Option B
  first_answer f [] = none
  first_answer f (x ∷ xs) = or_else (f x) (first_answer f xs)

-- no number: past every key and every time that counts
abbrev pub never : ℕ
never = 4294967295

-- a, a + 1, and so on: n numbers
unfoldable pub range : ℕ → ℕ → List ℕ
range a zero = []
range a (suc n) = a ∷ range (suc a) n

-- the largest of a number and a list
unfoldable pub highest : ℕ → List ℕ → ℕ
highest n [] = n
highest n (x ∷ xs) = max x (highest n xs)

-- n into a rising list, unless it stands there
unfoldable pub add_to : ℕ → List ℕ → List ℕ
add_to n [] = n ∷ []
add_to n (x ∷ xs) = cond (ltb n x) (n ∷ x ∷ xs) (cond (eqb n x) (x ∷ xs) (x ∷ add_to n xs))

-- the numbers of a list, each once, rising
unfoldable pub rising : List ℕ → List ℕ
rising [] = []
rising (x ∷ xs) = add_to x (rising xs)
