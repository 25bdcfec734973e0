-- Text in ASCII: a quoted text, a number, a row of numbers, rows. Assumes nothing.
use Rattle.std.specs.Prelude.{ℕ, zero, suc, ◌+◌, ◌-◌, ◌*◌, ◌/◌, ◌%◌, cond, List, [], ◌∷◌, ◌++◌, map, ltb, take, drop}
use Prim.Native.Char.{code}
use Prim.Native.String.{String, len, char_at}
use Rattle.lists.specs.Lists.{each}

-- n characters of a quoted text from a place on, each by its code
abbrev pub codes : ℕ → ℕ → String → List ℕ
codes zero at s = []
codes (suc n) at s = code (char_at s at) ∷ codes n (suc at) s

-- the bytes of a quoted text, which is ASCII
abbrev pub ascii : String → List ℕ
ascii s = codes (len s) 0 s

-- the digits of a number below 10 are one, of another those of its tenth and its last one; at most so many of them
unfoldable pub decimal_in : ℕ → ℕ → List ℕ
decimal_in zero x = []
decimal_in (suc most) x = cond (ltb x 10) ((48 + x) ∷ []) (decimal_in most (x / 10) ++ ((48 + x % 10) ∷ []))

-- the decimal digits of a number, the most significant first: a number has no more digits than itself and one
unfoldable pub decimal : ℕ → List ℕ
decimal x = decimal_in (suc x) x

-- the value of digits that are read from the left, behind those of a value
unfoldable pub value : ℕ → List ℕ → ℕ
value v [] = v
value v (d ∷ ds) = value (v * 10 + (d - 48)) ds

-- the words of a line, parted by one space (32) and ended by a newline (10)
unfoldable pub line_text : List (List ℕ) → List ℕ
line_text [] = 10 ∷ []
line_text (w ∷ []) = w ++ (10 ∷ [])
line_text (w ∷ v ∷ ws) = w ++ (32 ∷ line_text (v ∷ ws))

-- "a line each", as 01 prints the listing: a row of numbers
unfoldable pub row_text : List ℕ → List ℕ
row_text ns = line_text (map decimal ns)

-- rows, one behind the other
unfoldable pub rows_text : List (List ℕ) → List ℕ
rows_text rows = each rows row_text

-- the first rows of n words each, so many of them
unfoldable pub rows_of : ℕ → ℕ → List ℕ → List (List ℕ)
rows_of n zero words = []
rows_of n (suc count) words = take n words ∷ rows_of n count (drop n words)
