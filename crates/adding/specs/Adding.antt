-- WHAT `summary --add` ADDS: whole summaries, one behind another, and their sum. Assumes nothing.
use Rattle.std.specs.Prelude.{ℕ, ◌+◌, ◌*◌, ◌<◌, ◌≡◌, true, List, [], ◌∷◌, ◌++◌, length, get_or, replicate}
use Rattle.lists.specs.Lists.{each}
use Rattle.text.specs.Text.{ascii}
use Rattle.sheets.specs.Sheets.{sheet_text, plus, fits?}

-- the text of a whole summary: it stopped at the end
unfoldable pub whole_text : List ℕ → List ℕ
whole_text ns = sheet_text ns ++ ascii "end\n"

-- a sheet as a summary has it: 83 figures of 64 bits, and in each row every task submitted was taken, rejected or refused
pub record Good (ns : List ℕ) : Type 0 where
  pub size : length ns ≡ 83
  pub small : fits? ns ≡ true
  pub told : (r : ℕ) → r < 16 → get_or ns (r * 5) 0 ≡ get_or ns (r * 5 + 1) 0 + get_or ns (r * 5 + 2) 0 + get_or ns (r * 5 + 3) 0

unfoldable pub AllGood : List (List ℕ) → Type 0
AllGood [] = Unit {0}
AllGood (ns ∷ sheets) = Good ns × AllGood sheets

-- A TEXT HOLDS SHEETS: it is the texts of whole summaries, one or more
pub record Holds (text : List ℕ) (sheets : List (List ℕ)) : Type 0 where
  pub some : 0 < length sheets
  pub good : AllGood sheets
  pub whole : text ≡ each sheets whole_text

-- texts, one after the other, hold sheets
pub data TextsHold : List (List ℕ) → List (List ℕ) → Type 0 where
  no_text : TextsHold [] []
  next-text : {t : List ℕ} {ts sheets more : List (List ℕ)} → Holds t sheets → TextsHold ts more → TextsHold (t ∷ ts) (sheets ++ more)

-- sheets added to figures
unfoldable pub sum_of : List ℕ → List (List ℕ) → List ℕ
sum_of total [] = total
sum_of total (ns ∷ sheets) = sum_of (plus total ns) sheets

-- no figure yet
abbrev pub no_figures : List ℕ
no_figures = replicate 83 0

-- THE SUM of sheets; it is printed where every figure of it fits 64 bits
abbrev pub total : List (List ℕ) → List ℕ
total sheets = sum_of no_figures sheets
