-- A SHEET OF FIGURES: the text that `summary` prints of them, and figures of two sheets added. Assumes nothing.
use Rattle.std.specs.Prelude.{ℕ, ◌+◌, ◌*◌, ◌/◌, ◌%◌, Bool, List, [], ◌∷◌, ◌++◌, map, take, drop, nat_lt, slice_index, slice_index_or}
use Rattle.lists.specs.Lists.{all?, each, range}
use Rattle.text.specs.Text.{ascii, decimal, line_text}

-- document 02, Q-1: "for each planner and laxity class", in order
abbrev pub planner_names : List (List ℕ)
planner_names = ascii "reference" ∷ ascii "horizon" ∷ ascii "stuffing" ∷ ascii "full" ∷ []

abbrev pub class_names : List (List ℕ)
class_names = ascii "A" ∷ ascii "B" ∷ ascii "C" ∷ ascii "Other" ∷ []

-- the numbers of a sheet: five for each planner and class, "tasks submitted, taken, rejected and refused, and the exact sum of
-- ticks waited", one row behind the other; those refused without class; events; files
abbrev pub rows : ℕ
rows = 16

abbrev pub sheet_size : ℕ
sheet_size = 83

-- a row; "Ratios are printed as two whole numbers, never rounded"
unfoldable pub row_line : List ℕ → List ℕ → List ℕ → List ℕ
row_line planner class ns =
    line_text (planner ∷ class ∷ (map decimal ns ++ ((decimal (slice_index ns 1) ++ (47 ∷ decimal (slice_index ns 0))) ∷ [])))

-- row r of a sheet
unfoldable pub row_in : List ℕ → ℕ → List ℕ
row_in ns r = row_line (slice_index_or planner_names (r / 4) []) (slice_index_or class_names (r % 4) []) (take 5 (drop (r * 5) ns))

abbrev pub header_text : List ℕ
header_text = ascii "planner class submitted taken rejected refused waited taken/submitted\n"

-- "one refused line without class", and the begin of the last line
unfoldable pub foot_text : List ℕ → List ℕ
foot_text ns =
    ascii "refused without class " ++ (decimal (slice_index ns 80) ++ (ascii "\nevents " ++ (decimal (slice_index ns 81) ++ (ascii " files " ++ (decimal (slice_index ns 82) ++ ascii " stop ")))))

-- THE TEXT OF A SHEET, up to the words that say where the summary stopped
unfoldable pub sheet_text : List ℕ → List ℕ
sheet_text ns = header_text ++ (each (range 0 rows) (row_in ns) ++ foot_text ns)

-- the figures of two sheets, added one by one
unfoldable pub plus : List ℕ → List ℕ → List ℕ
plus [] ys = []
plus (x ∷ xs) [] = []
plus (x ∷ xs) (y ∷ ys) = (x + y) ∷ plus xs ys

-- figures are kept in 64 bits
abbrev pub wrapped : List ℕ → List ℕ
wrapped ns = map (λ n. n % 18446744073709551616) ns

unfoldable pub fits? : List ℕ → Bool
fits? ns = all? (λ n. nat_lt n 18446744073709551616) ns
