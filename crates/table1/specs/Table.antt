-- Table 1 of source document 003, as document 01 writes it: "(a, e, d, w, h)". Assumes nothing.
use Rattle.std.specs.Prelude.{ℕ, List, [], ◌∷◌}

-- "kept as a constant table of seven tasks"
abbrev pub table1 : List (List ℕ)
table1 =
    (0 ∷ 20 ∷ 30 ∷ 3 ∷ 3 ∷ [])
    ∷ (0 ∷ 3 ∷ 10 ∷ 7 ∷ 5 ∷ [])
    ∷ (1 ∷ 12 ∷ 15 ∷ 3 ∷ 5 ∷ [])
    ∷ (1 ∷ 3 ∷ 10 ∷ 2 ∷ 2 ∷ [])
    ∷ (2 ∷ 2 ∷ 10 ∷ 3 ∷ 4 ∷ [])
    ∷ (2 ∷ 3 ∷ 20 ∷ 5 ∷ 1 ∷ [])
    ∷ (3 ∷ 2 ∷ 20 ∷ 3 ∷ 2 ∷ [])
    ∷ []
