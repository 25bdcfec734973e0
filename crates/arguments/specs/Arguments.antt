-- Arguments as words of one text, in ASCII. Assumes nothing.
use Rattle.std.specs.Prelude.{ℕ, cond, ◌||◌, List, [], ◌∷◌, map, eqb, ltb}

-- a space (32) or a tab (9) would part an argument in two: `?` (63), which matches nothing, in its place
abbrev pub guarded : ℕ → ℕ
guarded b = cond (eqb b 32 || eqb b 9) 63 b

-- an argument as one word of the question: an empty one is `?` too
unfoldable pub argument_text : List ℕ → List ℕ
argument_text [] = 63 ∷ []
argument_text (b ∷ bs) = map guarded (b ∷ bs)

-- an argument behind those that take so many bytes: one space between two
unfoldable pub joined_text : ℕ → List ℕ → List ℕ
joined_text at bytes = cond (ltb 0 at) (32 ∷ argument_text bytes) (argument_text bytes)
