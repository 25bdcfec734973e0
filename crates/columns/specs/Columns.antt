-- Runs of adjacent columns that pass a test, and best fit among them. Assumes nothing.
use Rattle.std.specs.Prelude.{ℕ, suc, ◌+◌, ◌-◌, ◌*◌, ◌%◌, Bool, cond, ◌&&◌, ◌||◌, List, [], ◌∷◌, leb, ltb, eqb}
use Rattle.lists.specs.Lists.{keep, sort_by, range}

-- "Columns count from 1": those of a device of W columns
abbrev pub columns : ℕ → List ℕ
columns W = range 1 W

-- a run: its left edge and its number of columns
pub record Run : Type 0 where
  pub left : ℕ
  pub size : ℕ

-- one column more at the left end: it joins the run that begins next to it, or is a run by itself
unfoldable pub join : ℕ → List Run → List Run
join c [] = record { left = c; size = 1 } ∷ []
join c (r ∷ rs) =
    cond (eqb r.left (suc c)) (record { left = c; size = suc r.size } ∷ rs) (record { left = c; size = 1 } ∷ r ∷ rs)

-- "the longest runs of adjacent columns" that pass, from left to right
unfoldable pub runs : (ℕ → Bool) → List ℕ → List Run
runs passes [] = []
runs passes (c ∷ cs) = cond (passes c) (join c (runs passes cs)) (runs passes cs)

-- "Best fit means the narrowest run of at least w columns, the leftmost of equals": narrower, or as narrow and further left
unfoldable pub better : Run → Run → Bool
better r q = ltb r.size q.size || (eqb r.size q.size && ltb r.left q.left)

-- "the narrowest run of at least w columns": all of them, the best first
unfoldable pub best_fit : ℕ → List Run → List Run
best_fit w rs = sort_by better (keep (λ r. leb w r.size) rs)

-- "narrowest, the leftmost of equals" as one number, for code to weigh: the better of two runs has the lesser key
unfoldable pub key : Run → ℕ
key r = r.size * 512 + r.left

-- the left edge that a key tells
unfoldable pub left_of : ℕ → ℕ
left_of k = k % 512

-- the run of the columns from `from` up to, not including, `to`
abbrev pub up_to : ℕ → ℕ → Run
up_to from to = record { left = from; size = to - from }
