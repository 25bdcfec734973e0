-- A row of a sheet as code puts it, and rows one behind the other. Assumes nothing.
use Rattle.std.proofs.Common.{◌≡◌, ℕ, ◌+◌, List, [], ◌∷◌, ◌++◌, map, get_or, sym, refl, ap, ◌∙◌, append_assoc, append-nil, arith}
use Rattle.lists.specs.Lists.{each, range}
use Rattle.lists.proofs.Append.{range-more}
use Rattle.text.specs.Text.{decimal, line_text}
use Rattle.text.specs.Digits.{spaced, Put}
use Rattle.text.proofs.Spelling.{put_both, line-end, line-more}
use Rattle.text.proofs.Rows.{line-rest}
use Rattle.sheets.specs.Sheets.{row_line, row_in}

-- a word in front of numbers and a last word
line-front : {l m n : List ℕ} {at p q : ℕ} (w ns v : List ℕ) → Put l at (w ++ (32 ∷ [])) m p → Put m p (line_text (map decimal ns ++ (v ∷ []))) n q
    → Put l at (line_text (w ∷ (map decimal ns ++ (v ∷ [])))) n q
line-front w [] v a b = line-more w v [] a b
line-front w (x ∷ ns) v a b = line-more w (decimal x) (map decimal ns ++ (v ∷ [])) a b

-- A ROW: its planner, its class, its figures, and two of them as a ratio
pub row-line : {l m n k j i : List ℕ} {at p q s t u : ℕ} (planner class ns : List ℕ) → Put l at (planner ++ (32 ∷ [])) m p → Put m p (class ++ (32 ∷ [])) n q
    → Put n q (spaced ns) k s → Put k s (decimal (get_or ns 1 0) ++ (47 ∷ [])) j t → Put j t (decimal (get_or ns 0 0) ++ (10 ∷ [])) i u
    → Put l at (row_line planner class ns) i u
unfolding row_line
row-line {k = k} {i = i} {s = s} {u = u} planner class ns a b c d e =
    let over : List ℕ = decimal (get_or ns 1 0) ++ (47 ∷ decimal (get_or ns 0 0)) in
    let ratio : Put k s (over ++ (10 ∷ [])) i u =
    rw (append_assoc (decimal (get_or ns 1 0)) (47 ∷ decimal (get_or ns 0 0)) (10 ∷ [])) (rw (append_assoc (decimal (get_or ns 1 0)) (47 ∷ [])) at (put_both d e)) in
    line-more planner class (map decimal ns ++ (over ∷ [])) a (line-front class ns over b (line-rest ns over [] c (line-end over ratio)))

pub each_append : {A : Type 0} (f : A → List ℕ) (xs ys : List A) → each (xs ++ ys) f ≡ each xs f ++ each ys f
unfolding each
each_append f [] ys = refl
each_append f (x ∷ xs) ys = ap (λ t. f x ++ t) (each_append f xs ys) ∙ sym (append_assoc (f x) (each xs f) (each ys f))

pub each_more : {A : Type 0} (f : A → List ℕ) (xs : List A) (x : A) → each (xs ++ (x ∷ [])) f ≡ each xs f ++ f x
unfolding each
each_more f xs x = each_append f xs (x ∷ []) ∙ ap (λ t. each xs f ++ t) (append-nil (f x))

-- ONE ROW MORE
pub rows_none : (ns l : List ℕ) (at : ℕ) → Put l at (each (range 0 0) (row_in ns)) l at
unfolding each range
rows_none ns l at = record { stored = refl; place = (let z : at ≡ at + 0 = omega arith in z) }

pub rows_more : {l m n : List ℕ} {at p q : ℕ} (ns : List ℕ) (r : ℕ) → Put l at (each (range 0 r) (row_in ns)) m p → Put m p (row_in ns r) n q
    → Put l at (each (range 0 (r + 1)) (row_in ns)) n q
rows_more ns r a b =
    let next : 0 + r ≡ r = omega arith in
    rw (range-more 0 r, next, each_more (row_in ns) (range 0 r) r) (put_both a b)
