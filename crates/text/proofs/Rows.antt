-- Rows of words: the words of a row, and the text of one row more. Assumes nothing.
use Prim.Native.Nat.{ℕ, zero, suc, ◌+◌, ◌-◌, ◌*◌, ◌≤◌, ◌<◌}
use mathlib.Core.Path.{◌≡◌, refl, sym, ap, subst, ◌∙◌}
use mathlib.Core.List.{List, [], ◌∷◌, ◌++◌, map, map-append, append-nil, append_assoc}
use native.Mathlib.Nat.{zero-add, zero-mul, suc-mul}
use native.Mathlib.Numerals.{add-one}
use native.Mathlib.Omega.{arith}
use lib.ListN.{length, take, drop, get_or}
use lib.Seq.{sets-eq, take-suc, take_all, drop-drop}
use Rattle.lists.specs.Lists.{each, over_front}
use Rattle.text.specs.Text.{decimal, line_text, row_text, rows_text, rows_of}
use Rattle.text.specs.Digits.{spaced, Put}
use Rattle.text.proofs.Spelling.{put_both}

-- one number more with a space behind it
spaced-more : (xs : List ℕ) (x : ℕ) → spaced (xs ++ (x ∷ [])) ≡ spaced xs ++ (decimal x ++ (32 ∷ []))
unfolding spaced each
spaced-more [] x = append-nil (decimal x ++ (32 ∷ []))
spaced-more (y ∷ ys) x = ap (λ t. (decimal y ++ (32 ∷ [])) ++ t) (spaced-more ys x) ∙ sym (append_assoc (decimal y ++ (32 ∷ [])) (spaced ys) (decimal x ++ (32 ∷ [])))

-- a word in front of others
line_before : (v : List ℕ) (ns w : List ℕ) (ws : List (List ℕ)) → line_text (v ∷ (map decimal ns ++ (w ∷ ws))) ≡ v ++ (32 ∷ line_text (map decimal ns ++ (w ∷ ws)))
unfolding line_text
line_before v [] w ws = refl
line_before v (n ∷ ns) w ws = refl

-- A LINE THAT BEGINS WITH NUMBERS
line-spaced : (ns w : List ℕ) (ws : List (List ℕ)) → line_text (map decimal ns ++ (w ∷ ws)) ≡ spaced ns ++ line_text (w ∷ ws)
unfolding spaced each
line-spaced [] w ws = refl
line-spaced (n ∷ ns) w ws =
    line_before (decimal n) ns w ws ∙ ap (λ t. decimal n ++ (32 ∷ t)) (line-spaced ns w ws)
    ∙ sym (ap (λ t. t ++ line_text (w ∷ ws)) (append_assoc (decimal n) (32 ∷ []) (spaced ns)) ∙ append_assoc (decimal n) (32 ∷ spaced ns) (line_text (w ∷ ws)))

pub line-rest : {l m k : List ℕ} {at p q : ℕ} (ns w : List ℕ) (ws : List (List ℕ)) → Put l at (spaced ns) m p → Put m p (line_text (w ∷ ws)) k q
    → Put l at (line_text (map decimal ns ++ (w ∷ ws))) k q
line-rest ns w ws a b = rw (line-spaced ns w ws) (put_both a b)

-- a row by its last number
row_last : (xs : List ℕ) (x : ℕ) → row_text (xs ++ (x ∷ [])) ≡ spaced xs ++ (decimal x ++ (10 ∷ []))
unfolding row_text line_text
row_last xs x = ap line_text (map-append decimal xs (x ∷ [])) ∙ line-spaced xs (decimal x) []

-- WORDS: none yet, one more, the last of a row
pub words-none : (l words : List ℕ) (at : ℕ) → Put l at (spaced (take 0 words)) l at
unfolding spaced each
words-none l words at = record { stored = refl; place = (let z : at ≡ at + 0 = omega arith in z) }

pub words_more : {l m n : List ℕ} {at p q v : ℕ} (words : List ℕ) (i : ℕ) → i < length words → v ≡ get_or words i 0
    → Put l at (spaced (take i words)) m p → Put m p (decimal v ++ (32 ∷ [])) n q → Put l at (spaced (take (i + 1) words)) n q
words_more words i h e a b = rw (add-one i, take-suc words i 0 h, spaced-more, ← e) (put_both a b)

pub words-all : {l m : List ℕ} {at p i : ℕ} (words : List ℕ) → length words ≤ i → Put l at (spaced (take i words)) m p → Put l at (spaced words) m p
words-all {l} {m} {at} {p} {i} words h a = subst (λ ns. Put l at (spaced ns) m p) (take_all i words h) a

pub words_last : {l m n : List ℕ} {at p q v : ℕ} (words : List ℕ) → 0 < length words → v ≡ get_or words (length words - 1) 0
    → Put l at (spaced (take (length words - 1) words)) m p → Put m p (decimal v ++ (10 ∷ [])) n q → Put l at (row_text words) n q
words_last {l} {m} {n} {at} {p} {q} words h e a b =
    let last : suc (length words - 1) ≡ length words = omega arith in
    let all : words ≡ take (length words - 1) words ++ (get_or words (length words - 1) 0 ∷ []) =
    sym (take_all (length words) words (omega arith)) ∙ ap (λ k. take k words) (sym last) ∙ take-suc words (length words - 1) 0 (omega arith) in
    subst (λ ns. Put l at (row_text ns) n q) (sym all) (rw row_last (put_both a (rw e at b)))

-- no row yet
pub rows_none : (n : ℕ) (l words : List ℕ) → Put l 0 (rows_text (rows_of n 0 words)) l 0
unfolding rows_text rows_of each
rows_none n l words = record { stored = refl; place = refl }

text-more : (n i : ℕ) (words : List ℕ) → rows_text (rows_of n (suc i) words) ≡ rows_text (rows_of n i words) ++ row_text (take n (drop (i * n) words))
unfolding rows_text rows_of each
text-more n zero words = rw zero-mul (append-nil (row_text (take n words)))
text-more n (suc i) words =
    let next : n + i * n ≡ suc i * n = omega (arith, suc-mul i n) in
    let left : drop (i * n) (drop n words) ≡ drop (suc i * n) words = drop-drop (i * n) n words ∙ ap (λ j. drop j words) next in
    ap (λ t. row_text (take n words) ++ t) (text-more n i (drop n words) ∙ ap (λ w. rows_text (rows_of n i (drop n words)) ++ row_text (take n w)) left)
    ∙ sym (append_assoc (row_text (take n words)) (rows_text (rows_of n i (drop n words))) (row_text (take n (drop (suc i * n) words))))

-- ONE ROW MORE
pub rows_more : {l m k : List ℕ} {p q : ℕ} (n i : ℕ) (words : List ℕ) → Put l 0 (rows_text (rows_of n i words)) m p → Put m p (row_text (take n (drop (i * n) words))) k q
    → Put l 0 (rows_text (rows_of n (i + 1) words)) k q
rows_more n i words a b =
    let next : i + 1 ≡ suc i = omega arith in
    rw (next, text-more n i words) (put_both a b)

-- rows at the front of a buffer
pub rows-front : {l m : List ℕ} {p : ℕ} (xs : List ℕ) → Put l 0 xs m p → p ≤ length l → m ≡ over_front xs l
rows-front {l} xs a h =
    let fits : 0 + length xs ≤ length l = omega (arith, a.place) in
    a.stored ∙ sets-eq xs l 0 fits ∙ ap (λ k. xs ++ drop k l) (zero-add (length xs))
