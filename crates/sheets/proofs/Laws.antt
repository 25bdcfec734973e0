-- Sheets added: how plus and its limits behave. Assumes nothing.
use Rattle.std.proofs.Common.{◌≡◌, ℕ, zero, suc, ◌+◌, ◌-◌, ◌%◌, ◌<◌, ◌≤◌, Bool, true, false, ◌&&◌, ltb, leb, List, [], ◌∷◌, ◌++◌, length, get_or, take, set, replicate, sym, refl, ap, ◌∙◌, ap₂, mod-eq_of_lt, add-one, arith, length-set, take_all, take-suc, take-suc-set, ltb-false, ltb-true, lt-ltb, le-leb}
use borrow.Author.Tests.{lt-leb}
use lib.ListN.{length-map, get_or-map}
use Rattle.lists.specs.Lists.{all?}
use Rattle.lists.proofs.Append.{all_more}
use Rattle.sheets.specs.Sheets.{plus, wrapped, fits?}

-- THE LAWS OF PLUS
pub plus_comm : (xs ys : List ℕ) → plus xs ys ≡ plus ys xs
unfolding plus
plus_comm [] [] = refl
plus_comm [] (y ∷ ys) = refl
plus_comm (x ∷ xs) [] = refl
plus_comm (x ∷ xs) (y ∷ ys) = ap₂ ◌∷◌ (let z : x + y ≡ y + x = omega arith in z) (plus_comm xs ys)

pub plus_assoc : (xs ys zs : List ℕ) → plus (plus xs ys) zs ≡ plus xs (plus ys zs)
unfolding plus
plus_assoc [] ys zs = refl
plus_assoc (x ∷ xs) [] zs = refl
plus_assoc (x ∷ xs) (y ∷ ys) [] = refl
plus_assoc (x ∷ xs) (y ∷ ys) (z ∷ zs) = ap₂ ◌∷◌ (let e : x + y + z ≡ x + (y + z) = omega arith in e) (plus_assoc xs ys zs)

pub plus-zeros : (xs : List ℕ) (n : ℕ) → length xs ≡ n → plus xs (replicate n 0) ≡ xs
unfolding plus
plus-zeros [] n e = refl
plus-zeros (x ∷ xs) zero e = absurd (omega arith)
plus-zeros (x ∷ xs) (suc n) e = ap₂ ◌∷◌ (let z : x + 0 ≡ x = omega arith in z) (plus-zeros xs n (omega arith))

pub zeros-plus : (xs : List ℕ) (n : ℕ) → length xs ≡ n → plus (replicate n 0) xs ≡ xs
zeros-plus xs n e = plus_comm (replicate n 0) xs ∙ plus-zeros xs n e

pub length-plus : (xs ys : List ℕ) → length xs ≡ length ys → length (plus xs ys) ≡ length xs
unfolding plus
length-plus [] ys e = refl
length-plus (x ∷ xs) [] e = absurd (omega arith)
length-plus (x ∷ xs) (y ∷ ys) e = ap suc (length-plus xs ys (omega arith))

-- the figures of a sum are the sums of the figures
pub get_or-plus : (xs ys : List ℕ) (i : ℕ) → length xs ≡ length ys → get_or (plus xs ys) i 0 ≡ get_or xs i 0 + get_or ys i 0
unfolding plus
get_or-plus [] [] i e = refl
get_or-plus [] (y ∷ ys) i e = absurd (omega arith)
get_or-plus (x ∷ xs) [] i e = absurd (omega arith)
get_or-plus (x ∷ xs) (y ∷ ys) zero e = refl
get_or-plus (x ∷ xs) (y ∷ ys) (suc i) e = get_or-plus xs ys i (omega arith)

-- WHAT FITS does not wrap
pub fits-wrapped : (ns : List ℕ) → fits? ns ≡ true → wrapped ns ≡ ns
unfolding fits? all?
fits-wrapped [] e = refl
fits-wrapped (n ∷ ns) e = go (λ r. fits-wrapped ns r) (ltb n 18446744073709551616) refl e
  where
    go : (fits? ns ≡ true → wrapped ns ≡ ns) → (t : Bool) → ltb n 18446744073709551616 ≡ t → (t && fits? ns) ≡ true → wrapped (n ∷ ns) ≡ n ∷ ns
    go rest true k r = ap₂ ◌∷◌ (mod-eq_of_lt (ltb-true n 18446744073709551616 k)) (rest r)
    go rest false k r = absurd (let z : ◌≡◌ {A = ℕ} 0 1 = cc in omega arith)

-- no wrap, as code tests it
pub fit-test : (x y : ℕ) → y ≤ 18446744073709551615 → leb x (18446744073709551615 - y) ≡ ltb (x + y) 18446744073709551616
fit-test x y h = go (ltb (x + y) 18446744073709551616) refl
  where
    go : (t : Bool) → ltb (x + y) 18446744073709551616 ≡ t → leb x (18446744073709551615 - y) ≡ t
    go true e = le-leb x (18446744073709551615 - y) (omega (arith, ltb-true (x + y) 18446744073709551616 e))
    go false e = lt-leb x (18446744073709551615 - y) (omega (arith, ltb-false (x + y) 18446744073709551616 e))

-- SUMS SO FAR: the first i figures, and whether they fit
pub record Added (a b : List ℕ) (i : ℕ) (figures : List ℕ) (fit : Bool) : Type 0 where
  pub size : length figures ≡ length a
  pub sums : take i figures ≡ take i (wrapped (plus a b))
  pub fits : fit ≡ fits? (take i (plus a b))

module _ (a b : List ℕ) (same : length a ≡ length b) where
  pub added_none : (figures : List ℕ) → length figures ≡ length a → Added a b 0 figures true
  unfolding fits? all?
  added_none figures e = record { size = e; sums = refl; fits = refl }

  pub added_more : {figures : List ℕ} {fit : Bool} (i : ℕ) → i < length a → Added a b i figures fit → {v : ℕ} {f : Bool}
      → v ≡ (get_or a i 0 + get_or b i 0) % 18446744073709551616 → f ≡ ltb (get_or a i 0 + get_or b i 0) 18446744073709551616
      → Added a b (i + 1) (set figures i v) (fit && f)
  unfolding fits?
  added_more {figures} {fit} i h s {v} {f} e g =
      let size : length (plus a b) ≡ length a = length-plus a b same in
      let at : get_or (plus a b) i 0 ≡ get_or a i 0 + get_or b i 0 = get_or-plus a b i same in
      let stored : v ≡ get_or (wrapped (plus a b)) i 0 = e ∙ ap (λ n. n % 18446744073709551616) (sym at) ∙ sym (get_or-map (λ n. n % 18446744073709551616) (plus a b) i 0) in
      record {
        size = length-set figures i v ∙ s.size;
        sums =
            ap (λ j. take j (set figures i v)) (add-one i) ∙ take-suc-set figures i v (omega (arith, s.size))
            ∙ ap₂ (λ (l : List ℕ) (n : ℕ). l ++ (n ∷ [])) s.sums stored
            ∙ sym (ap (λ j. take j (wrapped (plus a b))) (add-one i) ∙ take-suc (wrapped (plus a b)) i 0 (omega (arith, length-map (plus a b) (λ n. n % 18446744073709551616))));
        fits =
            ap₂ ◌&&◌ s.fits (g ∙ ap (λ n. ltb n 18446744073709551616) (sym at))
            ∙ sym (all_more (λ n. ltb n 18446744073709551616) (plus a b) i 0 (omega arith));
      }

  pub added-all : {figures : List ℕ} {fit : Bool} {i : ℕ} → i ≡ length a → Added a b i figures fit → (figures ≡ wrapped (plus a b)) × (fit ≡ fits? (plus a b))
  added-all {figures} {fit} {i} e s =
      let size : length (plus a b) ≡ length a = length-plus a b same in (
        sym (take_all i figures (omega (arith, s.size))) ∙ s.sums
            ∙ take_all i (wrapped (plus a b)) (omega (arith, length-map (plus a b) (λ n. n % 18446744073709551616))),
        s.fits ∙ ap fits? (take_all i (plus a b) (omega arith)),
      )

-- WHERE A SUM FITS, so do its parts
small-part : (x y : ℕ) → ltb (x + y) 18446744073709551616 ≡ true → ltb x 18446744073709551616 ≡ true
small-part x y e = lt-ltb x 18446744073709551616 (omega (arith, ltb-true (x + y) 18446744073709551616 e))

pub fits-part : (xs ys : List ℕ) → length xs ≡ length ys → fits? (plus xs ys) ≡ true → fits? xs ≡ true
unfolding fits? all? plus
fits-part [] ys e f = refl
fits-part (x ∷ xs) [] e f = absurd (omega arith)
fits-part (x ∷ xs) (y ∷ ys) e f = go (λ k. fits-part xs ys (omega arith) k) (ltb (x + y) 18446744073709551616) refl f
  where
    go : (fits? (plus xs ys) ≡ true → fits? xs ≡ true) → (t : Bool) → ltb (x + y) 18446744073709551616 ≡ t → (t && fits? (plus xs ys)) ≡ true
        → (ltb x 18446744073709551616 && fits? xs) ≡ true
    go rest true k r = rw (small-part x y k) (rest r)
    go rest false k r = absurd (let z : ◌≡◌ {A = ℕ} 0 1 = cc in omega arith)

pub fits-other : (xs ys : List ℕ) → length xs ≡ length ys → fits? (plus xs ys) ≡ true → fits? ys ≡ true
fits-other xs ys e f = fits-part ys xs (sym e) (ap fits? (plus_comm ys xs) ∙ f)

-- every figure that fits is below 2^64
pub fits-at : (ns : List ℕ) (i : ℕ) → fits? ns ≡ true → get_or ns i 0 < 18446744073709551616
unfolding fits? all?
fits-at [] i e = omega arith
fits-at (n ∷ ns) i e = go (λ j r. fits-at ns j r) (ltb n 18446744073709551616) refl e i
  where
    go : ((j : ℕ) → fits? ns ≡ true → get_or ns j 0 < 18446744073709551616) → (t : Bool) → ltb n 18446744073709551616 ≡ t → (t && fits? ns) ≡ true
        → (j : ℕ) → get_or (n ∷ ns) j 0 < 18446744073709551616
    go rest true k r zero = ltb-true n 18446744073709551616 k
    go rest true k r (suc j) = rest j r
    go rest false k r j = absurd (let z : ◌≡◌ {A = ℕ} 0 1 = cc in omega arith)
