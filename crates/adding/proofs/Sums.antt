-- Sheets added to figures: their length, one sheet more, and what adds up. Assumes nothing.
use Prim.Native.Nat.{ℕ, zero, suc, ◌+◌, ◌≤◌, ◌<◌}
use mathlib.Core.Path.{◌≡◌, refl, sym, ap, ◌∙◌}
use mathlib.Core.Bool.{Bool, true, false, cond, ◌&&◌}
use mathlib.Core.List.{List, [], ◌∷◌, ◌++◌}
use native.Mathlib.Omega.{arith}
use borrow.Author.Tests.{eqb-true, eqb-false, eq-eqb}
use lib.Dec.{eqb, ltb}
use lib.ListN.{length, set, length-set}
use Rattle.tokens.specs.Tokens.{same}
use Rattle.sheets.specs.Sheets.{plus, fits?}
use Rattle.sheets.proofs.Laws.{length-plus, fits-part}
use Rattle.adding.specs.Adding.{Good, AllGood, sum_of, no_figures}
use Rattle.adding.specs.declared.Reading.{Reading}
use Rattle.adding.specs.declared.Reading.TheVariants.{Between}
use Rattle.adding.specs.Machine.{ends_number, value_of, read, figures_on, figures_in, adds_up, bad_row}

-- the same bytes are the same text
pub same-is : (xs ys : List ℕ) → same xs ys ≡ true → xs ≡ ys
unfolding same
same-is [] [] e = refl
same-is [] (y ∷ ys) e = absurd (let z : ◌≡◌ {A = ℕ} 0 1 = cc in omega arith)
same-is (x ∷ xs) [] e = absurd (let z : ◌≡◌ {A = ℕ} 0 1 = cc in omega arith)
same-is (x ∷ xs) (y ∷ ys) e = go (λ k. same-is xs ys k) (eqb x y) refl e
  where
    go : (same xs ys ≡ true → xs ≡ ys) → (t : Bool) → eqb x y ≡ t → (t && same xs ys) ≡ true → x ∷ xs ≡ y ∷ ys
    go rest true k r = let h : x ≡ y = eqb-true x y k in let t = rest r in cc
    go rest false k r = absurd (let z : ◌≡◌ {A = ℕ} 0 1 = cc in omega arith)

pub is_same : (xs : List ℕ) → same xs xs ≡ true
unfolding same
is_same [] = refl
is_same (x ∷ xs) = rw (eq-eqb x x refl) (is_same xs)

-- as many figures are read as a sheet has
figures-on : (figures : List ℕ) (n : ℕ) (r : Reading) (text : List ℕ) → length (figures_on figures n r text) ≡ length figures
unfolding figures_on
figures-on figures n r [] = refl
figures-on figures n r (b ∷ bs) =
    go (ends_number r b && ltb n 83) (figures-on (set figures n (value_of r)) (n + 1) (read r b) bs) (figures-on figures n (read r b) bs)
  where
    go : (t : Bool) → length (figures_on (set figures n (value_of r)) (n + 1) (read r b) bs) ≡ length (set figures n (value_of r))
        → length (figures_on figures n (read r b) bs) ≡ length figures
        → length (cond t (figures_on (set figures n (value_of r)) (n + 1) (read r b) bs) (figures_on figures n (read r b) bs)) ≡ length figures
    go true h k = h ∙ length-set figures n (value_of r)
    go false h k = k

pub figures-size : (text : List ℕ) → length (figures_in text) ≡ 83
unfolding figures_in
figures-size text = figures-on no_figures 0 Between text

-- ROWS THAT ADD UP
module _ (ns : List ℕ) where
  bad-most : (r n : ℕ) → bad_row ns r n ≤ r + n
  unfolding bad_row
  bad-most r zero = omega arith
  bad-most r (suc n) = go (adds_up ns r) (bad-most (r + 1) n)
    where
      go : (t : Bool) → bad_row ns (r + 1) n ≤ r + 1 + n → cond t (bad_row ns (r + 1) n) r ≤ r + suc n
      go true h = omega arith
      go false h = omega arith

  pub rows_right : (r n : ℕ) → bad_row ns r n ≡ r + n → (k : ℕ) → r ≤ k → k < r + n → adds_up ns k ≡ true
  unfolding bad_row
  rows_right r zero e k h l = absurd (omega arith)
  rows_right r (suc n) e k h l = go (λ f. rows_right (r + 1) n f k) (adds_up ns r) refl e
    where
      go : (bad_row ns (r + 1) n ≡ r + 1 + n → r + 1 ≤ k → k < r + 1 + n → adds_up ns k ≡ true) → (t : Bool) → adds_up ns r ≡ t → cond t (bad_row ns (r + 1) n) r ≡ r + suc n
          → adds_up ns k ≡ true
      go rest true f g = at (eqb k r) refl
        where
          at : (t : Bool) → eqb k r ≡ t → adds_up ns k ≡ true
          at true p = ap (adds_up ns) (eqb-true k r p) ∙ f
          at false p =
              let after : r + 1 ≤ k = omega (arith, eqb-false k r p) in
              rest (g ∙ (let z : r + suc n ≡ r + 1 + n = omega arith in z)) after (omega arith)
      go rest false f g = absurd (omega arith)

  pub right-rows : (r n : ℕ) → ((k : ℕ) → r ≤ k → k < r + n → adds_up ns k ≡ true) → bad_row ns r n ≡ r + n
  unfolding bad_row
  right-rows r zero h = (let z : r ≡ r + 0 = omega arith in z)
  right-rows r (suc n) h = rw (h r (omega arith) (omega arith)) (right-rows (r + 1) n (λ k a b. h k (omega arith) (omega arith)) ∙ (let z : r + 1 + n ≡ r + suc n = omega arith in z))

-- SHEETS ADDED
pub sum-append : (total : List ℕ) (sheets more : List (List ℕ)) → sum_of total (sheets ++ more) ≡ sum_of (sum_of total sheets) more
unfolding sum_of
sum-append total [] more = refl
sum-append total (s ∷ sheets) more = sum-append (plus total s) sheets more

pub sum_more : (total : List ℕ) (sheets : List (List ℕ)) (ns : List ℕ) → sum_of total (sheets ++ (ns ∷ [])) ≡ plus (sum_of total sheets) ns
unfolding sum_of
sum_more total sheets ns = sum-append total sheets (ns ∷ [])

pub good-append : (sheets more : List (List ℕ)) → AllGood sheets → AllGood more → AllGood (sheets ++ more)
unfolding AllGood
good-append [] more g h = h
good-append (s ∷ sheets) more g h = (g.0, good-append sheets more g.1 h)

pub good_more : (sheets : List (List ℕ)) {ns : List ℕ} → AllGood sheets → Good ns → AllGood (sheets ++ (ns ∷ []))
unfolding AllGood
good_more sheets {ns} g h = good-append sheets (ns ∷ []) g (h, tt)

pub sum-size : (total : List ℕ) (sheets : List (List ℕ)) → length total ≡ 83 → AllGood sheets → length (sum_of total sheets) ≡ 83
unfolding sum_of AllGood
sum-size total [] e g = e
sum-size total (s ∷ sheets) e g = sum-size (plus total s) sheets (length-plus total s (e ∙ sym g.0.size) ∙ e) g.1

-- where a sum fits, so does what it began with
pub sum_fits : (total : List ℕ) (sheets : List (List ℕ)) → length total ≡ 83 → AllGood sheets → fits? (sum_of total sheets) ≡ true → fits? total ≡ true
unfolding sum_of AllGood
sum_fits total [] e g f = f
sum_fits total (s ∷ sheets) e g f =
    let same : length total ≡ length s = e ∙ sym g.0.size in
    fits-part total s same (sum_fits (plus total s) sheets (length-plus total s same ∙ e) g.1 f)
