-- A word as a number, digit by digit: the rest decides, behind the value so far. And a number's decimal text reads as that number. Assumes nothing.
use Prim.Native.Nat.{ℕ, ◌+◌, ◌-◌, ◌*◌, ◌/◌, ◌%◌, ◌≤◌, ◌<◌}
use mathlib.Core.Path.{◌≡◌, refl, sym, ap, ◌∙◌}
use Rattle.std.proofs.Common.{Option, Some, None}
use mathlib.Core.Bool.{Bool, true, false, cond, ◌&&◌}
use mathlib.Core.List.{List, [], ◌∷◌, ◌++◌}
use native.Mathlib.Omega.{arith}
use native.Mathlib.Numerals.{add-one}
use borrow.Author.Tests.{leb-true, eqb-true, ne_eqb, le-leb, lt-leb}
use lib.Dec.{eqb, leb, ltb}
use lib.ListN.{length, drop, get_or, length-append, drop_of_length-le}
use lib.Seq.{drop-cons}
use Rattle.lists.specs.Lists.{all?}
use Rattle.text.specs.Text.{value, decimal_in, decimal}
use Rattle.text.proofs.Meaning.{Digits, decimal-value, decimal-digits}
use Rattle.tokens.specs.Tokens.{digit, empty, fits}

-- digits behind a value that together are at most so large
unfoldable pub judged : ℕ → ℕ → List ℕ → Bool
judged most v ds = all? digit ds && leb (value v ds) most

pub fits-none : (most : ℕ) (w : List ℕ) → eqb (length w) 0 ≡ true → fits most w ≡ false
unfolding fits empty
fits-none most [] e = refl
fits-none most (b ∷ bs) e = absurd (omega (arith, eqb-true (length (b ∷ bs)) 0 e))

pub fits-some : (most : ℕ) (w : List ℕ) → eqb (length w) 0 ≡ false → fits most w ≡ judged most 0 w
unfolding fits empty judged
fits-some most [] e = absurd (let z : ◌≡◌ {A = ℕ} 0 1 = cc in omega arith)
fits-some most (b ∷ bs) e = refl

module _ (most v : ℕ) (w : List ℕ) (i : ℕ) (h : i < length w) where
  first : judged most v (drop i w) ≡ judged most v (get_or w i 0 ∷ drop (i + 1) w)
  first = rw (add-one i, drop-cons w i 0 h)

  -- ONE DIGIT MORE
  pub judged-digit : digit (get_or w i 0) ≡ true → judged most v (drop i w) ≡ judged most (v * 10 + (get_or w i 0 - 48)) (drop (i + 1) w)
  unfolding judged all? value
  judged-digit e = first ∙ ap (λ t. (t && all? digit (drop (i + 1) w)) && leb (value (v * 10 + (get_or w i 0 - 48)) (drop (i + 1) w)) most) e

  -- a byte that is none
  pub judged-other : digit (get_or w i 0) ≡ false → judged most v (drop i w) ≡ false
  unfolding judged all? value
  judged-other e = first ∙ ap (λ t. (t && all? digit (drop (i + 1) w)) && leb (value (v * 10 + (get_or w i 0 - 48)) (drop (i + 1) w)) most) e

  pub value-digit : value v (drop i w) ≡ value (v * 10 + (get_or w i 0 - 48)) (drop (i + 1) w)
  unfolding value
  value-digit = rw (add-one i, drop-cons w i 0 h)

grows : (v : ℕ) (ds : List ℕ) → v ≤ value v ds
unfolding value
grows v [] = omega arith
grows v (d ∷ ds) = let more : v * 10 + (d - 48) ≤ value (v * 10 + (d - 48)) ds = grows (v * 10 + (d - 48)) ds in omega arith

-- once too large, always
pub judged-large : (most v : ℕ) (ds : List ℕ) → most < v → judged most v ds ≡ false
unfolding judged
judged-large most v ds h = rw (lt-leb (value v ds) most (let g : v ≤ value v ds = grows v ds in omega arith)) (go (all? digit ds))
  where
    go : (t : Bool) → (t && false) ≡ false
    go true = refl
    go false = refl

-- none left
pub judged-end : (most v : ℕ) (w : List ℕ) (i : ℕ) → length w ≤ i → v ≤ most → judged most v (drop i w) ≡ true
unfolding judged all? value
judged-end most v w i h k = rw (drop_of_length-le w h) (le-leb v most k)

pub value-end : (v : ℕ) (w : List ℕ) (i : ℕ) → length w ≤ i → value v (drop i w) ≡ v
unfolding value
value-end v w i h = rw (drop_of_length-le w h)

digits-all : (ds : List ℕ) → Digits ds → all? digit ds ≡ true
unfolding Digits all?
digits-all [] d = refl
digits-all (b ∷ bs) d = rw (le-leb 48 b d.0.least, le-leb b 57 d.0.most) (digits-all bs d.1)

pub some-digit : (x : ℕ) → 0 < length (decimal x)
unfolding decimal decimal_in
some-digit x = go (ltb x 10)
  where
    go : (t : Bool) → 0 < length (cond t ((48 + x) ∷ []) (decimal_in x (x / 10) ++ ((48 + x % 10) ∷ [])))
    go true = omega arith
    go false = omega (arith, length-append (decimal_in x (x / 10)) ((48 + x % 10) ∷ []))

-- the decimal text of a number fits where the number is at most so large
pub fits-decimal : (most x : ℕ) → x ≤ most → fits most (decimal x) ≡ true
unfolding judged
fits-decimal most x h =
    fits-some most (decimal x) (ne_eqb (length (decimal x)) 0 (λ e. omega (arith, some-digit x))) ∙ rw (digits-all (decimal x) (decimal-digits x), decimal-value x) (le-leb x most h)

-- THE DECIMAL TEXT of a number reads as that number: it fits, and its value is the number
pub reads-decimal : (most x : ℕ) → x ≤ most → (fits most (decimal x) ≡ true) × (value 0 (decimal x) ≡ x)
reads-decimal most x h = (fits-decimal most x h, decimal-value x)

pub digit-least : (b : ℕ) → digit b ≡ true → 48 ≤ b
digit-least b e = go (leb 48 b) refl e
  where
    go : (t : Bool) → leb 48 b ≡ t → (t && leb b 57) ≡ true → 48 ≤ b
    go true h k = leb-true 48 b h
    go false h k = absurd (let z : ◌≡◌ {A = ℕ} 0 1 = cc in omega arith)

-- what fits is at most so large
pub fits-most : (most : ℕ) (w : List ℕ) → fits most w ≡ true → value 0 w ≤ most
unfolding fits empty
fits-most most [] e = absurd (let z : ◌≡◌ {A = ℕ} 0 1 = cc in omega arith)
fits-most most (b ∷ bs) e = leb-true (value 0 (b ∷ bs)) most (go (all? digit (b ∷ bs)) (leb (value 0 (b ∷ bs)) most) e)
  where
    go : (s t : Bool) → (s && t) ≡ true → t ≡ true
    go true t h = h
    go false t h = absurd (let z : ◌≡◌ {A = ℕ} 0 1 = cc in omega arith)

-- what a word says that was read as a number, and one that was not
module _ (most : ℕ) (w : List ℕ) {r : Option ℕ} (e : r ≡ cond (fits most w) (Some (value 0 w)) None) where
  pub number-some : {v : ℕ} → r ≡ Some v → (fits most w ≡ true) × (v ≡ value 0 w)
  number-some {v} f = go (fits most w) (sym e ∙ f)
    where
      go : (b : Bool) → cond b (Some (value 0 w)) None ≡ Some v → (b ≡ true) × (v ≡ value 0 w)
      go true g = (refl, cc)
      go false g = absurd (let z : ◌≡◌ {A = ℕ} 0 1 = cc in omega arith)

  pub number-none : r ≡ None → fits most w ≡ false
  number-none f = go (fits most w) (sym e ∙ f)
    where
      go : (b : Bool) → ◌≡◌ {A = Option ℕ} (cond b (Some (value 0 w)) None) None → b ≡ false
      go true g = absurd (let z : ◌≡◌ {A = ℕ} 0 1 = cc in omega arith)
      go false g = refl
