-- What the decimal text of a number is: digits only, no leading zero, and their value is the number; so no two numbers have one text. Assumes nothing.
use Prim.Native.Nat.{ℕ, zero, suc, ◌+◌, ◌-◌, ◌*◌, ◌/◌, ◌%◌, ◌≤◌, ◌<◌}
use mathlib.Core.Path.{◌≡◌, refl, sym, ap, ◌∙◌}
use mathlib.Core.Bool.{Bool, true, false, cond}
use mathlib.Core.List.{List, [], ◌∷◌, ◌++◌}
use native.Mathlib.Omega.{arith}
use borrow.Author.Tests.{ltb-true, ltb-false}
use lib.Dec.{ltb}
use lib.ListN.{get_or}
use Rattle.text.specs.Text.{decimal_in, decimal, value}

value-append : (v : ℕ) (xs ys : List ℕ) → value v (xs ++ ys) ≡ value (value v xs) ys
unfolding value
value-append v [] ys = refl
value-append v (x ∷ xs) ys = value-append (v * 10 + (x - 48)) xs ys

-- every byte is a digit of ASCII
pub record Digit (d : ℕ) : Type 0 where
  pub least : 48 ≤ d
  pub most : d ≤ 57

unfoldable pub Digits : List ℕ → Type 0
Digits [] = Unit {0}
Digits (d ∷ ds) = Digit d × Digits ds

digits_more : (xs : List ℕ) (d : ℕ) → Digits xs → Digit d → Digits (xs ++ (d ∷ []))
unfolding Digits
digits_more [] d h k = (k, tt)
digits_more (x ∷ xs) d h k = (h.0, digits_more xs d h.1 k)

-- the first byte does not change by one more at the end
first_more : (xs : List ℕ) (d : ℕ) → 48 < get_or xs 0 0 → 48 < get_or (xs ++ (d ∷ [])) 0 0
first_more [] d h = absurd (omega arith)
first_more (x ∷ xs) d h = h

-- THE VALUE of the text is the number
value_in : (most x : ℕ) → x < most → value 0 (decimal_in most x) ≡ x
unfolding value decimal_in
value_in zero x h = absurd (omega arith)
value_in (suc most) x h = go (λ k. value_in most (x / 10) k) (ltb x 10) refl
  where
    go : (x / 10 < most → value 0 (decimal_in most (x / 10)) ≡ x / 10) → (t : Bool) → ltb x 10 ≡ t
        → value 0 (cond t ((48 + x) ∷ []) (decimal_in most (x / 10) ++ ((48 + x % 10) ∷ []))) ≡ x
    go tenth true e = omega arith
    go tenth false e =
        let large : 10 ≤ x = omega (arith, ltb-false x 10 e) in
        let whole : x / 10 * 10 + (48 + x % 10 - 48) ≡ x = omega arith in
        value-append 0 (decimal_in most (x / 10)) ((48 + x % 10) ∷ []) ∙ ap (λ v. v * 10 + (48 + x % 10 - 48)) (tenth (omega arith)) ∙ whole

pub decimal-value : (x : ℕ) → value 0 (decimal x) ≡ x
unfolding decimal
decimal-value x = value_in (suc x) x (omega arith)

-- so no two numbers have one text
pub decimal-once : (x y : ℕ) → decimal x ≡ decimal y → x ≡ y
decimal-once x y e = sym (decimal-value x) ∙ ap (value 0) e ∙ decimal-value y

-- DIGITS ONLY
digits_in : (most x : ℕ) → Digits (decimal_in most x)
unfolding Digits decimal_in
digits_in zero x = tt
digits_in (suc most) x = go (digits_in most (x / 10)) (ltb x 10) refl
  where
    go : Digits (decimal_in most (x / 10)) → (t : Bool) → ltb x 10 ≡ t → Digits (cond t ((48 + x) ∷ []) (decimal_in most (x / 10) ++ ((48 + x % 10) ∷ [])))
    go tenth true e = let small : x < 10 = omega (arith, ltb-true x 10 e) in (record { least = omega arith; most = omega arith }, tt)
    go tenth false e = digits_more (decimal_in most (x / 10)) (48 + x % 10) tenth (record { least = omega arith; most = omega arith })

pub decimal-digits : (x : ℕ) → Digits (decimal x)
unfolding decimal
decimal-digits x = digits_in (suc x) x

-- NO LEADING ZERO, but 0 itself
pub decimal-zero : decimal 0 ≡ 48 ∷ []
unfolding decimal decimal_in
decimal-zero = refl

first-in : (most x : ℕ) → x < most → 0 < x → 48 < get_or (decimal_in most x) 0 0
unfolding decimal_in
first-in zero x h k = absurd (omega arith)
first-in (suc most) x h k = go (λ l m. first-in most (x / 10) l m) (ltb x 10) refl
  where
    go : (x / 10 < most → 0 < x / 10 → 48 < get_or (decimal_in most (x / 10)) 0 0) → (t : Bool) → ltb x 10 ≡ t
        → 48 < get_or (cond t ((48 + x) ∷ []) (decimal_in most (x / 10) ++ ((48 + x % 10) ∷ []))) 0 0
    go tenth true e = omega arith
    go tenth false e =
        let large : 10 ≤ x = omega (arith, ltb-false x 10 e) in
        first_more (decimal_in most (x / 10)) (48 + x % 10) (tenth (omega arith) (omega arith))

pub decimal-first : (x : ℕ) → 0 < x → 48 < get_or (decimal x) 0 0
unfolding decimal
decimal-first x h = first-in (suc x) x (omega arith) h
