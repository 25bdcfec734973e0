-- How many digits a number has: between the powers of ten, so many of its last digits are its text. Assumes nothing.
use Prim.Native.Nat.{ℕ, zero, suc, ◌+◌, ◌*◌, ◌/◌, ◌%◌, ◌^◌, ◌≤◌, ◌<◌}
use mathlib.Core.Bool.{Bool, true, false}
use mathlib.Core.Path.{◌≡◌, refl, ap, ◌∙◌}
use mathlib.Core.List.{[], ◌∷◌, ◌++◌}
use native.Mathlib.Omega.{arith}
use native.Mathlib.Nat.{pow-suc}
use Rattle.std.proofs.Math.Nat.{pow-le-pow_right}
use borrow.Author.Tests.{lt-ltb, le-ltb, leb-true, leb-false}
use lib.Dec.{leb}
use lib.ListN.{length, length-append}
use Rattle.text.specs.Text.{decimal_in, decimal}
use Rattle.text.specs.Digits.{last_digits}

pub last-length : (n x : ℕ) → length (last_digits n x) ≡ n
unfolding last_digits
last-length zero x = refl
last-length (suc n) x = length-append (last_digits n (x / 10)) ((48 + x % 10) ∷ []) ∙ ap (λ k. k + 1) (last-length n (x / 10)) ∙ (let z : n + 1 ≡ suc n = omega arith in z)

-- one digit
in_one : (most x : ℕ) → x < 10 → last_digits 1 x ≡ decimal_in (suc most) x
unfolding last_digits decimal_in
in_one most x h = rw (lt-ltb x 10 h) (ap (λ d. d ∷ []) (let z : 48 + x % 10 ≡ 48 + x = omega arith in z))

-- a digit more than a tenth has
in-more : (n most x : ℕ) → 10 ≤ x → last_digits n (x / 10) ≡ decimal_in most (x / 10) → last_digits (suc n) x ≡ decimal_in (suc most) x
unfolding last_digits decimal_in
in-more n most x h e = rw (le-ltb x 10 h) (ap (λ ds. ds ++ ((48 + x % 10) ∷ [])) e)

in_all : (n most x : ℕ) → x < most → 10 ^ n ≤ x → x < 10 ^ suc n → last_digits (suc n) x ≡ decimal_in most x
in_all n zero x f h k = absurd (omega arith)
in_all zero (suc most) x f h k = in_one most x k
in_all (suc n) (suc most) x f h k =
    let low : 10 ^ n * 10 ≤ x = rw pow-suc at h in
    let high : x < 10 ^ suc n * 10 = rw pow-suc at k in
    let large : 10 ≤ x = omega arith in
    in-more (suc n) most x large (in_all n most (x / 10) (omega arith) (omega arith) (omega arith))

-- ONE DIGIT, and as many as the powers of ten say
pub decimal-one : (x : ℕ) → x < 10 → last_digits 1 x ≡ decimal x
unfolding decimal
decimal-one x h = in_one x x h

pub decimal-more : (n x : ℕ) → 10 ^ n ≤ x → x < 10 ^ suc n → last_digits (suc n) x ≡ decimal x
unfolding decimal
decimal-more n x h k = in_all n (suc x) x (omega arith) h k

pub decimal_digit : (x : ℕ) → x < 10 → (48 + x) ∷ [] ≡ decimal x
unfolding last_digits
decimal_digit x h = ap (λ d. d ∷ []) (let z : 48 + x ≡ 48 + x % 10 = omega arith in z) ∙ decimal-one x h

-- by the library's logarithm: so many digits, and no more than the power of ten above says
pub decimal-log : (k x : ℕ) → 10 ^ k ≤ x → x < 10 * 10 ^ k → last_digits (k + 1) x ≡ decimal x
decimal-log k x h l =
    let next : k + 1 ≡ suc k = omega arith in
    let high : x < 10 ^ suc k = rw pow-suc (omega arith) in
    rw next (decimal-more k x h high)

pub log-most : (k most x : ℕ) → 10 ^ k ≤ x → x < 10 ^ most → k + 1 ≤ most
log-most k most x h l = go (leb (k + 1) most) refl
  where
    go : (t : Bool) → leb (k + 1) most ≡ t → k + 1 ≤ most
    go true e = leb-true (k + 1) most e
    go false e =
        let far : most < k + 1 = leb-false (k + 1) most e in
        let near : most ≤ k = omega arith in
        absurd (omega (arith, pow-le-pow_right {n = 10} (omega arith) near))
