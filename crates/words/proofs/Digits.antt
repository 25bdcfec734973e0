-- The digits of a word: of `|`, `!`, a shift and a run of ones; the count of ones; what stands below and at the trailing zeros. Assumes nothing.
use mathlib.Core.Path.{◌≡◌, refl, sym, ap, ap₂, ◌∙◌}
use mathlib.Core.Bool.{Bool, true, false, not, cond, ◌&&◌, ◌||◌}
use mathlib.Core.List.{[], ◌∷◌}
use Prim.Native.Nat.{ℕ, zero, suc, ◌+◌, ◌-◌, ◌*◌, ◌/◌, ◌%◌, ◌^◌, ◌≤◌, ◌<◌, suc-le-suc, max, min}
use native.Mathlib.Nat.{div-one, add-zero, add-suc, suc-add, zero-add, add_assoc, add_comm, mod-lt, mod-eq_of_lt, max-le, le_of_suc-le-suc, not-suc-le-zero, zero-lt-suc, pow-suc, mul-one}
use native.Mathlib.Numerals.{one-add, add-one}
use native.Mathlib.Omega.{arith}
use lib.Dec.{leb, ltb, eqb, leb-zero, leb-suc-zero, leb-suc-suc}
use lib.Arith.{digits_mod}
use lib.ListN.{length, length-append}
use lib.Pow.{pow_pos, shr-shr, shl_exact, mod-pow-add, ones_split, ones_lt, high}
use lib.Bits.{bit_and, bit_or, and_shr, or_shr, and_step, or_step, shifted_half, shifted_even}
use lib.Count.{ones, ones_cat, count_trailing_zeros, under}
use Rattle.lists.specs.Lists.{keep, range}
use Rattle.lists.proofs.Append.{keep_append, range-more}
use Rattle.words.specs.Words.{bit, Least}

two_pos : zero < 2
two_pos = zero-lt-suc 1

-- ---- the digits, lowest first

pub bit-zero : (n : ℕ) → bit n 0 ≡ eqb (n % 2) 1
unfolding bit
bit-zero n = ap (λ (x : ℕ). eqb (x % 2) 1) (div-one n)

pub bit-shr : (n s k : ℕ) → bit (n / 2 ^ s) k ≡ bit n (s + k)
unfolding bit
bit-shr n s k = ap (λ (x : ℕ). eqb (x % 2) 1) (shr-shr n s k)

pub bit-suc : (n k : ℕ) → bit n (suc k) ≡ bit (n / 2) k
bit-suc n k = ap (bit n) (sym (one-add k)) ∙ sym (bit-shr n 1 k)

pub bit-of-zero : (k : ℕ) → bit 0 k ≡ false
unfolding bit
bit-of-zero zero = refl
bit-of-zero (suc k) = bit-suc 0 k ∙ bit-of-zero k

-- ---- `|`

or-two : (r s : ℕ) → r < 2 → s < 2 → eqb (max r s) 1 ≡ (eqb r 1 || eqb s 1)
or-two zero zero h l = refl
or-two zero (suc zero) h l = refl
or-two (suc zero) zero h l = refl
or-two (suc zero) (suc zero) h l = refl
or-two zero (suc (suc s)) h l = absurd (not-suc-le-zero (le_of_suc-le-suc (le_of_suc-le-suc l)))
or-two (suc zero) (suc (suc s)) h l = absurd (not-suc-le-zero (le_of_suc-le-suc (le_of_suc-le-suc l)))
or-two (suc (suc r)) s h l = absurd (not-suc-le-zero (le_of_suc-le-suc (le_of_suc-le-suc h)))

or-low : (x y : ℕ) → bit_or x y % 2 ≡ max (x % 2) (y % 2)
or-low x y =
    ap (λ (z : ℕ). z % 2) (or_step x y)
    ∙ digits_mod (bit_or (x / 2) (y / 2)) (suc-le-suc (max-le (le_of_suc-le-suc (mod-lt x two_pos)) (le_of_suc-le-suc (mod-lt y two_pos))))

pub bit-or : (a b k : ℕ) → bit (bit_or a b) k ≡ (bit a k || bit b k)
unfolding bit
bit-or a b k =
    ap (λ (x : ℕ). eqb (x % 2) 1) (or_shr a b k) ∙ ap (λ (x : ℕ). eqb x 1) (or-low (a / 2 ^ k) (b / 2 ^ k))
    ∙ or-two (a / 2 ^ k % 2) (b / 2 ^ k % 2) (mod-lt (a / 2 ^ k) two_pos) (mod-lt (b / 2 ^ k) two_pos)

-- ---- `&`

and-two : (r s : ℕ) → r < 2 → s < 2 → eqb (min r s) 1 ≡ (eqb r 1 && eqb s 1)
and-two zero zero h l = refl
and-two zero (suc zero) h l = refl
and-two (suc zero) zero h l = refl
and-two (suc zero) (suc zero) h l = refl
and-two zero (suc (suc s)) h l = absurd (omega arith)
and-two (suc zero) (suc (suc s)) h l = absurd (omega arith)
and-two (suc (suc r)) s h l = absurd (omega arith)

and_low : (x y : ℕ) → bit_and x y % 2 ≡ min (x % 2) (y % 2)
and_low x y =
    let h : min (x % 2) (y % 2) < 2 = omega arith in
    ap (λ (z : ℕ). z % 2) (and_step x y) ∙ digits_mod (bit_and (x / 2) (y / 2)) h

pub bit-and : (a b k : ℕ) → bit (bit_and a b) k ≡ (bit a k && bit b k)
unfolding bit
bit-and a b k =
    ap (λ (x : ℕ). eqb (x % 2) 1) (and_shr a b k) ∙ ap (λ (x : ℕ). eqb x 1) (and_low (a / 2 ^ k) (b / 2 ^ k))
    ∙ and-two (a / 2 ^ k % 2) (b / 2 ^ k % 2) (mod-lt (a / 2 ^ k) two_pos) (mod-lt (b / 2 ^ k) two_pos)

-- ---- `<<`, where nothing is shifted out: the digits below are clear, and the rest have moved up

pub bit-shl-low : (x a j : ℕ) → j < a → bit (x * 2 ^ a) j ≡ false
bit-shl-low x zero j h = absurd (not-suc-le-zero h)
bit-shl-low x (suc a) zero h = bit-zero (x * 2 ^ suc a) ∙ ap (λ (r : ℕ). eqb r 1) (shifted_even x a)
bit-shl-low x (suc a) (suc j) h =
    bit-suc (x * 2 ^ suc a) j ∙ ap (λ (n : ℕ). bit n j) (shifted_half x a) ∙ bit-shl-low x a j (le_of_suc-le-suc h)

-- ---- a run of ones

pub bit-ones : (w j : ℕ) → bit (2 ^ w - 1) j ≡ ltb j w
bit-ones zero j = bit-of-zero j ∙ sym (leb-suc-zero j)
bit-ones (suc w) zero =
    let p : 0 < 2 ^ w = pow_pos w in
    let e : (2 ^ suc w - 1) % 2 ≡ 1 = omega (arith, pow-suc 2 w) in
    bit-zero (2 ^ suc w - 1) ∙ ap (λ (r : ℕ). eqb r 1) e ∙ sym (leb-suc-suc 0 w ∙ leb-zero w)
bit-ones (suc w) (suc j) =
    let p : 0 < 2 ^ w = pow_pos w in
    let e : (2 ^ suc w - 1) / 2 ≡ 2 ^ w - 1 = omega (arith, pow-suc 2 w) in
    bit-suc (2 ^ suc w - 1) j ∙ ap (λ (n : ℕ). bit n j) e ∙ bit-ones w j ∙ sym (leb-suc-suc (suc j) w)

-- the w digits from a on
pub bit-run : (w a j : ℕ) → bit ((2 ^ w - 1) * 2 ^ a) j ≡ (leb a j && ltb j (a + w))
bit-run w zero j =
    ap (λ (n : ℕ). bit n j) (mul-one (2 ^ w - 1)) ∙ bit-ones w j
    ∙ sym (ap₂ ◌&&◌ (leb-zero j) (ap (ltb j) (zero-add w)))
bit-run w (suc a) zero =
    bit-shl-low (2 ^ w - 1) (suc a) 0 (zero-lt-suc a) ∙ sym (ap (λ (t : Bool). t && ltb 0 (suc a + w)) (leb-suc-zero a))
bit-run w (suc a) (suc j) =
    bit-suc ((2 ^ w - 1) * 2 ^ suc a) j ∙ ap (λ (n : ℕ). bit n j) (shifted_half (2 ^ w - 1) a) ∙ bit-run w a j
    ∙ sym (ap₂ ◌&&◌ (leb-suc-suc a j) (ap (ltb (suc j)) (suc-add a w) ∙ leb-suc-suc (suc j) (a + w)))

-- as a word of 64 digits has it
top : (w : ℕ) → w ≤ 64 → (2 ^ 64 - 1) / 2 ^ (64 - w) ≡ 2 ^ w - 1
top w h =
    let e : 64 ≡ w + (64 - w) = omega arith in
    ap (λ (m : ℕ). (2 ^ m - 1) / 2 ^ (64 - w)) e ∙ ap (λ (x : ℕ). x / 2 ^ (64 - w)) (ones_split w (64 - w))
    ∙ high (2 ^ w - 1) (64 - w) (ones_lt (64 - w))

pub bit-span-word : (a b j : ℕ) → a < b → b ≤ 64 → bit ((2 ^ 64 - 1) / 2 ^ (64 - (b - a)) * 2 ^ a % 2 ^ 64) j ≡ (leb a j && ltb j b)
bit-span-word a b j h l =
    let e : a + (b - a) ≡ b = omega arith in
    ap (λ (x : ℕ). bit (x * 2 ^ a % 2 ^ 64) j) (top (b - a) (omega arith))
    ∙ ap (λ (n : ℕ). bit n j) (shl_exact (b - a) a 64 (ones_lt (b - a)) (omega arith))
    ∙ bit-run (b - a) a j ∙ ap (λ (x : ℕ). leb a j && ltb j x) e

-- ---- `!`

not-odd : (r s : ℕ) → r + s ≡ 1 → eqb r 1 ≡ not (eqb s 1)
not-odd zero s e = sym (ap (λ (x : ℕ). not (eqb x 1)) (sym (zero-add s) ∙ e))
not-odd (suc zero) s e = let z : s ≡ 0 = omega arith in sym (ap (λ (x : ℕ). not (eqb x 1)) z)
not-odd (suc (suc r)) s e = absurd (omega arith)

pub bit_not : (k n j : ℕ) → n < 2 ^ k → j < k → bit ((2 ^ k - 1) - n) j ≡ not (bit n j)
bit_not zero n j h l = absurd (not-suc-le-zero l)
bit_not (suc k) n zero h l =
    let e : ((2 ^ suc k - 1) - n) % 2 + n % 2 ≡ 1 = omega (arith, pow-suc 2 k) in
    bit-zero ((2 ^ suc k - 1) - n) ∙ not-odd (((2 ^ suc k - 1) - n) % 2) (n % 2) e ∙ sym (ap not (bit-zero n))
bit_not (suc k) n (suc j) h l =
    let e : ((2 ^ suc k - 1) - n) / 2 ≡ (2 ^ k - 1) - n / 2 = omega (arith, pow-suc 2 k) in
    let b : n / 2 < 2 ^ k = omega (arith, pow-suc 2 k) in
    bit-suc ((2 ^ suc k - 1) - n) j ∙ ap (λ (m : ℕ). bit m j) e ∙ bit_not k (n / 2) j b (le_of_suc-le-suc l) ∙ sym (ap not (bit-suc n j))

-- ---- how many of the n numbers from a on pass

abbrev pub tally : (ℕ → Bool) → ℕ → ℕ → ℕ
tally p a n = length (keep p (range a n))

abbrev one : Bool → ℕ
one b = cond b 1 0

tally-one : (p : ℕ → Bool) (x : ℕ) → length (keep p (x ∷ [])) ≡ one (p x)
unfolding keep
tally-one p x = go (p x)
  where
    go : (b : Bool) → length (cond b (x ∷ []) []) ≡ one b
    go true = refl
    go false = refl

tally-more : (p : ℕ → Bool) (a n : ℕ) → tally p a (suc n) ≡ tally p a n + one (p (a + n))
tally-more p a n =
    ap (tally p a) (sym (add-one n)) ∙ ap (λ l. length (keep p l)) (range-more a n) ∙ ap length (keep_append p (range a n) ((a + n) ∷ []))
    ∙ length-append (keep p (range a n)) (keep p ((a + n) ∷ [])) ∙ ap (λ x. tally p a n + x) (tally-one p (a + n))

tally-zero : (p : ℕ → Bool) (a : ℕ) → tally p a 0 ≡ 0
unfolding keep range
tally-zero p a = refl

pub tally-same : (p q : ℕ → Bool) (a b n : ℕ) → ((i : ℕ) → i < n → p (a + i) ≡ q (b + i)) → tally p a n ≡ tally q b n
tally-same p q a b zero h = tally-zero p a ∙ sym (tally-zero q b)
tally-same p q a b (suc n) h =
    tally-more p a n ∙ ap₂ (λ (x : ℕ) (t : Bool). x + one t) (tally-same p q a b n (λ i l. h i (omega arith))) (h n (omega arith))
    ∙ sym (tally-more q b n)

pub tally-split : (p : ℕ → Bool) (a m n : ℕ) → tally p a (m + n) ≡ tally p a m + tally p (a + m) n
tally-split p a m zero = ap (tally p a) (add-zero m) ∙ sym (ap (λ x. tally p a m + x) (tally-zero p (a + m)) ∙ add-zero (tally p a m))
tally-split p a m (suc n) =
    ap (tally p a) (add-suc m n) ∙ tally-more p a (m + n)
    ∙ ap₂ (λ (x y : ℕ). x + one (p y)) (tally-split p a m n) (sym (add_assoc a m n))
    ∙ add_assoc (tally p a m) (tally p (a + m) n) (one (p (a + m + n)))
    ∙ ap (λ x. tally p a m + x) (sym (tally-more p (a + m) n))

ones-digit : (r : ℕ) → r < 2 → ones r ≡ one (eqb r 1)
unfolding ones
ones-digit zero h = refl
ones-digit (suc zero) h = refl
ones-digit (suc (suc r)) h = absurd (omega arith)

ones_low : (n k : ℕ) → ones (n % 2 ^ k) ≡ tally (bit n) 0 k
unfolding bit
ones_low n zero = ap ones (omega arith) ∙ ones-digit 0 two_pos ∙ sym (tally-zero (bit n) 0)
ones_low n (suc k) =
    ap (λ (m : ℕ). ones (n % 2 ^ m)) (sym (one-add k)) ∙ ap ones (mod-pow-add n 1 k)
    ∙ ones_cat k (n / 2 ^ k % 2) (n % 2 ^ k) (mod-lt n (pow_pos k))
    ∙ add_comm (ones (n / 2 ^ k % 2)) (ones (n % 2 ^ k))
    ∙ ap₂ (λ (x y : ℕ). x + y) (ones_low n k) (ones-digit (n / 2 ^ k % 2) (mod-lt (n / 2 ^ k) two_pos) ∙ ap (λ (m : ℕ). one (bit n m)) (sym (zero-add k)))
    ∙ sym (tally-more (bit n) 0 k)

-- `count_ones` of a word of k digits is the number of its digits that are set
pub ones-tally : (k n : ℕ) → n < 2 ^ k → ones n ≡ tally (bit n) 0 k
ones-tally k n h = ap ones (sym (mod-eq_of_lt h)) ∙ ones_low n k

-- ---- trailing zeros

clear-go : (n d t : ℕ) → n % 2 ≡ d → d < 2 → ((j : ℕ) → j < t → bit (n / 2) j ≡ false) → (j : ℕ) → j < under d t → bit n j ≡ false
clear-go n zero t e l f zero h = bit-zero n ∙ ap (λ (r : ℕ). eqb r 1) e
clear-go n zero t e l f (suc j) h = bit-suc n j ∙ f j (le_of_suc-le-suc h)
clear-go n (suc d) t e l f j h = absurd (not-suc-le-zero h)

pub trailing-clear : (k n j : ℕ) → j < count_trailing_zeros k n → bit n j ≡ false
unfolding count_trailing_zeros
trailing-clear zero n j h = absurd (not-suc-le-zero h)
trailing-clear (suc k) n j h = clear-go n (n % 2) (count_trailing_zeros k (n / 2)) refl (mod-lt n two_pos) (trailing-clear k (n / 2)) j h

set-go : (k n d t : ℕ) → n % 2 ≡ d → d < 2 → (t < k → bit (n / 2) t ≡ true) → under d t < suc k → bit n (under d t) ≡ true
set-go k n zero t e l f h = bit-suc n t ∙ f (le_of_suc-le-suc h)
set-go k n (suc zero) t e l f h = bit-zero n ∙ ap (λ (r : ℕ). eqb r 1) e
set-go k n (suc (suc d)) t e l f h = absurd (not-suc-le-zero (le_of_suc-le-suc (le_of_suc-le-suc l)))

pub trailing-set : (k n : ℕ) → count_trailing_zeros k n < k → bit n (count_trailing_zeros k n) ≡ true
unfolding count_trailing_zeros
trailing-set zero n h = absurd (not-suc-le-zero h)
trailing-set (suc k) n h = set-go k n (n % 2) (count_trailing_zeros k (n / 2)) refl (mod-lt n two_pos) (trailing-set k (n / 2)) h

-- the least digit from `from` on that is set: the trailing zeros of what is left after a shift
module _ (k n from : ℕ) (h : from < k) where
  t : ℕ
  t = count_trailing_zeros k (n / 2 ^ from)

  passed : (j : ℕ) → from ≤ j → j < from + t → bit n j ≡ false
  unfolding t
  passed j l m =
      let e : from + (j - from) ≡ j = omega arith in
      let b : j - from < count_trailing_zeros k (n / 2 ^ from) = omega arith in
      ap (bit n) (sym e) ∙ sym (bit-shr n from (j - from)) ∙ trailing-clear k (n / 2 ^ from) (j - from) b

pub least-some : (k n from : ℕ) → from < k → count_trailing_zeros k (n / 2 ^ from) < k - from → Least (bit n) from k (from + count_trailing_zeros k (n / 2 ^ from))
unfolding t
least-some k n from h l = record {
  low = omega arith;
  high = omega arith;
  before = passed k n from h;
  here = λ m. sym (bit-shr n from (count_trailing_zeros k (n / 2 ^ from))) ∙ trailing-set k (n / 2 ^ from) (omega arith);
}

pub least-none : (k n from : ℕ) → from < k → k - from ≤ count_trailing_zeros k (n / 2 ^ from) → Least (bit n) from k k
unfolding t
least-none k n from h l = record { low = omega arith; high = omega arith; before = λ j a b. passed k n from h j a (omega arith); here = λ m. absurd (omega arith) }
