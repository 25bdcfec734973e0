-- Four words as 256 columns: a column by its word and digit, the set columns counted, the least one from a place on. Assumes nothing.
use mathlib.Core.Path.{◌≡◌, refl, sym, ap, ap₂, ◌∙◌}
use mathlib.Core.Bool.{Bool, false, ◌||◌, not}
use mathlib.Core.List.{List, [], ◌∷◌}
use Prim.Native.Nat.{ℕ, zero, suc, ◌+◌, ◌-◌, ◌*◌, ◌/◌, ◌%◌, ◌^◌, ◌≤◌, ◌<◌, min}
use native.Mathlib.Omega.{arith}
use native.Mathlib.Decide.{dec_lt}
use lib.ListN.{get_or, length}
use lib.Dec.{leb, ltb, leb→le, le→leb, ltb→lt, lt→ltb}
use lib.Bits.{bit_or}
use lib.Count.{ones, ones-le}
use Rattle.std.specs.List.{sum_by}
use Rattle.lists.proofs.Bools.{same_bool}
use Rattle.words.specs.Words.{bit, column, Least}
use Rattle.words.proofs.Digits.{tally, ones-tally, tally-same, tally-split, bit-of-zero, bit-or, bit_not}

-- digit j of word k is column k * 64 + j + 1
pub column-at : (ws : List ℕ) (k j : ℕ) → j < 64 → column ws (k * 64 + 1 + j) ≡ bit (get_or ws k 0) j
unfolding column
column-at ws k j h =
    let e : k * 64 + 1 + j ≡ suc (k * 64 + j) = omega arith in
    let a : (k * 64 + j) / 64 ≡ k = omega arith in
    let b : (k * 64 + j) % 64 ≡ j = omega arith in
    ap (column ws) e ∙ ap₂ (λ (x y : ℕ). bit (get_or ws x 0) y) a b

-- what holds of every digit of four words holds of every column
pub by-words : (p : ℕ → Bool) (ws : List ℕ) → ((k j : ℕ) → k < 4 → j < 64 → bit (get_or ws k 0) j ≡ p (k * 64 + 1 + j))
    → (c : ℕ) → 1 ≤ c → c ≤ 256 → column ws c ≡ p c
by-words p ws f c l h =
    let k : ℕ = (c - 1) / 64 in
    let j : ℕ = (c - 1) % 64 in
    let s : j < 64 = omega arith in
    let e : k * 64 + 1 + j ≡ c = omega arith in
    ap (column ws) (sym e) ∙ column-at ws k j s ∙ f k j (omega arith) s ∙ ap p e

-- what holds of each of the four
pub four : (P : ℕ → Type 0) → P 0 → P 1 → P 2 → P 3 → (k : ℕ) → k < 4 → P k
four P a b c d zero h = a
four P a b c d (suc zero) h = b
four P a b c d (suc (suc zero)) h = c
four P a b c d (suc (suc (suc zero))) h = d
four P a b c d (suc (suc (suc (suc k)))) h = absurd (omega arith)

-- the digits of a word are the columns that pass, from the column `low` on
abbrev pub Shows : (ℕ → Bool) → ℕ → ℕ → Type 0
Shows p low word = (j : ℕ) → j < 64 → bit word j ≡ p (low + j)

-- four words with the columns that pass set too, word by word
pub column-or : (ws : List ℕ) (p : ℕ → Bool) (a b c d : ℕ) → Shows p 1 a → Shows p 65 b → Shows p 129 c → Shows p 193 d
    → (x : ℕ) → 1 ≤ x → x ≤ 256 → column (bit_or (get_or ws 0 0) a ∷ bit_or (get_or ws 1 0) b ∷ bit_or (get_or ws 2 0) c ∷ bit_or (get_or ws 3 0) d ∷ []) x ≡ (column ws x || p x)
column-or ws p a b c d f g h i =
    by-words both out (λ k j l m. four (λ k. Shows both (k * 64 + 1) (get_or out k 0)) (one 0 a f) (one 1 b g) (one 2 c h) (one 3 d i) k l j m)
  where
    both : ℕ → Bool
    both x = column ws x || p x

    out : List ℕ
    out = bit_or (get_or ws 0 0) a ∷ bit_or (get_or ws 1 0) b ∷ bit_or (get_or ws 2 0) c ∷ bit_or (get_or ws 3 0) d ∷ []

    one : (k v : ℕ) → Shows p (k * 64 + 1) v → Shows both (k * 64 + 1) (bit_or (get_or ws k 0) v)
    one k v q j l = bit-or (get_or ws k 0) v j ∙ ap₂ ◌||◌ (sym (column-at ws k j l)) (q j l)

-- four words, each digit the other way round
pub column-not : (ws : List ℕ) → ((k : ℕ) → get_or ws k 0 < 2 ^ 64)
    → (x : ℕ) → 1 ≤ x → x ≤ 256
    → column ((2 ^ 64 - 1 - get_or ws 0 0) ∷ (2 ^ 64 - 1 - get_or ws 1 0) ∷ (2 ^ 64 - 1 - get_or ws 2 0) ∷ (2 ^ 64 - 1 - get_or ws 3 0) ∷ []) x ≡ not (column ws x)
column-not ws f =
    by-words (λ x. not (column ws x)) out (λ k j l m. four (λ k. (j : ℕ) → j < 64 → bit (get_or out k 0) j ≡ not (column ws (k * 64 + 1 + j))) (one 0) (one 1) (one 2) (one 3) k l j m)
  where
    out : List ℕ
    out = (2 ^ 64 - 1 - get_or ws 0 0) ∷ (2 ^ 64 - 1 - get_or ws 1 0) ∷ (2 ^ 64 - 1 - get_or ws 2 0) ∷ (2 ^ 64 - 1 - get_or ws 3 0) ∷ []

    one : (k j : ℕ) → j < 64 → bit (2 ^ 64 - 1 - get_or ws k 0) j ≡ not (column ws (k * 64 + 1 + j))
    one k j l = bit_not 64 (get_or ws k 0) j (f k) l ∙ ap not (sym (column-at ws k j l))

-- a column's place among those of a word that begins at `low`
pub clipped : (x low j a : ℕ) → j < 64 → a ≡ min (x - low) 64 → leb a j ≡ leb x (low + j)
clipped x low j a h e = same_bool (leb a j) (leb x (low + j))
    (λ t. let l = leb→le a j t in le→leb x (low + j) (omega arith))
    (λ t. let l = leb→le x (low + j) t in le→leb a j (omega arith))

pub clipped-end : (x low j a : ℕ) → j < 64 → a ≡ min (x - low) 64 → ltb j a ≡ ltb (low + j) x
clipped-end x low j a h e = same_bool (ltb j a) (ltb (low + j) x)
    (λ t. let l = ltb→lt j a t in lt→ltb (low + j) x (omega arith))
    (λ t. let l = ltb→lt (low + j) x t in lt→ltb j a (omega arith))

-- the set columns of word k, and of the four
tally-word : (ws : List ℕ) (k at : ℕ) → at ≡ k * 64 + 1 → get_or ws k 0 < 2 ^ 64 → tally (column ws) at 64 ≡ ones (get_or ws k 0)
tally-word ws k at e h =
    tally-same (column ws) (bit (get_or ws k 0)) at 0 64
    (λ i l. let z : i ≡ 0 + i = omega arith in ap (λ x. column ws (x + i)) e ∙ column-at ws k i l ∙ ap (bit (get_or ws k 0)) z)
    ∙ sym (ones-tally 64 (get_or ws k 0) h)

pub tally-words : (ws : List ℕ) → ((k : ℕ) → get_or ws k 0 < 2 ^ 64)
    → ones (get_or ws 0 0) + ones (get_or ws 1 0) + ones (get_or ws 2 0) + ones (get_or ws 3 0) ≡ tally (column ws) 1 256
tally-words ws h =
    sym (tally-split (column ws) 1 192 64
    ∙ ap₂ (λ (x y : ℕ). x + y)
    (tally-split (column ws) 1 128 64
    ∙ ap₂ (λ (x y : ℕ). x + y)
    (tally-split (column ws) 1 64 64 ∙ ap₂ (λ (x y : ℕ). x + y) (tally-word ws 0 1 refl (h 0)) (tally-word ws 1 65 refl (h 1)))
    (tally-word ws 2 129 refl (h 2)))
    (tally-word ws 3 193 refl (h 3)))

-- the same as one sum over the list, and that is no more than 256
pub tally-sum : (ws : List ℕ) → length ws ≡ 4 → ((k : ℕ) → get_or ws k 0 < 2 ^ 64) → (sum_by ones ws ≡ tally (column ws) 1 256) × (sum_by ones ws ≤ 256)
tally-sum (a ∷ b ∷ c ∷ d ∷ []) e h =
    (omega (arith, tally-words (a ∷ b ∷ c ∷ d ∷ []) h), omega (arith, ones-le 64 a (h 0), ones-le 64 b (h 1), ones-le 64 c (h 2), ones-le 64 d (h 3)))
tally-sum [] e h = absurd (omega arith)
tally-sum (a ∷ []) e h = absurd (omega arith)
tally-sum (a ∷ b ∷ []) e h = absurd (omega arith)
tally-sum (a ∷ b ∷ c ∷ []) e h = absurd (omega arith)
tally-sum (a ∷ b ∷ c ∷ d ∷ x ∷ xs) e h = absurd (omega arith)

-- columns passed up to digit k of word i, and then up to its least digit j: passed up to there
pub passed : (ws : List ℕ) (from i k j : ℕ) → ((c : ℕ) → from ≤ c → c < i * 64 + k + 1 → column ws c ≡ false) → Least (bit (get_or ws i 0)) k 64 j
    → (c : ℕ) → from ≤ c → c < i * 64 + j + 1 → column ws c ≡ false
passed ws from i k j f u c l m = go (dec_lt c (i * 64 + k + 1))
  where
    go : Dec (c < i * 64 + k + 1) → column ws c ≡ false
    go (yes q) = f c l q
    go (no q) =
        let d : ℕ = c - 1 - i * 64 in
        let e : i * 64 + 1 + d ≡ c = omega arith in
        let s : d < 64 = omega (arith, u.high) in
        ap (column ws) (sym e) ∙ column-at ws i d s ∙ u.before d (omega arith) (omega arith)

-- the words with no column set
abbrev pub no_words : List ℕ
no_words = 0 ∷ 0 ∷ 0 ∷ 0 ∷ []

zeros-at : (k : ℕ) → get_or no_words k 0 ≡ 0
zeros-at zero = refl
zeros-at (suc zero) = refl
zeros-at (suc (suc zero)) = refl
zeros-at (suc (suc (suc zero))) = refl
zeros-at (suc (suc (suc (suc k)))) = refl

pub column-none : (c : ℕ) → column no_words c ≡ false
unfolding column
column-none zero = refl
column-none (suc i) = ap (λ (n : ℕ). bit n (i % 64)) (zeros-at (i / 64)) ∙ bit-of-zero (i % 64)
