-- Numbers put at a place, one into each row: they stand there, and every other place keeps its own. Assumes nothing.
use Prim.Native.Nat.{ℕ, zero, suc, ◌+◌, ◌*◌, ◌≤◌, ◌<◌}
use mathlib.Core.Path.{◌≡◌, refl, sym, ap, ◌∙◌}
use mathlib.Core.Bool.{◌&&◌}
use mathlib.Core.List.{List, [], ◌∷◌}
use native.Mathlib.Omega.{arith}
use lib.ListN.{length, get_or, set, length-set}
use lib.Seq.{get_or-set_same, get_or-set_other}
use lib.Dec.{leb, ltb}
use Rattle.words.specs.Words.{bit}
use Rattle.words.proofs.Columns.{four}
use Rattle.live.specs.Live.{at, put_from, WordsPut}

-- one of six rows
pub six : (P : ℕ → Type 0) → P 0 → P 1 → P 2 → P 3 → P 4 → P 5 → (r : ℕ) → r < 6 → P r
six P a b c d e f zero h = a
six P a b c d e f (suc zero) h = b
six P a b c d e f (suc (suc zero)) h = c
six P a b c d e f (suc (suc (suc zero))) h = d
six P a b c d e f (suc (suc (suc (suc zero)))) h = e
six P a b c d e f (suc (suc (suc (suc (suc zero))))) h = f
six P a b c d e f (suc (suc (suc (suc (suc (suc r)))))) h = absurd (omega arith)

pub put-length : (xs : List ℕ) (r : ℕ) (table : List ℕ) (i : ℕ) → length (put_from r table i xs) ≡ length table
unfolding put_from
put-length [] r table i = refl
put-length (x ∷ xs) r table i = put-length xs (suc r) (set table (r * 64 + i) x) i ∙ length-set table (r * 64 + i) x

-- every other place
pub put_other : (xs : List ℕ) (r : ℕ) (table : List ℕ) (i q j : ℕ) → i < 64 → j < 64 → (j ≡ i → ⊥) → at q (put_from r table i xs) j ≡ at q table j
unfolding put_from
put_other [] r table i q j h l e = refl
put_other (x ∷ xs) r table i q j h l e =
    put_other xs (suc r) (set table (r * 64 + i) x) i q j h l e ∙ get_or-set_other table (r * 64 + i) (q * 64 + j) x 0 (λ z. e (omega arith))

-- the rows before
put-before : (xs : List ℕ) (r : ℕ) (table : List ℕ) (i q : ℕ) → i < 64 → q < r → at q (put_from r table i xs) i ≡ at q table i
unfolding put_from
put-before [] r table i q h l = refl
put-before (x ∷ xs) r table i q h l =
    put-before xs (suc r) (set table (r * 64 + i) x) i q h (omega arith) ∙ get_or-set_other table (r * 64 + i) (q * 64 + i) x 0 (λ z. omega arith)

-- the place itself
put-from : (xs : List ℕ) (r : ℕ) (table : List ℕ) (i q : ℕ) → i < 64 → q < length xs → (r + length xs) * 64 ≤ length table → at (r + q) (put_from r table i xs) i ≡ get_or xs q 0
unfolding put_from
put-from [] r table i q h l z = absurd (omega arith)
put-from (x ∷ xs) r table i zero h l z =
    let e : r + 0 ≡ r = omega arith in
    ap (λ n. at n (put_from (suc r) (set table (r * 64 + i) x) i xs) i) e
    ∙ put-before xs (suc r) (set table (r * 64 + i) x) i r h (omega arith) ∙ get_or-set_same table (r * 64 + i) x 0 (omega arith)
put-from (x ∷ xs) r table i (suc q) h l z =
    let e : r + suc q ≡ suc r + q = omega arith in
    ap (λ n. at n (put_from (suc r) (set table (r * 64 + i) x) i xs) i) e
    ∙ put-from xs (suc r) (set table (r * 64 + i) x) i q h (omega arith) (rw (length-set table (r * 64 + i) x) (omega arith))

pub put-here : (xs table : List ℕ) (i q : ℕ) → i < 64 → q < length xs → length xs * 64 ≤ length table → at q (put_from 0 table i xs) i ≡ get_or xs q 0
put-here xs table i q h l z =
    let e : 0 + q ≡ q = omega arith in
    ap (λ n. at n (put_from 0 table i xs) i) (sym e) ∙ put-from xs 0 table i q h l (omega arith)

-- A TASK'S WORDS: each has its share of the columns
abbrev Share : ℕ → ℕ → ℕ → ℕ → Type 0
Share q left past word = (j : ℕ) → j < 64 → bit word j ≡ (leb left (q * 64 + 1 + j) && ltb (q * 64 + 1 + j) past)

pub words-put : (masks next : List ℕ) (i left past a b c d : ℕ) → i < 64 → length masks ≡ 256 → next ≡ put_from 0 masks i (a ∷ b ∷ c ∷ d ∷ [])
    → Share 0 left past a → Share 1 left past b → Share 2 left past c → Share 3 left past d → WordsPut masks i left past next
words-put masks next i left past a b c d h z e f g k l = rw e (record {
  size = put-length xs 0 masks i;
  other = λ q j p n. put_other xs 0 masks i q j h p n;
  share = λ q j p m.
      rw (put-here xs masks i q h p (omega arith))
      (four (λ q. (j : ℕ) → j < 64 → bit (get_or xs q 0) j ≡ (leb left (q * 64 + 1 + j) && ltb (q * 64 + 1 + j) past)) f g k l q p j m);
})
  where
    xs : List ℕ
    xs = a ∷ b ∷ c ∷ d ∷ []
