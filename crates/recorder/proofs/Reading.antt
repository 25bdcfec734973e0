-- A line as the machine reads it: behind its mark, and its words one by one. Assumes nothing.
use Prim.Native.Nat.{ℕ, ◌+◌, ◌-◌, ◌≤◌, ◌<◌, min}
use mathlib.Core.Path.{◌≡◌, refl, sym, ◌∙◌}
use mathlib.Core.Bool.{Bool, true, false, cond, ◌&&◌}
use mathlib.Core.List.{List, [], ◌∷◌}
use native.Mathlib.Omega.{arith}
use native.Mathlib.Decide.{dec_le}
use native.Mathlib.Numerals.{add-one}
use borrow.Author.Tests.{eq-eqb, ne_eqb, le-leb, lt-leb}
use lib.Dec.{eqb}
use lib.ListN.{length, take, drop, get_or, length-drop}
use lib.Pointwise.{pointwise}
use lib.Seq.{take_all}
use Rattle.tokens.specs.Tokens.{first_word, other_words}
use Rattle.tokens.proofs.Names.{same-bytes}
use Rattle.recorder.specs.Recorder.{unmarked}
use Rattle.recorder.specs.Machine.{added}

-- the bytes from a place to another, and from a place on
abbrev pub part : ℕ → ℕ → List ℕ → List ℕ
part from to text = take (to - from) (drop from text)

pub onward : (l : List ℕ) (f : ℕ) → part f (length l) l ≡ drop f l
onward l f = take_all (length l - f) (drop f l) (omega (arith, length-drop f l))

module _ (n : ℕ) (line : List ℕ) where
  -- another line, a line without the mark
  pub unmarked-other : (n ≡ 1 → ⊥) → line ≡ unmarked n line
  unfolding unmarked
  unmarked-other h = rw (ne_eqb n 1 h)

  pub unmarked-none : pointwise eqb (take 3 line) (239 ∷ 187 ∷ 191 ∷ []) ≡ false → line ≡ unmarked n line
  unfolding unmarked
  unmarked-none e = rw (sym (same-bytes (take 3 line) (239 ∷ 187 ∷ 191 ∷ [])) ∙ e) (go (eqb n 1))
    where
      go : (t : Bool) → line ≡ cond (t && false) (drop 3 line) line
      go true = refl
      go false = refl

  -- THE MARK
  pub unmarked-mark : n ≡ 1 → pointwise eqb (take 3 line) (239 ∷ 187 ∷ 191 ∷ []) ≡ true → drop 3 line ≡ unmarked n line
  unfolding unmarked
  unmarked-mark h e = rw (eq-eqb n 1 h, sym (same-bytes (take 3 line) (239 ∷ 187 ∷ 191 ∷ [])) ∙ e)

-- the first of some words, and one behind it
pub first-found : (ws : List (List ℕ)) → first_word ws ≡ get_or ws 0 []
unfolding first_word
first-found [] = refl
first-found (w ∷ ws) = refl

pub next-found : (ws : List (List ℕ)) (k : ℕ) → get_or (other_words ws) k [] ≡ get_or ws (k + 1) []
unfolding other_words
next-found [] k = refl
next-found (w ∷ ws) k = rw (add-one k)

-- a counter
pub added-small : (n k : ℕ) → n + k ≤ 18446744073709551615 → n + k ≡ added n k
unfolding added
added-small n k h = rw (le-leb (n + k) 18446744073709551615 h)

pub added-large : (n k : ℕ) → 18446744073709551615 < n + k → 18446744073709551615 ≡ added n k
unfolding added
added-large n k h = rw (lt-leb (n + k) 18446744073709551615 h)

pub added-most : (n k : ℕ) → min (n + k) 18446744073709551615 ≡ added n k
added-most n k = go (dec_le (n + k) 18446744073709551615)
  where
    go : Dec (n + k ≤ 18446744073709551615) → min (n + k) 18446744073709551615 ≡ added n k
    go (yes h) = let e : min (n + k) 18446744073709551615 ≡ n + k = omega arith in e ∙ added-small n k h
    go (no h) = let e : min (n + k) 18446744073709551615 ≡ 18446744073709551615 = omega arith in e ∙ added-large n k (omega arith)
