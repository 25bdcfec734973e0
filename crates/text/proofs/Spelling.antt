-- Digits stored from the last one backwards, and texts stored one behind the other. Assumes nothing.
use Prim.Native.Nat.{ℕ, zero, suc, ◌+◌, ◌-◌, ◌/◌, ◌%◌, ◌≤◌, ◌<◌}
use mathlib.Core.Path.{◌≡◌, refl, sym, ap, ◌∙◌}
use mathlib.Core.List.{List, [], ◌∷◌, ◌++◌, append_assoc}
use native.Mathlib.Omega.{arith}
use native.Mathlib.Numerals.{add-one}
use borrow.Rule.Slice.PartMut.{put_mid}
use lib.ListN.{length, take, drop, set, get_or, length-append}
use lib.Seq.{sets, sets-eq, drop-drop, take-suc, length-take-le}
use Rattle.lists.proofs.Stores.{sets-append, set-behind}
use Rattle.text.specs.Text.{decimal, line_text}
use Rattle.text.specs.Digits.{last_digits, Put}
use Rattle.text.proofs.Counting.{last-length, decimal_digit}

-- no digit is left
pub spell-none : (l : List ℕ) (at i rest : ℕ) → i ≤ 0 → l ≡ sets l at (last_digits i rest)
unfolding last_digits
spell-none l at i rest h = let z : i ≡ 0 = omega arith in rw z

-- ONE DIGIT MORE, and one less is left
pub spell_one : (l : List ℕ) (at i rest : ℕ) → 0 < i → sets (set l (at + (i - 1)) (48 + rest % 10)) at (last_digits (i - 1) (rest / 10)) ≡ sets l at (last_digits i rest)
unfolding last_digits
spell_one l at zero rest h = absurd (omega arith)
spell_one l at (suc i) rest h =
    let less : suc i - 1 ≡ i = omega arith in
    let size : i ≡ length (last_digits i (rest / 10)) = sym (last-length i (rest / 10)) in
    ap (λ k. sets (set l (at + k) (48 + rest % 10)) at (last_digits k (rest / 10))) less
    ∙ ap (λ k. sets (set l (at + k) (48 + rest % 10)) at (last_digits i (rest / 10))) size
    ∙ set-behind l at (last_digits i (rest / 10)) (48 + rest % 10)

-- as many digits as a number has are its text
pub spelled : {l m : List ℕ} {at : ℕ} (n x : ℕ) → last_digits n x ≡ decimal x → m ≡ sets l at (last_digits n x) → Put l at (decimal x) m (at + n)
spelled {l} {m} {at} n x e f = record { stored = f ∙ ap (sets l at) e; place = ap (λ k. at + k) (sym (last-length n x) ∙ ap length e) }

-- ONE TEXT BEHIND ANOTHER
pub put_both : {l m n : List ℕ} {at p q : ℕ} {xs ys : List ℕ} → Put l at xs m p → Put m p ys n q → Put l at (xs ++ ys) n q
put_both {l} {m} {n} {at} {p} {q} {xs} {ys} a b = record {
  stored = b.stored ∙ ap (λ k. sets m k ys) a.place ∙ ap (λ t. sets t (at + length xs) ys) a.stored ∙ sets-append l at xs ys;
  place = omega (arith, length-append xs ys, a.place, b.place);
}

-- a byte behind a text
pub put-end : {l m : List ℕ} {at p : ℕ} {xs : List ℕ} (end : ℕ) → Put l at xs m p → Put l at (xs ++ (end ∷ [])) (set m p end) (p + 1)
put-end end a = put_both a (record { stored = refl; place = refl })

-- A LINE: its last word, and a word in front of others
pub line-end : {l m : List ℕ} {at p : ℕ} (w : List ℕ) → Put l at (w ++ (10 ∷ [])) m p → Put l at (line_text (w ∷ [])) m p
unfolding line_text
line-end w a = a

pub line-more : {l m n : List ℕ} {at p q : ℕ} (w v : List ℕ) (ws : List (List ℕ)) → Put l at (w ++ (32 ∷ [])) m p → Put m p (line_text (v ∷ ws)) n q
    → Put l at (line_text (w ∷ v ∷ ws)) n q
unfolding line_text
line-more w v ws a b = rw append_assoc at (put_both a b)

-- one digit
pub digit-put : (l : List ℕ) (at x : ℕ) → x < 10 → Put l at (decimal x) (set l at (48 + x)) (at + 1)
digit-put l at x h =
    let one = decimal_digit x h in
    record { stored = ap (sets l at) one; place = ap (λ ds. at + length ds) one }

-- bytes copied into a buffer
pub bytes-put : (l bytes copied : List ℕ) (at : ℕ) → at + length bytes ≤ length l → copied ≡ bytes
    → Put l at bytes (put_mid at (at + length bytes - at) l copied) (at + length bytes)
bytes-put l bytes copied at h e =
    let size : at + length bytes - at ≡ length bytes = omega arith in
    record {
      stored =
          ap (λ t. take at l ++ (t ++ drop (at + length bytes - at) (drop at l))) e
          ∙ ap (λ k. take at l ++ (bytes ++ drop k (drop at l))) size
          ∙ ap (λ r. take at l ++ (bytes ++ r)) (drop-drop (length bytes) at l)
          ∙ sym (append_assoc (take at l) bytes (drop (at + length bytes) l)) ∙ sym (sets-eq bytes l at h);
      place = refl;
    }

-- bytes stored one behind the other
pub bytes-more : (l bytes : List ℕ) (at i : ℕ) → i < length bytes → set (sets l at (take i bytes)) (at + i) (get_or bytes i 0) ≡ sets l at (take (i + 1) bytes)
bytes-more l bytes at i h =
    let size : i ≡ length (take i bytes) = sym (length-take-le i bytes (omega arith)) in
    ap (λ k. set (sets l at (take i bytes)) (at + k) (get_or bytes i 0)) size ∙ sets-append l at (take i bytes) (get_or bytes i 0 ∷ [])
    ∙ ap (sets l at) (sym (take-suc bytes i 0 h) ∙ ap (λ k. take k bytes) (sym (add-one i)))
