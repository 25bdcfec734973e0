-- Bytes as a message shows them, one behind the other, and a text at the front of a buffer. Assumes nothing.
use Prim.Native.Nat.{ℕ, zero, suc, ◌+◌, ◌≤◌, ◌<◌}
use mathlib.Core.Path.{◌≡◌, refl, sym, ap, ◌∙◌}
use mathlib.Core.Bool.{true, false}
use mathlib.Core.List.{List, [], ◌∷◌, map, append_assoc}
use native.Mathlib.Omega.{arith}
use native.Mathlib.Nat.{zero-add}
use borrow.Author.Tests.{lt-ltb, le-ltb}
use lib.ListN.{length, take, set, get_or, length-map}
use lib.Seq.{sets, take_all}
use Rattle.lists.specs.Lists.{over_front}
use Rattle.text.specs.Text.{ascii}
use Rattle.text.specs.Digits.{Put}
use Rattle.text.proofs.Spelling.{put_both, bytes-more}
use Rattle.text.proofs.Rows.{rows-front}
use Rattle.tokens.specs.Tokens.{empty}
use Rattle.recorder.specs.Recorder.{shown_byte, shown_word, quoted}

shown-at : (bytes : List ℕ) (i : ℕ) → i < length bytes → shown_byte (get_or bytes i 0) ≡ get_or (map shown_byte bytes) i 0
shown-at [] i h = absurd (omega arith)
shown-at (b ∷ bs) zero h = refl
shown-at (b ∷ bs) (suc i) h = shown-at bs i (omega arith)

-- one byte more
pub shown-more : (l bytes : List ℕ) (at i : ℕ) → i < length bytes
    → set (sets l at (take i (map shown_byte bytes))) (at + i) (shown_byte (get_or bytes i 0)) ≡ sets l at (take (i + 1) (map shown_byte bytes))
shown-more l bytes at i h =
    ap (set (sets l at (take i (map shown_byte bytes))) (at + i)) (shown-at bytes i h) ∙ bytes-more l (map shown_byte bytes) at i (omega (arith, length-map bytes shown_byte))

-- all of them
pub shown-all : {m : List ℕ} {i : ℕ} (l bytes : List ℕ) (at : ℕ) → i ≡ length bytes → m ≡ sets l at (take i (map shown_byte bytes)) → Put l at (map shown_byte bytes) m (at + i)
shown-all {m} {i} l bytes at e f =
    let size : length (map shown_byte bytes) ≡ i = length-map bytes shown_byte ∙ sym e in
    record { stored = f ∙ ap (sets l at) (take_all i (map shown_byte bytes) (omega arith)); place = ap (λ k. at + k) (sym size) }

-- THE WORD IN QUOTES: none, a short one, a long one
pub quoted-none : {l m : List ℕ} {at p : ℕ} (w : List ℕ) → empty w ≡ true → Put l at (ascii "the line ends") m p → Put l at (quoted w) m p
unfolding quoted
quoted-none w e a = rw e a

pub quoted-short : {l m n k : List ℕ} {at p q s : ℕ} (w : List ℕ) → empty w ≡ false → length w ≤ 40
    → Put l at (ascii "'") m p → Put m p (map shown_byte w) n q → Put n q (ascii "'") k s → Put l at (quoted w) k s
unfolding quoted shown_word
quoted-short w e h a b c = rw (e, le-ltb 40 (length w) h) (put_both a (put_both b c))

pub quoted-long : {l m n k : List ℕ} {at p q s : ℕ} (w : List ℕ) → empty w ≡ false → 40 < length w
    → Put l at (ascii "'") m p → Put m p (map shown_byte (take 40 w)) n q → Put n q (ascii "..'") k s → Put l at (quoted w) k s
unfolding quoted shown_word
quoted-long w e h a b c = rw (e, lt-ltb 40 (length w) h, append_assoc (map shown_byte (take 40 w)) (ascii "..") (ascii "'")) (put_both a (put_both b c))

-- a text at the front of a buffer
pub at_front : {l m : List ℕ} {p : ℕ} (xs : List ℕ) → Put l 0 xs m p → p ≤ length l → (p ≡ length xs) × (m ≡ over_front xs l)
at_front xs a h = (a.place ∙ zero-add (length xs), rows-front xs a h)
