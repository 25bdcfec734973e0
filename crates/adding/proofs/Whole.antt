-- The text of a whole summary, put again at the front of a buffer. Assumes nothing.
use Prim.Native.Nat.{ℕ, ◌≤◌}
use mathlib.Core.Path.{◌≡◌, sym, ap, ◌∙◌}
use mathlib.Core.List.{List}
use native.Mathlib.Nat.{zero-add}
use lib.ListN.{length, take}
use lib.Seq.{take_at, length-sets}
use Rattle.text.specs.Digits.{Put}
use Rattle.text.proofs.Rows.{rows-front}

pub put-length : {l m : List ℕ} {at p : ℕ} {xs : List ℕ} → Put l at xs m p → length m ≡ length l
put-length {l} {at = at} {xs = xs} a = ap length a.stored ∙ length-sets l at xs

-- what was put at the front stands there, as the slice `..p`
pub put_front : {l m : List ℕ} {p : ℕ} (xs : List ℕ) → Put l 0 xs m p → p ≤ length l → take p m ≡ xs
put_front {l} {m} {p} xs a h =
    ap (take p) (rows-front xs a h) ∙ take_at xs _ p (sym (a.place ∙ zero-add (length xs)))
