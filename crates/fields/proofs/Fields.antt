-- std's numbers of bytes are the fields': what `from_le_bytes` makes of the bytes at a place, and what `to_le_bytes` makes of a number. Assumes nothing.
use Prim.Native.Nat.{ℕ, ◌/◌, ◌<◌}
use mathlib.Core.Path.{◌≡◌, refl, ap, ◌∙◌}
use mathlib.Core.List.{List, [], ◌∷◌}
use native.Mathlib.Omega.{arith}
use lib.ListN.{length, get_or, take, drop}
use lib.Seq.{drop-cons}
use Rattle.std.specs.Int.{w16, w32, from_le_bytes, to_le_bytes}
use Rattle.fields.specs.Fields.{bytes_of, number_of, field}

-- the field of one byte is that byte
pub field-1 : (at : ℕ) (l : List ℕ) → at < length l → get_or l at 0 ≡ field at 1 l
unfolding number_of
field-1 at l h = rw (drop-cons l at 0) (omega arith)

-- the number that std makes of the first two and four bytes of a list
low-2 : (l : List ℕ) → from_le_bytes w16 (take 2 l) ≡ number_of (take 2 l)
unfolding number_of
low-2 [] = refl
low-2 (a ∷ []) = omega arith
low-2 (a ∷ b ∷ l) = omega arith

low-4 : (l : List ℕ) → from_le_bytes w32 (take 4 l) ≡ number_of (take 4 l)
unfolding number_of
low-4 [] = refl
low-4 (a ∷ []) = omega arith
low-4 (a ∷ b ∷ []) = omega arith
low-4 (a ∷ b ∷ c ∷ []) = omega arith
low-4 (a ∷ b ∷ c ∷ d ∷ l) = omega arith

-- THE FIELDS of two and four bytes as the code reads them: std's number of the bytes at a place
pub field-2 : {bs : List ℕ} {x : ℕ} (at : ℕ) (l : List ℕ) → x ≡ from_le_bytes w16 bs → bs ≡ take 2 (drop at l) → x ≡ field at 2 l
field-2 at l e f = e ∙ ap (from_le_bytes w16) f ∙ low-2 (drop at l)

pub field-4 : {bs : List ℕ} {x : ℕ} (at : ℕ) (l : List ℕ) → x ≡ from_le_bytes w32 bs → bs ≡ take 4 (drop at l) → x ≡ field at 4 l
field-4 at l e f = e ∙ ap (from_le_bytes w32) f ∙ low-4 (drop at l)

-- THE BYTES of a number of two and four bytes as the code stores them
pub bytes-2 : {bs : List ℕ} (x : ℕ) → bs ≡ to_le_bytes w16 x → bs ≡ bytes_of 2 x
unfolding bytes_of
bytes-2 x e = e

same-4 : (x : ℕ) → to_le_bytes w32 x ≡ bytes_of 4 x
unfolding bytes_of
same-4 x =
    let third : x / 65536 ≡ x / 256 / 256 = omega arith in
    let fourth : x / 16777216 ≡ x / 256 / 256 / 256 = omega (arith, third) in
    rw (third, fourth)

pub bytes-4 : {bs : List ℕ} (x : ℕ) → bs ≡ to_le_bytes w32 x → bs ≡ bytes_of 4 x
bytes-4 x e = e ∙ same-4 x
