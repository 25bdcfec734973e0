-- The held bytes: the begin of a record put to their front, and the bytes of a piece put behind them. Assumes nothing.
use Prim.Native.Nat.{ℕ, ◌+◌, ◌-◌, ◌≤◌, min}
use mathlib.Core.Path.{◌≡◌, sym, ap, ap₂, ◌∙◌}
use mathlib.Core.List.{List, ◌++◌}
use native.Mathlib.Nat.{zero-add}
use native.Mathlib.Decide.{dec_le}
use native.Mathlib.Omega.{arith}
use lib.ListN.{length, take, drop, length-append, length-take, length-drop}
use lib.Seq.{sets, sets-eq, take_all, take-append_seam, take-append-add, length-take-le}
use Rattle.lists.specs.Lists.{over_front}

-- as many as there are, and as many as may be
pub take-least : (n : ℕ) (l : List ℕ) → take (min n (length l)) l ≡ take n l
take-least n l = go (dec_le n (length l))
  where
    go : Dec (n ≤ length l) → take (min n (length l)) l ≡ take n l
    go (yes h) = ap (λ m. take m l) (let e : min n (length l) ≡ n = omega arith in e)
    go (no h) = ap (λ m. take m l) (let e : min n (length l) ≡ length l = omega arith in e) ∙ take_all (length l) l (omega arith) ∙ sym (take_all n l (omega arith))

-- the bytes from a place on, at the front
pub front_of_lem : (bytes held after : List ℕ) (at : ℕ) → at ≤ length bytes → length bytes ≤ at + length held
    → after ≡ sets held 0 (take (length bytes - at) (drop at bytes)) → after ≡ over_front (drop at bytes) held
front_of_lem bytes held after at h k e =
    let all = take_all (length bytes - at) (drop at bytes) (omega (arith, length-drop at bytes)) in
    e ∙ ap (sets held 0) all ∙ sets-eq (drop at bytes) held 0 (omega (arith, length-drop at bytes)) ∙ rw zero-add

-- the bytes of a piece behind those that are kept, 18 in all at most
pub behind-kept : (held piece after : List ℕ) (kept more size : ℕ) → length held ≡ 18 → kept ≤ 18 → more ≡ min (18 - kept) (length piece)
    → size ≡ kept + length (take more piece) → after ≡ sets held kept (take more piece)
    → (size ≤ 18) × (take size after ≡ take 18 (take kept held ++ piece))
behind-kept held piece after kept more size l k m s e = (
  omega (arith, long),
  ap₂ take seam (e ∙ sets-eq (take more piece) held kept (omega (arith, long)))
      ∙ take-append_seam (take kept held ++ take more piece) _
      ∙ ap (λ x. take kept held ++ x) (ap (λ n. take n piece) m ∙ take-least (18 - kept) piece)
      ∙ sym (take-append-add (take kept held) piece (18 - kept))
      ∙ ap (λ n. take n (take kept held ++ piece)) eighteen,
)
  where
    front : length (take kept held) ≡ kept
    front = length-take-le kept held (omega arith)

    long : length (take more piece) ≡ more
    long = length-take-le more piece (omega arith)

    seam : size ≡ length (take kept held ++ take more piece)
    seam = omega (arith, length-append (take kept held) (take more piece), front)

    eighteen : length (take kept held) + (18 - kept) ≡ 18
    eighteen = omega (arith, front)

-- those that are held, as code lends them
pub kept-is : (size : ℕ) (held : List ℕ) (kept : ℕ) → length held ≡ 18 → kept ≡ min size 18 → take kept held ≡ take size held
kept-is size held kept l e =
    ap (λ n. take n held) (let y : kept ≡ min size (length held) = omega arith in y) ∙ take-least size held

pub kept-length : (size : ℕ) (held : List ℕ) (kept : ℕ) → length held ≡ 18 → kept ≡ min size 18 → kept ≡ length (take size held)
kept-length size held kept l e = omega (arith, length-take size held)
