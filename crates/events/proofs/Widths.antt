-- What is read from bytes has the widths of its record, whatever the bytes are. Assumes nothing.
use Prim.Native.Nat.{ℕ, zero, suc, ◌+◌, ◌*◌, ◌^◌, ◌<◌}
use mathlib.Core.Path.{◌≡◌, sym, subst}
use mathlib.Core.List.{List, [], ◌∷◌}
use native.Mathlib.Omega.{arith}
use native.Mathlib.Nat.{pow-suc}
use lib.ListN.{take, drop}
use lib.Seq.{get_or-drop}
use Rattle.events.specs.declared.Event.{Event}
use Rattle.std.specs.Prelude.{Ok, Some}
use Rattle.events.specs.Records.{number_of, field, read_from}
use Rattle.events.proofs.Found.{Known, new-board, submit, clock, withdraw, grid-board, Taken, taken, got-taken}
use Rattle.events.proofs.RoundTrip.{Bytes, Fits, board, submission, instant, name, gridded}

-- bytes further on are bytes
pub bytes_drop : (n : ℕ) (l : List ℕ) → Bytes l → Bytes (drop n l)
bytes_drop n l h i = rw get_or-drop (h (n + i))

-- n bytes give a number of n bytes
number-below : (n : ℕ) (l : List ℕ) → Bytes l → number_of (take n l) < 256 ^ n
unfolding number_of
number-below zero l h = omega arith
number-below (suc n) [] h = subst (λ m. 0 < m) (sym (pow-suc 256 n)) (let r = number-below n [] h in omega arith)
number-below (suc n) (b ∷ l) h =
    subst (λ m. b + 256 * number_of (take n l) < m) (sym (pow-suc 256 n)) (let r = number-below n l (λ i. h (suc i)) in omega (arith, h 0))

field_below : (at n : ℕ) (l : List ℕ) → Bytes l → field at n l < 256 ^ n
field_below at n l h = number-below n (drop at l) (bytes_drop at l h)

kind_fits : {kind n : ℕ} {f : List ℕ → Event} → Known kind n f → (l : List ℕ) → Bytes l → Fits (f l)
kind_fits new-board l h = board (field_below 0 2 l h) (field_below 2 2 l h)
kind_fits submit l h =
    submission (field_below 0 1 l h) (record {
      id = field_below 1 4 l h;
      w = field_below 5 2 l h;
      h = field_below 7 2 l h;
      e = field_below 9 4 l h;
      d = field_below 13 4 l h;
    })
kind_fits clock l h = instant (field_below 0 4 l h)
kind_fits withdraw l h = name (field_below 0 4 l h)
kind_fits grid-board l h = gridded (field_below 0 2 l h) (field_below 2 2 l h) (field_below 4 1 l h)

-- WHAT IS READ FROM BYTES fits its record
pub read_fits : (l : List ℕ) → Bytes l → (v : Event) (size : ℕ) → read_from l ≡ Ok (Some (v, size)) → Fits v
read_fits l h v size e = of h (got-taken l v size e)
  where
    of : {l : List ℕ} {v : Event} {size : ℕ} → Bytes l → Taken l v size → Fits v
    of h (taken k m) = kind_fits k _ (λ i. h (suc i))
