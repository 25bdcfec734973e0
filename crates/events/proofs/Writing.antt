-- What writing gives, with room and without, and that stores from the front on leave it. Assumes nothing.
use Prim.Native.Nat.{ℕ, ◌≤◌, ◌<◌}
use mathlib.Core.Path.{◌≡◌, refl, sym, ◌∙◌}
use mathlib.Core.Bool.{Bool, true, false}
use mathlib.Core.List.{List, ◌∷◌}
use native.Mathlib.Nat.{zero-add}
use native.Mathlib.Omega.{arith}
use lib.Dec.{leb}
use lib.ListN.{length}
use lib.Seq.{sets, sets-eq}
use borrow.Author.Tests.{le-leb, lt-leb, leb-true, leb-false}
use Rattle.std.specs.Prelude.{if◌then◌else◌, Ok, Err}
use Rattle.lists.specs.Lists.{over_front}
use Rattle.events.specs.declared.Event.{Event}
use Rattle.events.specs.declared.Event.TheVariants.{Clock, Withdraw}
use Rattle.events.specs.Records.{bytes_of, kind_of, body_of, record_of, written, written_buffer}

module _ (v : Event) (buffer : List ℕ) where
  abbrev pub Room : Type 0
  Room = length (record_of v) ≤ length buffer

  abbrev pub Short : Type 0
  Short = length buffer < length (record_of v)

  pub by-room : {A : Type 0} → (Room → A) → (Short → A) → A
  by-room {A} p q = go (leb (length (record_of v)) (length buffer)) refl
    where
      go : (b : Bool) → leb (length (record_of v)) (length buffer) ≡ b → A
      go true e = p (leb-true _ _ e)
      go false e = q (leb-false _ _ e)

  -- with room: the record's length, and the record over the front
  pub room-answer : Room → written v (length buffer) ≡ Ok (length (record_of v))
  unfolding written
  room-answer h = rw (le-leb _ _ h)

  pub room-buffer : Room → written_buffer v buffer ≡ over_front (record_of v) buffer
  unfolding written_buffer
  room-buffer h = rw (le-leb _ _ h)

  -- without: 17, and every byte as it was
  pub short-answer : Short → written v (length buffer) ≡ Err (record {})
  unfolding written
  short-answer h = rw (lt-leb _ _ h)

  pub short-buffer : Short → written_buffer v buffer ≡ buffer
  unfolding written_buffer
  short-buffer h = rw (lt-leb _ _ h)

  -- the two as the code meets them, at a record of n bytes that its stores leave from the front on
  pub done :
      (n : ℕ) (after : List ℕ) → length (record_of v) ≡ n → n ≤ length buffer → after ≡ sets buffer 0 (record_of v)
      → (Ok n ≡ written v (length buffer)) × (after ≡ written_buffer v buffer)
  done n after e h s =
      let r : Room = omega arith in
      (rw (room-answer r, e), rw (room-buffer r, s) (sets-eq (record_of v) buffer 0 (omega arith) ∙ rw zero-add))

  pub refused :
      (n : ℕ) → length (record_of v) ≡ n → length buffer < n
      → (Err (record {}) ≡ written v (length buffer)) × (buffer ≡ written_buffer v buffer)
  refused n e h =
      let s : Short = omega arith in
      (sym (short-answer s), sym (short-buffer s))

-- a record of a kind byte and one number, as the code writes it
pub number-written :
    (v : Event) (kind n : ℕ) (buffer : List ℕ) → record_of v ≡ kind ∷ bytes_of 4 n
    → ((if leb 5 (length buffer) then Ok 5 else Err (record {})) ≡ written v (length buffer))
    × ((if leb 5 (length buffer) then over_front (kind ∷ bytes_of 4 n) buffer else buffer) ≡ written_buffer v buffer)
unfolding written written_buffer bytes_of
number-written v kind n buffer e = (rw e, rw e)

module _ (n : ℕ) where
  pub clock-record : record_of (Clock n) ≡ 3 ∷ bytes_of 4 n
  unfolding record_of kind_of body_of
  clock-record = refl

  pub withdraw-record : record_of (Withdraw n) ≡ 4 ∷ bytes_of 4 n
  unfolding record_of kind_of body_of
  withdraw-record = refl
