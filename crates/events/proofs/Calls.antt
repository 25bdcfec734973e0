-- The reader and the writer in plain words: what reads back, what stays, what is told, what is taken. Assumes nothing.
use Prim.Native.Nat.{ℕ, suc, ◌≤◌, ◌<◌}
use mathlib.Core.Path.{◌≡◌, refl, ◌∙◌}
use mathlib.Core.List.{List, [], ◌∷◌}
use native.Mathlib.Omega.{arith}
use lib.ListN.{length, drop, length-append, length-drop}
use lib.Seq.{drop-append_seam}
use Rattle.events.specs.declared.Event.{Event}
use Rattle.events.specs.declared.Event.TheVariants.{NewBoard, Submit, Clock, Withdraw, GridBoard}
use Rattle.std.specs.Prelude.{Ok, Err, Some}
use Rattle.events.specs.Records.{bytes_of, kind_of, body_of, record_of, new_board_in, submit_in, clock_in, withdraw_in, grid_board_in, read_from, written, written_buffer, told_read, told_written}
use Rattle.events.proofs.Found.{Known, new-board, submit, clock, withdraw, grid-board, NoKind, known, whole, short, unknown, Taken, taken, got-taken}
use Rattle.events.proofs.Writing.{by-room, room-answer, room-buffer, short-answer, short-buffer}
use Rattle.events.proofs.RoundTrip.{Fits, read-written}

-- EVERY EVENT has a known kind, and a body of that kind's length
pub has-kind : (v : Event) → (f : List ℕ → Event) × Known (kind_of v) (length (body_of v)) f
unfolding kind_of body_of bytes_of
has-kind (NewBoard W H) = (new_board_in, new-board)
has-kind (Submit n a) = (submit_in, submit)
has-kind (Clock i) = (clock_in, clock)
has-kind (Withdraw n) = (withdraw_in, withdraw)
has-kind (GridBoard W H g) = (grid_board_in, grid-board)

module _ (v : Event) (buffer : List ℕ) where
  -- WHAT WAS WRITTEN into a buffer with room READS BACK
  pub reads-back :
      Fits v → length (record_of v) ≤ length buffer → read_from (written_buffer v buffer) ≡ Ok (Some (v, length (record_of v)))
  reads-back f h = rw (room-buffer v buffer h) (read-written v f (drop (length (record_of v)) buffer))

  -- A REFUSED WRITE leaves the buffer
  pub refused-stays : written v (length buffer) ≡ Err (record {}) → written_buffer v buffer ≡ buffer
  refused-stays e =
      by-room v buffer
      (λ h. let a = room-answer v buffer h in absurd (let z : ◌≡◌ {A = ℕ} 0 1 = cc in omega arith))
      (λ h. short-buffer v buffer h)

  -- BYTES BEYOND THE RECORD stay
  pub beyond-stays : drop (length (record_of v)) (written_buffer v buffer) ≡ drop (length (record_of v)) buffer
  beyond-stays =
      by-room v buffer
      (λ h. rw (room-buffer v buffer h) (drop-append_seam (record_of v) (drop (length (record_of v)) buffer)))
      (λ h. rw (short-buffer v buffer h))

  -- THE BUFFER'S LENGTH stays
  pub length-stays : length (written_buffer v buffer) ≡ length buffer
  length-stays =
      by-room v buffer
      (λ h. rw (room-buffer v buffer h, length-append, length-drop) (omega arith))
      (λ h. rw (short-buffer v buffer h))

  -- "returns its length; too little room gives 17"
  pub told-length :
      length (record_of v) ≤ length buffer
      → told_written (written v (length buffer)) ≡ record { number = 0; length = length (record_of v) }
  unfolding told_written
  told-length h = rw (room-answer v buffer h)

  pub told-17 :
      length buffer < length (record_of v) → told_written (written v (length buffer)) ≡ record { number = 17; length = 0 }
  unfolding told_written
  told-17 h = rw (short-answer v buffer h)

-- "No kind byte left is the end, no refusal, 0 bytes taken"
pub told-end : told_read (read_from []) ≡ record { number = 0; kind = 0; taken = 0 }
unfolding read_from told_read
told-end = refl

-- THE READER JUDGES NO FIELD VALUE: a known kind byte and enough bytes, whatever they are, give an event
pub judges-none :
    {kind n : ℕ} {f : List ℕ → Event} → Known kind n f → (body : List ℕ) → n ≤ length body
    → read_from (kind ∷ body) ≡ Ok (Some (f body, suc n))
judges-none k body h = known k body ∙ whole _ _ body _ h

-- its kind is the kind byte, and the bytes taken are that byte and the body
kind-read : {kind n : ℕ} {f : List ℕ → Event} → Known kind n f → (body : List ℕ) → kind_of (f body) ≡ kind
unfolding kind_of
kind-read new-board body = refl
kind-read submit body = refl
kind-read clock body = refl
kind-read withdraw body = refl
kind-read grid-board body = refl

pub told-0 :
    {kind n : ℕ} {f : List ℕ → Event} → Known kind n f → (body : List ℕ) → n ≤ length body
    → told_read (read_from (kind ∷ body)) ≡ record { number = 0; kind = kind; taken = suc n }
unfolding told_read
told-0 k body h = rw (judges-none k body h, kind-read k body)

-- "With 15 and 16 come the kind byte, no event and 0 bytes taken"
pub told-15 :
    {kind n : ℕ} {f : List ℕ → Event} → Known kind n f → (body : List ℕ) → length body < n
    → told_read (read_from (kind ∷ body)) ≡ record { number = 15; kind = kind; taken = 0 }
unfolding told_read
told-15 k body h = rw (known k, short _ _ body _ h)

pub told-16 :
    (kind : ℕ) → NoKind kind → (body : List ℕ)
    → told_read (read_from (kind ∷ body)) ≡ record { number = 16; kind = kind; taken = 0 }
unfolding told_read
told-16 kind k body = rw (unknown kind k)

-- WHAT WAS TAKEN is there, and is more than nothing: a walk by what is taken ends
pub taken-there : (l : List ℕ) (v : Event) (size : ℕ) → read_from l ≡ Ok (Some (v, size)) → (0 < size) × (size ≤ length l)
taken-there l v size e = of (got-taken l v size e)
  where
    of : {l : List ℕ} {v : Event} {size : ℕ} → Taken l v size → (0 < size) × (size ≤ length l)
    of (taken k h) = (omega arith, omega arith)
