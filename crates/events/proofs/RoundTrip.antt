-- What was written reads back as the same event and length, whatever follows it; what was read, written again, gives the same bytes. Assumes nothing.
use Prim.Native.Nat.{ℕ, zero, suc, ◌+◌, ◌*◌, ◌/◌, ◌%◌, ◌^◌, ◌≤◌, ◌<◌}
use mathlib.Core.Path.{◌≡◌, refl, sym, ap, ap₂, ◌∙◌, subst}
use mathlib.Core.List.{List, [], ◌∷◌, ◌++◌}
use native.Mathlib.Omega.{arith}
use native.Mathlib.Nat.{pow-suc}
use lib.ListN.{length, take, drop, get_or}
use lib.Seq.{take-add, drop-drop}
use Rattle.events.specs.declared.Ask.{Ask}
use Rattle.events.specs.declared.Event.{Event}
use Rattle.events.specs.declared.Event.TheVariants.{NewBoard, Submit, Clock, Withdraw, GridBoard}
use Rattle.std.specs.Prelude.{Ok, Some}
use Rattle.events.specs.Records.{bytes_of, number_of, field, kind_of, body_of, record_of, new_board_in, submit_in, clock_in, withdraw_in, grid_board_in, read_from}
use Rattle.events.proofs.Found.{Known, new-board, submit, clock, withdraw, grid-board, whole, Taken, taken, got-taken}

-- a number of n bytes is the number of its n bytes
pub number-bytes : (n x : ℕ) → x < 256 ^ n → number_of (bytes_of n x) ≡ x
unfolding bytes_of number_of
number-bytes zero x h = omega arith
number-bytes (suc n) x h =
    let k : x < 256 ^ n * 256 = subst (λ m. x < m) (pow-suc 256 n) h in
    let r = number-bytes n (x / 256) (omega arith) in
    omega arith

-- every number of the list is a byte
abbrev pub Bytes : List ℕ → Type 0
Bytes l = (i : ℕ) → get_or l i 0 < 256

-- n bytes are the bytes of their number
pub bytes-number : (n : ℕ) (l : List ℕ) → Bytes l → n ≤ length l → bytes_of n (number_of (take n l)) ≡ take n l
unfolding bytes_of number_of
bytes-number zero l h k = refl
bytes-number (suc n) [] h k = absurd (omega arith)
bytes-number (suc n) (b ∷ l) h k =
    let r = bytes-number n l (λ i. h (suc i)) (omega arith) in
    let low : (b + 256 * number_of (take n l)) % 256 ≡ b = omega (arith, h 0) in
    let high : (b + 256 * number_of (take n l)) / 256 ≡ number_of (take n l) = omega (arith, h 0) in
    rw (low, high, r)

field-bytes : (at n : ℕ) (l : List ℕ) → Bytes l → at + n ≤ length l → bytes_of n (field at n l) ≡ take n (drop at l)
field-bytes zero n l h k = bytes-number n l h (omega arith)
field-bytes (suc at) zero [] h k = unfold bytes_of in refl
field-bytes (suc at) (suc n) [] h k = absurd (omega arith)
field-bytes (suc at) n (b ∷ l) h k = field-bytes at n l (λ i. h (suc i)) (omega arith)

-- each field of an event has its record's width
pub record AskFits (a : Ask) : Type 0 where
  pub id : a.id < 256 ^ 4
  pub w : a.w < 256 ^ 2
  pub h : a.h < 256 ^ 2
  pub e : a.e < 256 ^ 4
  pub d : a.d < 256 ^ 4

pub data Fits : Event → Type 0 where
  board : {W H : ℕ} → W < 256 ^ 2 → H < 256 ^ 2 → Fits (NewBoard W H)
  submission : {n : ℕ} {a : Ask} → n < 256 ^ 1 → AskFits a → Fits (Submit n a)
  instant : {i : ℕ} → i < 256 ^ 4 → Fits (Clock i)
  name : {n : ℕ} → n < 256 ^ 4 → Fits (Withdraw n)
  gridded : {W H g : ℕ} → W < 256 ^ 2 → H < 256 ^ 2 → g < 256 ^ 1 → Fits (GridBoard W H g)

-- WHAT WAS WRITTEN READS BACK as the same event and length, whatever follows it
pub read-written : (v : Event) → Fits v → (rest : List ℕ) → read_from (record_of v ++ rest) ≡ Ok (Some (v, length (record_of v)))
unfolding read_from record_of kind_of body_of bytes_of
read-written (NewBoard W H) (board p q) rest =
    whole 1 4 (body_of (NewBoard W H) ++ rest) _ (omega arith)
    ∙ ap₂ (λ x y. Ok (Some (NewBoard x y, 5))) (number-bytes 2 W p) (number-bytes 2 H q)
read-written (Submit n a) (submission p q) rest =
    whole 2 17 (body_of (Submit n a) ++ rest) _ (omega arith)
    ∙ (λ i. Ok (Some (
      Submit (number-bytes 1 n p i) (record {
        id = number-bytes 4 a.id q.id i;
        e = number-bytes 4 a.e q.e i;
        d = number-bytes 4 a.d q.d i;
        w = number-bytes 2 a.w q.w i;
        h = number-bytes 2 a.h q.h i;
      }),
      18,
    )))
read-written (Clock i) (instant p) rest =
    whole 3 4 (body_of (Clock i) ++ rest) _ (omega arith) ∙ ap (λ x. Ok (Some (Clock x, 5))) (number-bytes 4 i p)
read-written (Withdraw n) (name p) rest =
    whole 4 4 (body_of (Withdraw n) ++ rest) _ (omega arith) ∙ ap (λ x. Ok (Some (Withdraw x, 5))) (number-bytes 4 n p)
read-written (GridBoard W H g) (gridded p q r) rest =
    whole 5 5 (body_of (GridBoard W H g) ++ rest) _ (omega arith)
    ∙ (λ i. Ok (Some (GridBoard (number-bytes 2 W p i) (number-bytes 2 H q i) (number-bytes 1 g r i), 6)))

-- two fields beside each other
beside : (at n m : ℕ) (l : List ℕ) → take n (drop at l) ++ take m (drop (at + n) l) ≡ take (n + m) (drop at l)
beside at n m l = sym (take-add n m (drop at l) ∙ ap (λ x. take n (drop at l) ++ take m x) (drop-drop n at l))

-- the body of what a body is, is that body
body-again : (v : List ℕ → Event) (n : ℕ) → Type 0
body-again v n = (l : List ℕ) → Bytes l → n ≤ length l → body_of (v l) ≡ take n l

new-board-again : body-again new_board_in 4
unfolding body-again body_of
new-board-again l h k = rw (field-bytes 0 2 l h (omega arith), field-bytes 2 2 l h (omega arith)) (beside 0 2 2 l)

submit-again : body-again submit_in 17
unfolding body-again body_of
submit-again l h k =
    rw (field-bytes 0 1 l h (omega arith), field-bytes 1 4 l h (omega arith), field-bytes 5 2 l h (omega arith))
    (rw (field-bytes 7 2 l h (omega arith), field-bytes 9 4 l h (omega arith), field-bytes 13 4 l h (omega arith))
    (rw (beside 0 1 4 l, beside 0 5 2 l, beside 0 7 2 l, beside 0 9 4 l) (beside 0 13 4 l)))

clock-again : body-again clock_in 4
unfolding body-again body_of
clock-again l h k = field-bytes 0 4 l h k

withdraw-again : body-again withdraw_in 4
unfolding body-again body_of
withdraw-again l h k = field-bytes 0 4 l h k

grid-board-again : body-again grid_board_in 5
unfolding body-again body_of
grid-board-again l h k =
    rw (field-bytes 0 2 l h (omega arith), field-bytes 2 2 l h (omega arith), field-bytes 4 1 l h (omega arith))
    (rw (beside 0 2 2 l) (beside 0 4 1 l))

-- an event has its kind's byte, and the body it was read from
kind-again : {kind n : ℕ} {f : List ℕ → Event} → Known kind n f → (l : List ℕ) → Bytes l → n ≤ length l → record_of (f l) ≡ kind ∷ take n l
unfolding record_of kind_of body-again
kind-again new-board l h k = ap (λ x. 1 ∷ x) (new-board-again l h k)
kind-again submit l h k = ap (λ x. 2 ∷ x) (submit-again l h k)
kind-again clock l h k = ap (λ x. 3 ∷ x) (clock-again l h k)
kind-again withdraw l h k = ap (λ x. 4 ∷ x) (withdraw-again l h k)
kind-again grid-board l h k = ap (λ x. 5 ∷ x) (grid-board-again l h k)

-- WHAT WAS READ, WRITTEN AGAIN, gives the bytes that were taken
pub written-again : (l : List ℕ) → Bytes l → (v : Event) (size : ℕ) → read_from l ≡ Ok (Some (v, size)) → record_of v ≡ take size l
written-again l h v size e = of h (got-taken l v size e)
  where
    of : {l : List ℕ} {v : Event} {size : ℕ} → Bytes l → Taken l v size → record_of v ≡ take size l
    of h (taken k m) = kind-again k _ (λ i. h (suc i)) m
