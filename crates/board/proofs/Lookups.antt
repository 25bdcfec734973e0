-- Horizon list and busy columns of a board: its live table serves them, and each refusal is the book's. Assumes nothing.
use Prim.Native.Nat.{ℕ, zero, suc, ◌*◌, ◌≤◌, ◌<◌}
use mathlib.Core.Path.{◌≡◌, sym, ap, ◌∙◌}
use mathlib.Core.Bool.{true, false}
use mathlib.Core.List.{List, []}
use native.Mathlib.Omega.{arith}
use lib.Dec.{ltb}
use lib.ListN.{length}
use borrow.Author.Tests.{lt-ltb, le-ltb}
use Rattle.tasks.specs.declared.Task.{Task}
use Rattle.slots.proofs.Soundness.{sound-out}
use Rattle.live.specs.Live.{tasks_of, OnDevice}
use Rattle.live.specs.Kept.{Stands}
use Rattle.live.proofs.Planned.{on-device, same-tasks}
use Rattle.lookups.specs.Lookups.{horizon_list, busy_columns}
use Rattle.lookups.proofs.Bare.{horizon-list-bare, busy-bare}
use Rattle.lookups.proofs.Orderless.{horizon-list-orderless, busy-orderless}
use Rattle.horizon_list.specs.Listing.{written}
use Rattle.board.specs.declared.Board.{Board}
use Rattle.board.specs.Refusals.{refusal, live_of, sound_board, refused_instant, horizon_of, refused_horizon}
use Rattle.board.specs.Calls.{or_refused, listed, listed_buffer, counted}
use Rattle.refusals.specs.Refusals.{instant_tests, horizon_tests}
use Rattle.refusals.proofs.First.{refused-by, passed_over_lem, sound-passes, unsound-refused}
use Rattle.board.proofs.Kept.{SoundBoard}

pub listed-unsound : (b : Board) (buffer : List ℕ) → sound_board b ≡ false
    → (record { number = 1; count = 0; board = b } ≡ listed b (length buffer)) × (buffer ≡ listed_buffer b buffer)
unfolding listed listed_buffer refused_horizon or_refused
listed-unsound b buffer e =
    let z = unsound-refused (sound_board b) (horizon_tests (length (horizon_of b)) (length buffer)) e in
    (rw z, rw z)

pub counted-unsound : (b : Board) (i : ℕ) → sound_board b ≡ false → counted b i ≡ record { number = 1; count = 0; board = b }
unfolding counted refused_instant or_refused
counted-unsound b i e = rw (unsound-refused (sound_board b) (instant_tests b.now i) e)

module _ (b : Board) (count : ℕ) (rows : List ℕ) (o : Stands 64 b.tasks count rows) (good : sound_board b ≡ true) where
  -- the tasks as they are lent
  abbrev ts : List Task
  ts = tasks_of count rows

  -- they lie on the device
  pub lent-on : OnDevice b.device.columns count rows
  lent-on = on-device b.device b.now b.tasks count rows o good

  pub has-columns : 1 ≤ b.device.columns
  has-columns = let s : SoundBoard b = sound-out b.device b.now b.tasks (rw good tt) in s.columns.low

  -- THE HORIZON LIST AND THE BUSY COLUMNS of what is lent are the board's
  horizon-lent : horizon_list b.device.columns b.now ts ≡ horizon_of b
  horizon-lent = horizon-list-orderless (same-tasks b.device b.now b.tasks count rows o good) b.device.columns b.now ∙ horizon-list-bare (live_of b) b.device.columns b.now

  busy-lent : (i : ℕ) → busy_columns b.device.columns ts i ≡ busy_columns b.device.columns (live_of b) i
  busy-lent i = busy-orderless (same-tasks b.device b.now b.tasks count rows o good) b.device.columns i ∙ busy-bare (live_of b) b.device.columns i

  module _ (buffer : List ℕ) {n : ℕ} {after : List ℕ} (e : n ≡ length (horizon_list b.device.columns b.now ts))
      (w : after ≡ written (horizon_list b.device.columns b.now ts) buffer) where
    is-length : n ≡ length (horizon_of b)
    is-length = e ∙ ap length horizon-lent

    is-written : after ≡ written (horizon_of b) buffer
    is-written = w ∙ ap (λ ss. written ss buffer) horizon-lent

    refused : refused_horizon b (length buffer) ≡ refusal (horizon_tests (length (horizon_of b)) (length buffer))
    unfolding refused_horizon
    refused = sound-passes (sound_board b) (horizon_tests (length (horizon_of b)) (length buffer)) good

    -- 17, and every word as it was
    pub listed-short : length buffer < 3 * n → (record { number = 17; count = 0; board = b } ≡ listed b (length buffer)) × (after ≡ listed_buffer b buffer)
    unfolding listed listed_buffer or_refused written
    listed-short h =
        let l : length buffer < 3 * length (horizon_of b) = omega (arith, is-length) in
        let t = lt-ltb (length buffer) (3 * length (horizon_of b)) l in
        let z = refused ∙ refused-by 17 (ltb (length buffer) (3 * length (horizon_of b))) [] t in
        (rw z, rw z (is-written ∙ rw t))

    -- the number of runs, and the list over the front
    pub listed-done : 3 * n ≤ length buffer → (record { number = 0; count = n; board = b } ≡ listed b (length buffer)) × (after ≡ listed_buffer b buffer)
    unfolding listed listed_buffer or_refused written refusal
    listed-done h =
        let l : 3 * length (horizon_of b) ≤ length buffer = omega (arith, is-length) in
        let t = le-ltb (length buffer) (3 * length (horizon_of b)) l in
        let z = refused ∙ passed_over_lem 17 (ltb (length buffer) (3 * length (horizon_of b))) [] t in
        (rw (z, is-length), rw z (is-written ∙ rw t))

  module _ (i : ℕ) {r : ℕ} (e : r ≡ refusal (instant_tests b.now i)) where
    is-refused : refused_instant b i ≡ r
    unfolding refused_instant
    is-refused = sound-passes (sound_board b) (instant_tests b.now i) good ∙ sym e

    -- 11, 12
    pub counted-refused : 0 < r → counted b i ≡ record { number = r; count = 0; board = b }
    counted-refused h = go r is-refused h
      where
        go : (k : ℕ) → refused_instant b i ≡ k → 0 < k → counted b i ≡ record { number = k; count = 0; board = b }
        go zero z l = absurd (omega arith)
        go (suc k) z l = unfold counted or_refused in rw z

    -- the count
    pub counted-done : {n : ℕ} → r ≡ 0 → n ≡ busy_columns b.device.columns ts i → record { number = 0; count = n; board = b } ≡ counted b i
    unfolding counted or_refused
    counted-done {n} z q = let y = is-refused ∙ z in rw (y, q, busy-lent i)
