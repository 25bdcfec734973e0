-- A request for openings to a sound board: its live table serves the list. Assumes nothing.
use Prim.Native.Nat.{ℕ, zero, suc, ◌+◌, ◌/◌, ◌≤◌, ◌<◌}
use mathlib.Core.Path.{◌≡◌, refl, sym, ap, ◌∙◌}
use mathlib.Core.Bool.{false}
use mathlib.Core.List.{List}
use native.Mathlib.Omega.{arith}
use lib.Dec.{T, leb, leb→le, nltb→le}
use lib.ListN.{length, take}
use Rattle.lists.specs.Lists.{over_front}
use Rattle.lists.proofs.Bools.{and_l, and_r, not-not}
use Rattle.ways.specs.Ways.{pair, after, openings_after}
use Rattle.tasks.specs.declared.Submission.{Submission}
use Rattle.tasks.specs.Numbers.{within, multiple, size_fits, time_fits, last_instant, longest}
use Rattle.tasks.proofs.Laws.{Between, within-out, size-out}
use Rattle.laxity.specs.Laxity.{laxity, most_laxity}
use Rattle.tasks.specs.Tasks.{meets, stamped, booked}
use Rattle.planners.specs.Openings.{ways, pair_numbers}
use Rattle.planners.specs.declared.Window.{Window}
use Rattle.planners.specs.Lent.{Fits, Stepped, wanted}
use Rattle.planners.proofs.Bare.{after-bare}
use Rattle.planners.proofs.Orderless.{after-orderless}
use Rattle.slots.proofs.Soundness.{sound-out}
use Rattle.live.specs.Live.{tasks_of, Masked, Lent}
use Rattle.live.specs.Kept.{Kept}
use Rattle.live.proofs.Planned.{same-tasks, kept-lent}
use Rattle.openings.specs.declared.Filled.{Filled}
use Rattle.openings.specs.Filled.{filled_of}
use Rattle.board.specs.declared.Board.{Board}
use Rattle.board.specs.declared.Opened.{Opened}
use Rattle.board.specs.Refusals.{refusal, live_of, sound_board, refused_openings}
use Rattle.board.specs.Calls.{or_refused, remaining, opened, opened_buffer}
use Rattle.board.proofs.OnGrid.{board-stepped, bare-stepped}
use Rattle.refusals.specs.Refusals.{openings_tests}
use Rattle.refusals.proofs.First.{none-holds, sound-passes, unsound-refused}

-- a well-formed task whose deadline can still be reached, within the laxity of document 02
pub record Reachable (b : Board) (a : Submission) : Type 0 where
  pub w : Between 1 b.device.columns a.w
  pub h : Between 1 b.device.rows a.h
  pub stepped : T (multiple b.device.grid a.w)
  pub e : Between 1 longest a.e
  pub d : a.d ≤ last_instant
  pub reachable : b.now + a.e ≤ a.d
  pub lax : laxity b.now a.e a.d ≤ most_laxity

-- WHAT A REQUEST THAT IS NOT REFUSED BRINGS
pub window : (b : Board) (a : Submission) → refusal (openings_tests b.device b.now a) ≡ 0 → Reachable b a
window b a e =
    let r5 = none-holds 5 _ _ (omega arith) e in
    let r6 = none-holds 6 _ _ (omega arith) r5.1 in
    let r8 = none-holds 8 _ _ (omega arith) r6.1 in
    let r18 = none-holds 18 _ _ (omega arith) r8.1 in
    let five = size-out b.device a.w a.h (not-not (size_fits b.device a.w a.h) r5.0) in
    let six = not-not (time_fits a.e a.d) r6.0 in
    record {
      w = five.width;
      h = five.height;
      stepped = five.stepped;
      e = within-out 1 longest a.e (and_l (within 1 longest a.e) (leb a.d last_instant) six);
      d = leb→le a.d last_instant (and_r (within 1 longest a.e) (leb a.d last_instant) six);
      reachable = nltb→le a.d (b.now + a.e) r8.0;
      lax = nltb→le most_laxity (laxity b.now a.e a.d) r18.0;
    }

module _ (b : Board) (a : Submission) (s c : ℕ) (buffer : List ℕ) where
  -- what is promised of the answer and the buffer
  abbrev pub Promised : Opened → List ℕ → Type 0
  Promised r after = (r ≡ opened b a s c (length buffer)) × (after ≡ opened_buffer b a s c buffer)

  -- A REFUSAL: nothing is counted, nothing is written
  pub refused-opened : (k : ℕ) → refused_openings b a ≡ k → 0 < k → Promised (record { number = k; count = 0; more = false; board = b }) buffer
  unfolding opened opened_buffer or_refused
  refused-opened zero e h = absurd (omega arith)
  refused-opened (suc k) e h = (rw e, rw e)

  pub unsound-opened : sound_board b ≡ false → Promised (record { number = 1; count = 0; more = false; board = b }) buffer
  unsound-opened e = refused-opened 1 ((unfold refused_openings in unsound-refused (sound_board b) (openings_tests b.device b.now a) e)) (omega arith)

  module _ (count : ℕ) (rows : List ℕ) (o : Kept b.device b.now b.tasks count rows) {r : ℕ} (e : r ≡ refusal (openings_tests b.device b.now a)) where
    tests : refused_openings b a ≡ r
    unfolding refused_openings
    tests = sound-passes (sound_board b) (openings_tests b.device b.now a) o.good ∙ sym e

    pub window-refused : 0 < r → Promised (record { number = r; count = 0; more = false; board = b }) buffer
    window-refused h = refused-opened r tests h

    module _ (z : r ≡ 0) where
      -- what is asked
      abbrev q : Window
      q = record { width = b.device.columns; clock = b.now; w = a.w; e = a.e; d = a.d }

      -- what the list asks
      pub may-list : {masks : List ℕ} → Masked count rows masks
          → Lent b.device.columns count rows masks × Fits q × Stepped b.device.grid b.device.columns a.w (tasks_of count rows)
      may-list m =
          let k = window b a (sym e ∙ z) in
          let s = sound-out b.device b.now b.tasks (rw o.good tt) in (
            kept-lent o m,
            record { wide = k.w.low; columns = k.w.high; long = k.e.low; in-time = k.reachable; until = k.d },
            bare-stepped (same-tasks b.device b.now b.tasks count rows o.stands o.good) (board-stepped b a.w s k.stepped),
          )

      -- the list over the live table is the book's
      remaining-lent : openings_after (ways b.device.grid b.device.columns b.now (tasks_of count rows) (wanted q)) (pair s c) ≡ remaining b a s c
      unfolding remaining
      remaining-lent =
          after-orderless (same-tasks b.device b.now b.tasks count rows o.stands o.good) b.device.grid b.device.columns b.now (wanted q) (pair s c)
          ∙ after-bare b.device.grid b.device.columns b.now (live_of b) (wanted q) (pair s c)
          ∙ (unfold openings_after after ways booked stamped meets in refl)

      -- DONE
      pub listed-opened : {f : Filled} {written : List ℕ}
          → f ≡ filled_of (length buffer) (openings_after (ways b.device.grid b.device.columns b.now (tasks_of count rows) (wanted q)) (pair s c))
          → written ≡ over_front (pair_numbers (take (length buffer / 2) (openings_after (ways b.device.grid b.device.columns b.now (tasks_of count rows) (wanted q)) (pair s c)))) buffer
          → Promised (record { number = 0; count = f.count; more = f.more; board = b }) written
      unfolding opened opened_buffer or_refused filled_of
      listed-opened {f} {written} p t =
          let n : refused_openings b a ≡ 0 = tests ∙ z in (
            rw n (ap (λ (g : Filled). record { number = 0; count = g.count; more = g.more; board = b }) (p ∙ ap (filled_of (length buffer)) remaining-lent)),
            rw n (t ∙ ap (λ ps. over_front (pair_numbers (take (length buffer / 2) ps)) buffer) remaining-lent),
          )
