-- A sound board stays sound under every call; a refused call hands back the same board; clocks one after the other. Assumes nothing.
use Prim.Native.Nat.{ℕ, zero, suc, ◌+◌, ◌≤◌, ◌<◌}
use mathlib.Core.Path.{◌≡◌, refl, sym, ap, ◌∙◌}
use mathlib.Core.Bool.{false, not, ◌&&◌}
use mathlib.Core.List.{[]}
use mathlib.Core.Option.{Option, none, some}
use native.Mathlib.Omega.{arith}
use lib.Dec.{T, leb, eqb, leb→le, nltb→le, nleb→lt, eqb_refl, T_not}
use borrow.Author.Tests.{le-ltb}
use lib.ListN.{length, get_or, replicate}
use Rattle.lists.specs.Lists.{◌∈◌, keep, all?, pairwise?}
use Rattle.lists.proofs.Bools.{and_l, and_r, and_i, not-not, is_true}
use Rattle.lists.proofs.Members.{in-keep, none_pass}
use Rattle.tasks.specs.declared.Device.{Device}
use Rattle.tasks.specs.declared.Task.{Task}
use Rattle.tasks.specs.declared.Submission.{Submission}
use Rattle.tasks.specs.Numbers.{within, multiple, device, device_fits, size_fits, time_fits, largest_id, last_instant, longest, last_planner}
use Rattle.laxity.specs.Laxity.{laxity, most_laxity}
use Rattle.tasks.specs.Tasks.{live, stamped, free_slot, zeros, booked}
use Rattle.tasks.proofs.Laws.{Between, within-out, size-out}
use Rattle.planners.specs.Openings.{Place}
use Rattle.planners.specs.Planners.{planned}
use Rattle.planners.proofs.Openings.{Opening}
use Rattle.planners.proofs.Planners.{planned-opens}
use Rattle.slots.specs.Slots.{slot_sound, sound, named, known, without_named}
use Rattle.slots.proofs.Soundness.{SoundTask, Together, Sound, sound-out, sound-in}
use Rattle.slots.proofs.Ageing.{stamped-phase, aged-sound, aged-now, aged-twice}
use Rattle.slots.proofs.Booking.{booked-sound, withdrawn-sound}
use Rattle.board.specs.declared.Board.{Board}
use Rattle.board.specs.declared.Answer.TheVariants.{Rejected, Refused}
use Rattle.board.specs.declared.Submitted.{Submitted}
use Rattle.board.specs.declared.Clocked.{Clocked}
use Rattle.board.specs.declared.Withdrawn.{Withdrawn}
use Rattle.board.specs.Refusals.{refusal, live_of, sound_board, refused_submit, refused_instant, refused_withdraw, refused_create}
use Rattle.board.specs.Calls.{or_refused, with_tasks, fresh_board, zero_board, created, with_task, taken, answered, submitted, board_at, clocked, withdrawn}
use Rattle.refusals.specs.Refusals.{instant_tests}
use Rattle.refusals.proofs.First.{none-holds, none_left, passed_over_lem, sound-passes}

-- a sound board, clause by clause
abbrev pub SoundBoard : Board → Type 0
SoundBoard b = Sound b.device b.now b.tasks

-- what stands in slot i
abbrev pub slot_at : Board → ℕ → Task
slot_at b i = get_or b.tasks i free_slot

-- WHAT A SUBMISSION THAT IS NOT REFUSED BRINGS
pub record Accepted (b : Board) (n : ℕ) (a : Submission) : Type 0 where
  pub sound : SoundBoard b
  pub planner : n ≤ last_planner
  pub id : 1 ≤ a.id
  pub w : Between 1 b.device.columns a.w
  pub h : Between 1 b.device.rows a.h
  pub stepped : T (multiple b.device.grid a.w)
  pub e : Between 1 longest a.e
  pub d : a.d ≤ last_instant
  pub new : (l : Task) → l ∈ b.tasks → T (live l) → l.id ≡ a.id → ⊥
  pub reachable : b.now + a.e ≤ a.d
  pub lax : laxity b.now a.e a.d ≤ most_laxity
  pub room : length (live_of b) < 64

pub submit-accepted : (b : Board) (n : ℕ) (a : Submission) → refused_submit b n a ≡ 0 → Accepted b n a
unfolding refused_submit known named
submit-accepted b n a e =
    let r1 = none-holds 1 _ _ (omega arith) e in
    let r3 = none-holds 3 _ _ (omega arith) r1.1 in
    let r4 = none-holds 4 _ _ (omega arith) r3.1 in
    let r5 = none-holds 5 _ _ (omega arith) r4.1 in
    let r6 = none-holds 6 _ _ (omega arith) r5.1 in
    let r7 = none-holds 7 _ _ (omega arith) r6.1 in
    let r8 = none-holds 8 _ _ (omega arith) r7.1 in
    let r18 = none-holds 18 _ _ (omega arith) r8.1 in
    let r9 = none-holds 9 _ _ (omega arith) r18.1 in
    let five = size-out b.device a.w a.h (not-not (size_fits b.device a.w a.h) r5.0) in
    let six = not-not (time_fits a.e a.d) r6.0 in
    record {
      sound = sound-out b.device b.now b.tasks (not-not (sound_board b) r1.0);
      planner = nltb→le last_planner n r3.0;
      id = positive r4.0;
      w = five.width;
      h = five.height;
      stepped = five.stepped;
      e = within-out 1 longest a.e (and_l (within 1 longest a.e) (leb a.d last_instant) six);
      d = leb→le a.d last_instant (and_r (within 1 longest a.e) (leb a.d last_instant) six);
      new = λ l m t q.
          T_not (live l && eqb l.id a.id) (none_pass (λ k. live k && eqb k.id a.id) b.tasks r7.0 m)
          (and_i (live l) (eqb l.id a.id) t (rw q (eqb_refl a.id)));
      reachable = nltb→le a.d (b.now + a.e) r8.0;
      lax = nltb→le most_laxity (laxity b.now a.e a.d) r18.0;
      room = nleb→lt 64 (length (live_of b)) r9.0;
    }
  where
    positive : T (not (eqb a.id 0)) → 1 ≤ a.id
    positive h = let k : a.id ≡ 0 → ⊥ = λ z. T_not (eqb a.id 0) h (rw z tt) in omega arith

-- the record as booked is a sound task, apart from every live one
module _ (b : Board) (n : ℕ) (a : Submission) (big : a.id ≤ largest_id) (k : Accepted b n a) (p : Place) (o : Opening b.device.grid b.device.columns b.now (live_of b) a p) where
  new-task : SoundTask b.device b.now (booked b.now a p.start p.place)
  unfolding booked stamped
  new-task =
      let l : b.now < p.start + a.e = omega (arith, o.from-now, k.e.low) in
      record {
        id = record { low = k.id; high = big };
        w = k.w;
        h = k.h;
        e = k.e;
        d = k.d;
        from_one = o.from_one;
        on-device = o.on-device;
        stepped = k.stepped;
        on-grid = o.on-grid;
        in-time = o.in-time;
        unfinished = l;
        phase = unfold stamped in stamped-phase b.now _ l;
      }

  new_apart : (l : Task) → l ∈ b.tasks → T (live l) → Together (booked b.now a p.start p.place) l
  unfolding booked stamped
  new_apart l m t = record { ids = λ e. k.new l m t (sym e); apart = λ s. o.apart l (in-keep live m t) s.column s.tick }

-- A SOUND BOARD STAYS SOUND: submission
pub submitted-sound : (b : Board) (n : ℕ) (a : Submission) → a.id ≤ largest_id → SoundBoard b → SoundBoard (submitted b n a).board
unfolding submitted answered or_refused taken with_task
submitted-sound b n a big s = go (refused_submit b n a) refl
  where
    place : (k : Accepted b n a) (r : Option Place) → planned b.device.grid b.device.columns b.now (live_of b) a n ≡ r → SoundBoard (taken b a r).board
    place k none e = s
    place k (some p) e =
        let o = planned-opens b.device.grid b.device.columns b.now (live_of b) a k.reachable n e in
        booked-sound b.device b.now b.tasks s (booked b.now a p.start p.place) (new-task b n a big k p o) (new_apart b n a big k p o)

    go : (r : ℕ) → refused_submit b n a ≡ r
        → SoundBoard (or_refused r (λ x. record { answer = Refused x; board = b }) (taken b a (planned b.device.grid b.device.columns b.now (live_of b) a n))).board
    go zero e = place (submit-accepted b n a e) (planned b.device.grid b.device.columns b.now (live_of b) a n) refl
    go (suc r) e = s

-- clock
pub record Passable (b : Board) (i : ℕ) : Type 0 where
  pub sound : SoundBoard b
  pub from-now : b.now ≤ i
  pub until : i ≤ last_instant

pub instant-passable : (b : Board) (i : ℕ) → refused_instant b i ≡ 0 → Passable b i
unfolding refused_instant
instant-passable b i e =
    let r1 = none-holds 1 _ _ (omega arith) e in
    let r11 = none-holds 11 _ _ (omega arith) r1.1 in
    let r12 = none-holds 12 _ _ (omega arith) r11.1 in
    record {
      sound = sound-out b.device b.now b.tasks (not-not (sound_board b) r1.0);
      from-now = nltb→le i b.now r11.0;
      until = nltb→le last_instant i r12.0;
    }

pub clocked-stays-sound : (b : Board) (i : ℕ) → SoundBoard b → SoundBoard (clocked b i).board
unfolding clocked or_refused board_at
clocked-stays-sound b i s = go (refused_instant b i) refl
  where
    after : ℕ → Clocked
    after r = or_refused r (λ x. record { number = x; board = b }) (record { number = 0; board = board_at b i })

    go : (r : ℕ) → refused_instant b i ≡ r → SoundBoard (after r).board
    go zero e = let k = instant-passable b i e in aged-sound b.device b.now i b.tasks s k.from-now k.until
    go (suc r) e = s

-- withdrawal
pub withdrawn-stays-sound : (b : Board) (n : ℕ) → SoundBoard b → SoundBoard (withdrawn b n).board
unfolding withdrawn or_refused
withdrawn-stays-sound b n s = go (refused_withdraw b n)
  where
    after : ℕ → Withdrawn
    after r = or_refused r (λ x. record { number = x; board = b }) (record { number = 0; board = with_tasks b (without_named n b.tasks) })

    go : (r : ℕ) → SoundBoard (after r).board
    go zero = withdrawn-sound b.device b.now b.tasks s n
    go (suc r) = s

-- A REFUSED CALL HANDS BACK THE SAME BOARD
pub refused-submit-same : (b : Board) (n : ℕ) (a : Submission) (k : ℕ) → refused_submit b n a ≡ suc k → submitted b n a ≡ record { answer = Refused (suc k); board = b }
unfolding submitted or_refused
refused-submit-same b n a k e = rw e

pub refused-clock-same : (b : Board) (i k : ℕ) → refused_instant b i ≡ suc k → clocked b i ≡ record { number = suc k; board = b }
unfolding clocked or_refused
refused-clock-same b i k e = rw e

pub refused-withdraw-same : (b : Board) (n k : ℕ) → refused_withdraw b n ≡ suc k → withdrawn b n ≡ record { number = suc k; board = b }
unfolding withdrawn or_refused
refused-withdraw-same b n k e = rw e

-- a rejection too
pub rejected-same : (b : Board) (n : ℕ) (a : Submission) → (submitted b n a).answer ≡ Rejected → (submitted b n a).board ≡ b
unfolding submitted answered or_refused taken
rejected-same b n a e = go (refused_submit b n a) (planned b.device.grid b.device.columns b.now (live_of b) a n) e
  where
    after : ℕ → Option Place → Submitted
    after r o = or_refused r (λ x. record { answer = Refused x; board = b }) (taken b a o)

    go : (r : ℕ) (o : Option Place) → (after r o).answer ≡ Rejected → (after r o).board ≡ b
    go zero none q = refl
    go zero (some p) q = absurd (let z : ◌≡◌ {A = ℕ} 0 1 = cc in omega arith)
    go (suc r) o q = refl

-- an instant from now on, and not too late, is not refused
pub instant-allowed : (b : Board) (i : ℕ) → SoundBoard b → b.now ≤ i → i ≤ last_instant → refused_instant b i ≡ 0
unfolding refused_instant
instant-allowed b i s l h =
    sound-passes (sound_board b) (instant_tests b.now i) (is_true (sound_board b) (sound-in b.device b.now b.tasks s))
    ∙ passed_over_lem 11 _ _ (le-ltb i b.now l) ∙ passed_over_lem 12 _ _ (le-ltb last_instant i h) ∙ none_left

-- the clock of a sound board, to an instant that is not refused
pub clocked-done : (b : Board) (i : ℕ) → SoundBoard b → b.now ≤ i → i ≤ last_instant → clocked b i ≡ record { number = 0; board = board_at b i }
unfolding clocked or_refused
clocked-done b i s l h = rw (instant-allowed b i s l h)

-- CLOCK TO NOW CHANGES NOTHING
pub clock-to-now : (b : Board) → SoundBoard b → clocked b b.now ≡ record { number = 0; board = b }
unfolding board_at
clock-to-now b s =
    clocked-done b b.now s (omega arith) s.clock
    ∙ ap (λ ks. record { number = 0; board = with_tasks b ks }) (aged-now b.device b.now b.tasks s)

-- TWO CLOCKS ONE AFTER THE OTHER ARE THE LATER ONE
pub clock-twice : (b : Board) (i j : ℕ) → SoundBoard b → b.now ≤ i → i ≤ j → j ≤ last_instant → clocked (clocked b i).board j ≡ clocked b j
unfolding board_at
clock-twice b i j s l m h =
    let e : (clocked b i).board ≡ board_at b i = ap (λ r. r.board) (clocked-done b i s l (omega arith)) in
    let t : SoundBoard (board_at b i) = aged-sound b.device b.now i b.tasks s l (omega arith) in
    ap (λ x. clocked x j) e ∙ clocked-done (board_at b i) j t m h
    ∙ ap (λ ks. record { number = 0; board = record { tasks = ks; now = j; device = b.device } }) (aged-twice i j b.tasks m)
    ∙ sym (clocked-done b j s (omega arith) h)

-- A NEW BOARD IS SOUND where its size and grid are in range; otherwise it is the board of zeros, which is not
pub created-sound : (W H g : ℕ) → T (device_fits (device W H g)) → SoundBoard (created W H g).board
unfolding created refused_create or_refused fresh_board sound all? slot_sound zeros pairwise? keep
created-sound W H g t = rw (passed_over_lem 2 (not (device_fits D)) [] (ap not (is_true (device_fits D) t))) (unfold refusal in fresh)
  where
    D : Device
    D = device W H g

    fresh : Sound D 0 (replicate 64 free_slot)
    fresh = sound-out D 0 (replicate 64 free_slot) (rw (is_true (device_fits D) t) tt)

pub zero-board : zero_board ≡ record { tasks = replicate 64 free_slot; now = 0; device = device 0 0 0 }
unfolding fresh_board
zero-board = refl

pub zero-unsound : sound_board zero_board ≡ false
unfolding fresh_board sound
zero-unsound = refl
