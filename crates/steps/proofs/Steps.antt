-- What each event does to the board inside a run is what its call does in the book. Assumes nothing.
use Prim.Native.Nat.{ℕ, zero, suc, ◌+◌, ◌-◌, ◌≤◌, ◌<◌}
use mathlib.Core.Path.{◌≡◌, refl, sym, ap, ◌∙◌, subst}
use mathlib.Core.Bool.{Bool, true, false, not, cond, ◌&&◌, ◌||◌}
use mathlib.Core.List.{List, [], ◌∷◌, map}
use native.Mathlib.Omega.{arith}
use native.Mathlib.Decide.{dec_lt}
use borrow.Author.Tests.{lt-ltb, le-ltb, le-leb, lt-leb, eqb-true}
use lib.Dec.{T, leb, ltb, eqb, nltb→le, eqb→eq, not_T}
use lib.ListN.{get_or, set, replicate, length-set, length-replicate, get_or-replicate}
use Rattle.lists.specs.Lists.{some?, index_of, range}
use Rattle.lists.proofs.Bools.{is_true, is_false, and_i, and_l, and_r}
use Rattle.lists.proofs.Append.{index_is, index-passes}
use Rattle.lists.proofs.Members.{get_or-in, pass-none, pass-some, range-in, in-range}
use Rattle.lists.proofs.Order.{sorted-at}
use Rattle.tasks.specs.declared.Device.{Device}
use Rattle.tasks.specs.declared.Task.{Task}
use Rattle.tasks.specs.declared.Submission.{Submission}
use Rattle.tasks.specs.Numbers.{device, device_fits, largest_id, last_instant}
use Rattle.tasks.specs.Tasks.{live, waiting_phase, phase_at, stamped, free_slot, booked}
use Rattle.words.specs.Words.{bit, Least}
use Rattle.words.proofs.Digits.{bit-of-zero}
use Rattle.slots.specs.Slots.{sound, named, known, begun_named, aged_to, all_aged_to}
use Rattle.slots.proofs.Soundness.{InPhase, running, waiting, SoundTask, Together, Sound, sound-out, sound-in}
use Rattle.slots.proofs.Ageing.{aged-free-slot, aged-length, aged-stands, stamped-live, aged-sound, aged-now, aged-twice}
use Rattle.live.specs.Live.{Masked, from_at, id_at, slot_at, Falling, After}
use Rattle.live.specs.Kept.{Kept, InUse, Stands, Closed, Inserted, lowest_free}
use Rattle.live.proofs.Standing.{room, inserted-stands, inserted-falling, inserted-masked, removed-stands, removed-falling, removed-masked, after-stands, after-falling, after-masked, no-tasks}
use Rattle.live.proofs.InUse.{use-in, in-use-more, in-use-less, in-use-after}
use Rattle.live.proofs.Planned.{start-at, id-at, known_same}
use Rattle.std.proofs.Common.{Option, None, Some}
use Rattle.std.specs.Option.{is_some}
use Rattle.survey.specs.declared.Findings.{Findings}
use Rattle.board.specs.declared.Board.{Board}
use Rattle.board.specs.declared.Answer.{Answer}
use Rattle.board.specs.declared.Answer.TheVariants.{Rejected, Placed, Refused}
use Rattle.board.specs.Answers.{bare, told}
use Rattle.refusals.specs.Refusals.{instant_tests, withdraw_tests}
use Rattle.board.specs.Refusals.{refusal, sound_board, refused_create}
use Rattle.board.specs.Calls.{or_refused, fresh_board, zero_board, created, submitted, board_at, withdrawn}
use Rattle.board.specs.Standing.{board_of}
use Rattle.refusals.proofs.First.{refused-by, passed_over_lem, none-holds}
use Rattle.board.proofs.Kept.{SoundBoard, submitted-sound, clocked-done, withdrawn-stays-sound, created-sound, zero-unsound}
use Rattle.board.proofs.Tested.{Asked, asked-nowhere, clocked-unsound, clocked-refused, slot-begun, withdrawn-unsound, withdrawn-refused, withdrawn-freed}
use Rattle.board.proofs.Submit.{submit-unsound}
use Rattle.board.proofs.Placed.{BooksAt, placed-books, unplaced-same}
use Rattle.events.specs.declared.Event.TheVariants.{Clock, Withdraw}
use Rattle.steps.specs.declared.Brief.{Brief}
use Rattle.steps.specs.declared.Change.{Change}
use Rattle.steps.specs.declared.Change.TheVariants.{Nothing, Booked, Freed, Cleared}
use Rattle.steps.specs.declared.Done.{Done}
use Rattle.steps.specs.Outcomes.{with_board, Outcome, board_outcome, submit_outcome, outcome}
use Rattle.steps.specs.Standing.{state_of, Keeps, Follows, as_booked, changed}

-- a number without a place
abbrev pub numbered : ℕ → Brief → Change → Done
numbered n d x = record { number = n; column = 0; start = 0; finish = 0; brief = d; change = x }

-- and a place
abbrev placed_at : ℕ → ℕ → ℕ → Brief → Change → Done
placed_at c t e d x = record { number = 0; column = c; start = t; finish = e; brief = d; change = x }

-- a sound board with other tasks
abbrev pub with_live : Brief → ℕ → ℕ → ℕ → Brief
with_live d clock count used = record { clock = clock; device = d.device; found = Some (record { count = count; used = used }) }

-- what was found is what is found
same_found : (P : Findings → Type 0) {v w : Findings} → P v → ◌≡◌ {A = Option Findings} (Some v) (Some w) → P w
same_found P {v} {w} p e = let q : v ≡ w = cc in subst P q p

-- a record into a slot, before or after the slots are brought up to the clock
aged-set : (i : ℕ) (ks : List Task) (n : ℕ) (k : Task) → all_aged_to i (set ks n k) ≡ set (all_aged_to i ks) n (aged_to i k)
unfolding all_aged_to
aged-set i ks n k = map-set (aged_to i) ks n k
  where
    map-set : (g : Task → Task) (l : List Task) (m : ℕ) (x : Task) → map g (set l m x) ≡ set (map g l) m (g x)
    map-set g [] m x = refl
    map-set g (y ∷ l) zero x = refl
    map-set g (y ∷ l) (suc m) x = ap (λ r. g y ∷ r) (map-set g l m x)

pub told-rejected : told Rejected ≡ bare 10
unfolding told
told-rejected = refl

pub told-refused : (n : ℕ) → told (Refused n) ≡ bare n
unfolding told
told-refused n = refl

-- a new board, and the board of zeros
pub created-done : (W H g : ℕ) → device_fits (device W H g) ≡ true → created W H g ≡ record { number = 0; board = fresh_board (device W H g) }
unfolding created refused_create or_refused
created-done W H g e = rw (passed_over_lem 2 (not (device_fits (device W H g))) [] (ap not e)) (unfold refusal in refl)

pub created-not : (W H g : ℕ) → device_fits (device W H g) ≡ false → created W H g ≡ record { number = 2; board = zero_board }
unfolding created refused_create or_refused
created-not W H g e = rw (refused-by 2 (not (device_fits (device W H g))) [] (ap not e))

module _ (d : Brief) (ks : List Task) {rows masks : List ℕ} (k : Keeps d ks rows masks) where
  abbrev b : Board
  b = board_of ks d.clock d.device

  -- NOTHING BUT A NUMBER
  pub step_same : (o : Outcome) (n : ℕ) → o ≡ record { answer = bare n; state = state_of ks d } → Follows d ks o (numbered n d Nothing) rows masks
  unfolding changed
  step_same o n e =
      subst (λ x. Follows d ks x (numbered n d Nothing) rows masks) (sym e)
      (record { number = refl; column = refl; start = refl; finish = refl; clock = refl; device = refl; keeps = k; inside = omega arith; records = λ tasks z q. q })

  -- 1
  module _ (u : d.found ≡ None) where
    unsound : sound_board b ≡ false
    unsound = k.good ∙ ap is_some u

    pub unsound-submit : (n : ℕ) (a : Submission) → submit_outcome (state_of ks d) n a ≡ record { answer = bare 1; state = state_of ks d }
    unfolding told
    unsound-submit n a = ap (λ x. record { answer = told x.answer; state = with_board (state_of ks d) x.board }) (submit-unsound b n a unsound)

    pub unsound-clock : (i : ℕ) → outcome (state_of ks d) (Clock i) ≡ record { answer = bare 1; state = state_of ks d }
    unfolding outcome
    unsound-clock i = ap (λ x. record { answer = bare x.number; state = with_board (state_of ks d) x.board }) (clocked-unsound b i unsound)

    pub unsound-withdraw : (n : ℕ) → outcome (state_of ks d) (Withdraw n) ≡ record { answer = bare 1; state = state_of ks d }
    unfolding outcome
    unsound-withdraw n = ap (λ x. record { answer = bare x.number; state = with_board (state_of ks d) x.board }) (withdrawn-unsound b n unsound)

  -- a board that is sound
  module _ (v : Findings) (u : d.found ≡ Some v) where
    good : sound_board b ≡ true
    good = k.good ∙ ap is_some u

    pub stands : SoundBoard b
    stands = sound-out d.device d.clock ks (rw good tt)

    abbrev table : Stands 64 ks v.count rows
    table = (k.kept v u).stands

    -- what the records are
    booked-as : (tasks : List Task) → ks ≡ as_booked d tasks → ks ≡ all_aged_to d.clock tasks
    booked-as tasks w = w ∙ ap (λ x. cond (is_some x) (all_aged_to d.clock tasks) tasks) u

    -- 11, 12
    pub clock-refused : (i : ℕ) {r : ℕ} → r ≡ refusal (instant_tests d.clock i) → 0 < r → outcome (state_of ks d) (Clock i) ≡ record { answer = bare r; state = state_of ks d }
    unfolding outcome
    clock-refused i e h = ap (λ x. record { answer = bare x.number; state = with_board (state_of ks d) x.board }) (clocked-refused b i good e h)

    -- an instant that is not refused
    pub clock-allowed : (i : ℕ) {r : ℕ} → r ≡ refusal (instant_tests d.clock i) → r ≡ 0 → (d.clock ≤ i) × (i ≤ last_instant)
    clock-allowed i e z =
        let r11 = none-holds 11 _ _ (omega arith) (sym e ∙ z) in
        let r12 = none-holds 12 _ _ (omega arith) r11.1 in
        (nltb→le i d.clock r11.0, nltb→le last_instant i r12.0)

    -- THE CLOCK
    pub step-clock : (i : ℕ) → d.clock ≤ i → i ≤ last_instant → {count : ℕ} → After rows v.count i count → (used : ℕ)
        → ((j : ℕ) → j < 64 → bit used j ≡ (bit v.used j && not (some? (λ (p : ℕ). eqb j (slot_at rows p)) (range count (v.count - count)))))
        → Follows d ks (outcome (state_of ks d) (Clock i)) (numbered 0 (with_live d i count used) Nothing) rows masks
    unfolding outcome board_at changed
    step-clock i h q {count} a used f =
        subst (λ x. Follows d ks x (numbered 0 (with_live d i count used) Nothing) rows masks)
        (sym (ap (λ x. record { answer = bare x.number; state = with_board (state_of ks d) x.board }) (clocked-done b i stands h q)))
        (record {
          number = refl;
          column = refl;
          start = refl;
          finish = refl;
          clock = refl;
          device = refl;
          keeps = record {
            slots = aged-length i ks ∙ k.slots;
            size = k.size;
            wide = k.wide;
            good = after;
            kept = λ y. same_found (λ r. Kept d.device i (all_aged_to i ks) r.count rows) (record { good = after; stands = after-stands table a falls; falling = after-falling table a falls });
            masked = λ y. same_found (λ r. Masked r.count rows masks) (after-masked table a falls (k.masked v u));
            used = λ y. same_found (λ r. InUse 64 (all_aged_to i ks) r.used) (in-use-after table a falls (k.used v u) used f);
          };
          inside = omega arith;
          records = λ tasks z w. ap (all_aged_to i) (booked-as tasks w) ∙ aged-twice d.clock i tasks h;
        })
      where
        falls : Falling v.count rows
        falls = (k.kept v u).falling

        after : sound d.device i (all_aged_to i ks) ≡ true
        after = is_true (sound d.device i (all_aged_to i ks)) (sound-in d.device i (all_aged_to i ks) (aged-sound d.device d.clock i ks stands h q))

    -- a live task has the id exactly if the table has it
    known_at : (n p : ℕ) → Least (λ (i : ℕ). eqb (id_at rows i) n) 0 v.count p → known n ks ≡ ltb p v.count
    known_at n p l = sym (known_same d.device d.clock ks v.count rows table good n) ∙ go (dec_lt p v.count)
      where
        has : ℕ → Bool
        has i = eqb (id_at rows i) n

        go : Dec (p < v.count) → some? has (range 0 v.count) ≡ ltb p v.count
        go (yes h) =
            is_true (some? has (range 0 v.count)) (pass-some has (range 0 v.count) (in-range 0 v.count p (omega arith) (omega arith)) (rw (l.here h) tt))
            ∙ sym (lt-ltb p v.count h)
        go (no h) =
            is_false (some? has (range 0 v.count))
            (pass-none has (range 0 v.count) (λ i m. let w = range-in 0 v.count m in rw (l.before i (omega arith) (omega (arith, w.high))) tt))
            ∙ sym (le-ltb p v.count (omega arith))

    module _ (n p : ℕ) (l : Least (λ (i : ℕ). eqb (id_at rows i) n) 0 v.count p) (h : p < v.count) where
      abbrev slot : ℕ
      slot = slot_at rows p

      abbrev task_there : Task
      task_there = get_or ks slot free_slot

      inside : slot < 64
      inside = (table.each p h).inside

      there : T (live task_there)
      there = (table.each p h).there

      is-named : task_there.id ≡ n
      is-named = sym (id-at d.device d.clock ks v.count rows table good p h) ∙ eqb-true (id_at rows p) n (l.here h)

      -- the only slot of that id, and so the first
      pub slot_is : slot ≡ index_of (named n) ks
      unfolding named
      slot_is =
          index_is (named n) ks free_slot slot (omega (arith, k.slots, inside)) (λ j q. is_false (named n (get_or ks j free_slot)) (not_T (named n (get_or ks j free_slot)) (other j q)))
          (λ q. is_true (named n task_there) (and_i (live task_there) (eqb task_there.id n) there (rw (eq-named) tt)))
        where
          eq-named : eqb task_there.id n ≡ true
          eq-named = ap (λ x. eqb x n) (sym (id-at d.device d.clock ks v.count rows table good p h)) ∙ l.here h

          other : (j : ℕ) → j < slot → T (live (get_or ks j free_slot) && eqb (get_or ks j free_slot).id n) → ⊥
          other j q t =
              (sorted-at Together live ks free_slot stands.together j slot q (omega (arith, k.slots, inside)) (and_l (live (get_or ks j free_slot)) (eqb (get_or ks j free_slot).id n) t) there).ids
              (eqb→eq (get_or ks j free_slot).id n (and_r (live (get_or ks j free_slot)) (eqb (get_or ks j free_slot).id n) t) ∙ sym is-named)

      task : SoundTask d.device d.clock task_there
      task = stands.tasks task_there (get_or-in ks slot free_slot (omega (arith, k.slots, inside))) there

      begins : from_at rows p ≡ task_there.start
      begins = start-at d.device d.clock ks v.count rows table good p h

      -- it has begun exactly if its start has come
      has-begun : (x : Task) → InPhase d.clock x → not (waiting_phase x.phase) ≡ leb x.start d.clock
      has-begun x (running q w) = rw q (sym (le-leb x.start d.clock w))
      has-begun x (waiting q w) = rw q (sym (lt-leb x.start d.clock w))

      begun-at : begun_named n ks ≡ leb (from_at rows p) d.clock
      begun-at = slot-begun b n slot good slot_is inside ∙ has-begun task_there task.phase ∙ ap (λ x. leb x d.clock) (sym begins)

      known-there : known n ks ≡ true
      known-there = known_at n p l ∙ lt-ltb p v.count h

      -- WITHDRAWN
      pub step-withdraw : {has begun : Bool} → Asked ks n has begun → {r : ℕ} → r ≡ refusal (withdraw_tests has begun) → r ≡ 0
          → {next words : List ℕ} → Closed 6 v.count p rows next → Closed 4 v.count p masks words → (used : ℕ)
          → ((j : ℕ) → j < 64 → bit used j ≡ (bit v.used j && not (eqb j slot)))
          → Follows d ks (outcome (state_of ks d) (Withdraw n)) (numbered 0 (with_live d d.clock (v.count - 1) used) (Freed slot)) next words
      unfolding outcome changed
      step-withdraw a {r} e q {next} {words} c w used f =
          subst (λ x. Follows d ks x (numbered 0 (with_live d d.clock (v.count - 1) used) (Freed slot)) next words)
          (sym (ap (λ x. record { answer = bare x.number; state = with_board (state_of ks d) x.board }) gone))
          (record {
            number = refl;
            column = refl;
            start = refl;
            finish = refl;
            clock = refl;
            device = refl;
            keeps = record {
              slots = length-set ks slot free_slot ∙ k.slots;
              size = c.size ∙ k.size;
              wide = w.size ∙ k.wide;
              good = after;
              kept = λ y. same_found (λ r. Kept d.device d.clock (set ks slot free_slot) r.count next)
                  (record { good = after; stands = removed-stands table h c; falling = removed-falling table h c (k.kept v u).falling });
              masked = λ y. same_found (λ r. Masked r.count next words) (removed-masked table h c w (k.masked v u));
              used = λ y. same_found (λ r. InUse 64 (set ks slot free_slot) r.used) (in-use-less k.slots (k.used v u) used inside f);
            };
            inside = inside;
            records = λ tasks z v. ap (λ x. set x slot free_slot) (booked-as tasks v) ∙ sym (aged-set d.clock tasks slot free_slot
                ∙ ap (set (all_aged_to d.clock tasks) slot) (aged-free-slot d.clock));
          })
        where
          gone : withdrawn b n ≡ record { number = 0; board = board_of (set ks slot free_slot) d.clock d.device }
          gone = withdrawn-freed b n good a e slot_is q

          after : sound d.device d.clock (set ks slot free_slot) ≡ true
          after =
              is_true (sound d.device d.clock (set ks slot free_slot))
              (sound-in d.device d.clock (set ks slot free_slot) (subst (λ x. SoundBoard x.board) gone (withdrawn-stays-sound b n stands)))

    -- so of what is asked of an id
    pub asked-at : (n p : ℕ) → Least (λ (i : ℕ). eqb (id_at rows i) n) 0 v.count p → p < v.count → Asked ks n true (leb (from_at rows p) d.clock)
    asked-at n p l h = record { there = known-there n p l h; asked = λ q. begun-at n p l h }

    pub nowhere-at : (n : ℕ) → Least (λ (i : ℕ). eqb (id_at rows i) n) 0 v.count v.count → known n ks ≡ false
    nowhere-at n l = known_at n v.count l ∙ le-ltb v.count v.count (omega arith)

    -- 13, 14
    pub withdraw-refused : (n : ℕ) {has begun : Bool} → Asked ks n has begun → {r : ℕ} → r ≡ refusal (withdraw_tests has begun) → 0 < r
        → outcome (state_of ks d) (Withdraw n) ≡ record { answer = bare r; state = state_of ks d }
    unfolding outcome
    withdraw-refused n a e h =
        ap (λ x. record { answer = bare x.number; state = with_board (state_of ks d) x.board }) (withdrawn-refused b n good a e h)

    -- 13, where no live task has the id
    pub withdraw-nowhere : (n : ℕ) → Least (λ (i : ℕ). eqb (id_at rows i) n) 0 v.count v.count
        → outcome (state_of ks d) (Withdraw n) ≡ record { answer = bare 13; state = state_of ks d }
    withdraw-nowhere n l = withdraw-refused n (asked-nowhere ks n false (nowhere-at n l)) (sym (refused-by 13 true _ refl)) (omega arith)

    -- 3 to 10
    pub step-unplaced : (n : ℕ) (a : Submission) (x : Answer) (m : ℕ) → x ≡ (submitted b n a).answer → ((c t e : ℕ) → x ≡ Placed c t e → ⊥) → told x ≡ bare m
        → submit_outcome (state_of ks d) n a ≡ record { answer = bare m; state = state_of ks d }
    step-unplaced n a x m e none? q =
        ap (λ y. record { answer = told y.answer; state = with_board (state_of ks d) y.board }) (unplaced-same b n a x (sym e) none?)
        ∙ ap (λ y. record { answer = y; state = state_of ks d }) q

    -- A PLACE
    module _ (n : ℕ) (a : Submission) (free c t e : ℕ) (z : free ≡ lowest_free ks) (q : Placed c t e ≡ (submitted b n a).answer) where
      pub books : BooksAt b n a free c t e
      books = placed-books b n a z (sym q)

      -- the record that is booked: live, and as it is at the clock
      task-live : (x : Task) → x ≡ booked d.clock a t c → T (live x)
      unfolding booked
      task-live x w = subst (λ y. T (live y)) (sym w) (stamped-live d.clock _ (omega (arith, books.from-now, books.accepted.e.low)))

      task-now : (x : Task) → x ≡ booked d.clock a t c → aged_to d.clock x ≡ x
      unfolding booked stamped phase_at
      task-now x w =
          let twice : stamped d.clock (booked d.clock a t c) ≡ booked d.clock a t c = refl in
          ap (aged_to d.clock) w ∙ aged-stands d.clock (booked d.clock a t c)
          (subst (λ y. T (live y)) w (task-live x w)) (omega (arith, books.from-now, books.accepted.e.low)) ∙ twice ∙ sym w

      pub task-fits : (x : Task) → x ≡ booked d.clock a t c → x.start + x.e ≤ 4294967295
      unfolding booked stamped
      task-fits x w = subst (λ y. y.start + y.e ≤ 4294967295) (sym w) (omega (arith, books.fits))

      -- the slot is free, and the table has room
      unused : live (get_or ks free free_slot) ≡ false
      unused = not-false (subst (λ i. T (not (live (get_or ks i free_slot)))) (sym z) (index-passes (λ x. not (live x)) ks free_slot (omega (arith, z, books.inside, k.slots))))
        where
          not-false : T (not (live (get_or ks free free_slot))) → live (get_or ks free free_slot) ≡ false
          not-false t = is_false (live (get_or ks free free_slot)) t

      pub has_room : v.count < 64
      has_room = room table books.inside unused

      pub step-placed : a.id ≤ largest_id → (x : Task) → x ≡ booked d.clock a t c → {next words : List ℕ} → Inserted v.count free x rows masks next words → (used : ℕ)
          → ((j : ℕ) → j < 64 → bit used j ≡ (bit v.used j || eqb j free))
          → Follows d ks (submit_outcome (state_of ks d) n a) (placed_at c t e (with_live d d.clock (v.count + 1) used) (Booked free x)) next words
      unfolding told changed
      step-placed i x w {next} {words} p used f =
          subst (λ o. Follows d ks o (placed_at c t e (with_live d d.clock (v.count + 1) used) (Booked free x)) next words)
          (sym (ap (λ o. record { answer = told o.answer; state = with_board (state_of ks d) o.board }) same))
          (record {
            number = refl;
            column = refl;
            start = refl;
            finish = books.finish;
            clock = refl;
            device = refl;
            keeps = record {
              slots = length-set ks free x ∙ k.slots;
              size = p.numbers.size ∙ k.size;
              wide = p.columns.size ∙ k.wide;
              good = after;
              kept = λ y. same_found (λ r. Kept d.device d.clock (set ks free x) r.count next) (record {
                good = after;
                stands = inserted-stands table books.inside unused p (task-live x w);
                falling = inserted-falling table books.inside unused p (k.kept v u).falling;
              });
              masked = λ y. same_found (λ r. Masked r.count next words) (inserted-masked table books.inside unused p (k.masked v u));
              used = λ y. same_found (λ r. InUse 64 (set ks free x) r.used) (in-use-more k.slots (k.used v u) used books.inside x (task-live x w) f);
            };
            inside = books.inside;
            records = λ tasks v q. ap (λ o. set o free x) (booked-as tasks q) ∙ sym (aged-set d.clock tasks free x ∙ ap (set (all_aged_to d.clock tasks) free) (task-now x w));
          })
        where
          same : submitted b n a ≡ record { answer = Placed c t (t + a.e); board = board_of (set ks free x) d.clock d.device }
          same = books.same ∙ ap (λ o. record { answer = Placed c t (t + a.e); board = board_of (set ks free o) d.clock d.device }) (sym w)

          after : sound d.device d.clock (set ks free x) ≡ true
          after =
              is_true (sound d.device d.clock (set ks free x))
              (sound-in d.device d.clock (set ks free x) (subst (λ o. SoundBoard o.board) same (submitted-sound b n a i stands)))

  -- A BOARD WITHOUT A TASK
  abbrev pub emptied : Device → Option Findings → Brief
  emptied D found = record { clock = 0; device = D; found = found }

  -- no task is found in it
  abbrev pub nothing : Findings
  nothing = record { count = 0; used = 0 }

  step-empty : (n : ℕ) (D : Device) (well : Option Findings) (o : Outcome) → o ≡ record { answer = bare n; state = with_board (state_of ks d) (fresh_board D) }
      → ((y : Findings) → well ≡ Some y → y ≡ nothing) → sound D 0 (replicate 64 free_slot) ≡ is_some well
      → replicate 64 free_slot ≡ as_booked (emptied D well) (replicate 64 free_slot)
      → Follows d ks o (numbered n (emptied D well) Cleared) rows masks
  unfolding fresh_board changed
  step-empty n D well o e zeros g m =
      subst (λ o. Follows d ks o (numbered n (emptied D well) Cleared) rows masks) (sym e)
      (record {
        number = refl;
        column = refl;
        start = refl;
        finish = refl;
        clock = refl;
        device = refl;
        keeps = record {
          slots = length-replicate 64 free_slot;
          size = k.size;
          wide = k.wide;
          good = g;
          kept = λ y z. subst (λ r. Kept D 0 (replicate 64 free_slot) r.count rows) (sym (zeros y z))
              (record { good = g ∙ ap is_some z; stands = no-tasks rows; falling = λ i j l h. absurd (omega arith) });
          masked = λ y z. subst (λ r. Masked r.count rows masks) (sym (zeros y z)) (record { share = λ q i j a h. absurd (omega arith) });
          used = λ y z. subst (λ r. InUse 64 (replicate 64 free_slot) r.used) (sym (zeros y z))
              (use-in (replicate 64 free_slot) 0 (λ j h. bit-of-zero j ∙ sym (ap live (get_or-replicate 64 j free_slot free_slot h))));
        };
        inside = omega arith;
        records = λ tasks v w. m;
      })

  -- A NEW BOARD, and the board of zeros
  pub step-new : (W H g : ℕ) → device_fits (device W H g) ≡ true → Follows d ks (board_outcome (state_of ks d) W H g) (numbered 0 (emptied (device W H g) (Some nothing)) Cleared) rows masks
  unfolding fresh_board
  step-new W H g fits =
      step-empty 0 D (Some nothing) (board_outcome (state_of ks d) W H g)
      (ap (λ x. record { answer = bare x.number; state = with_board (state_of ks d) x.board }) (created-done W H g fits)) (λ y z. cc)
      (is_true (sound D 0 (replicate 64 free_slot)) (sound-in D 0 (replicate 64 free_slot) fresh)) (sym (aged-now D 0 (replicate 64 free_slot) fresh))
    where
      D : Device
      D = device W H g

      fresh : Sound D 0 (replicate 64 free_slot)
      fresh = subst (λ x. SoundBoard x.board) (created-done W H g fits) (created-sound W H g (rw fits tt))

  pub step-zero : (W H g : ℕ) → device_fits (device W H g) ≡ false
      → Follows d ks (board_outcome (state_of ks d) W H g) (numbered 2 (emptied (device 0 0 0) None) Cleared) rows masks
  unfolding fresh_board
  step-zero W H g fits =
      step-empty 2 (device 0 0 0) None (board_outcome (state_of ks d) W H g)
      (ap (λ x. record { answer = bare x.number; state = with_board (state_of ks d) x.board }) (created-not W H g fits)) (λ y z. cc) zero-unsound refl
