-- Booking, clock, withdrawal, horizon list, busy count and stamps do what document 01 says, clause by clause. Assumes nothing.
use Prim.Native.Nat.{ℕ, zero, suc, ◌+◌, ◌*◌, ◌/◌, ◌≤◌, ◌<◌}
use mathlib.Core.Path.{◌≡◌, refl, sym, ap, ◌∙◌, subst}
use mathlib.Core.Bool.{Bool, true, false, not, cond, ◌&&◌}
use mathlib.Core.List.{List, [], ◌∷◌, ◌++◌, map, append_assoc}
use native.Mathlib.Omega.{arith}
use native.Mathlib.Decide.{dec_lt}
use lib.Dec.{T, ltb, eqb, ltb→lt, nltb→le, eqb→eq, T_not}
use lib.ListN.{length, get_or, set, drop, take, length-set, length-map, get_or-map, get_or-eq_default}
use lib.Seq.{get_or-set_same, get_or-set_other, length-take-le}
use borrow.Author.Tests.{lt-ltb}
use Rattle.lists.specs.Lists.{keep, some?, index_of, over_front}
use Rattle.lists.proofs.Bools.{and_l, and_r, and_i, not-not}
use Rattle.lists.proofs.Members.{keep-in, in-keep, none_pass, some-pass, pass-some, range-in, in-range, get_or-in}
use Rattle.lists.proofs.Order.{sorted-keep, sorted-range, sorted-at}
use Rattle.lists.proofs.Append.{index-test, index-passes, put-index}
use Rattle.tasks.specs.declared.Phase.{Phase}
use Rattle.tasks.specs.declared.Phase.TheVariants.{Ended, Waiting, Running}
use Rattle.tasks.specs.declared.Task.{Task}
use Rattle.tasks.specs.declared.Submission.{Submission}
use Rattle.tasks.specs.Tasks.{finish, phase_at, live, live_phase, waiting_phase, in_phase, stamped, stamped_all, free_slot, booked, holds}
use Rattle.tasks.proofs.Laws.{holds-out, holds-in, phase-waiting, phase-running, phase-ended}
use Rattle.columns.specs.Columns.{columns}
use Rattle.slots.specs.Slots.{named, known, begun_named, without_named}
use Rattle.slots.proofs.Soundness.{Together, sound-out}
use Rattle.slots.proofs.Ageing.{aged-free, aged-ended, aged-stands, aged-at, aged-length}
use Rattle.lookups.specs.Lookups.{Strip, strip_numbers, busy_columns}
use Rattle.lookups.proofs.HorizonList.{listed-equal, equal-listed, horizon-ordered}
use Rattle.lookups.proofs.Busy.{busy-held}
use Rattle.refusals.proofs.First.{none-holds}
use Rattle.board.specs.declared.Board.{Board}
use Rattle.board.specs.declared.Answer.TheVariants.{Placed}
use Rattle.board.specs.declared.Clocked.{Clocked}
use Rattle.board.specs.declared.Withdrawn.{Withdrawn}
use Rattle.board.specs.declared.Listed.{Listed}
use Rattle.board.specs.declared.Counted.{Counted}
use Rattle.board.specs.declared.Opened.{Opened}
use Rattle.board.specs.Refusals.{live_of, sound_board, horizon_of, refused_instant, refused_withdraw, refused_openings, refused_horizon}
use Rattle.board.specs.Calls.{or_refused, with_tasks, submitted, board_at, clocked, withdrawn, remaining, opened, listed, listed_buffer, counted}
use Rattle.board.proofs.Kept.{SoundBoard, slot_at}
use Rattle.board.proofs.Placed.{placed-books, unplaced-same}
use Rattle.events.specs.declared.Event.{Event}
use Rattle.std.specs.Prelude.{Ok, Some}
use Rattle.events.specs.Records.{record_of, read_from, written, written_buffer}
use Rattle.events.proofs.RoundTrip.{Fits, Bytes, read-written, written-again}
use Rattle.events.proofs.Writing.{room-answer, room-buffer}
use Rattle.events.proofs.Calls.{taken-there}
use Rattle.promises.proofs.Clauses.{begun_by, Books, Ages, Removes, ListsRuns, CountsHeld, Stamps}

-- a call that tells 0 was not refused, and is done
module _ {A : Type 0} (refusing : ℕ → A) (doing : A) (number : A → ℕ) (own : (k : ℕ) → number (refusing k) ≡ k) where
  told-0 : (r : ℕ) → number (or_refused r refusing doing) ≡ 0 → r ≡ 0
  unfolding or_refused
  told-0 zero e = refl
  told-0 (suc r) e = let z : suc r ≡ 0 = sym (own (suc r)) ∙ e in absurd (omega arith)

  told-done : (r : ℕ) → number (or_refused r refusing doing) ≡ 0 → or_refused r refusing doing ≡ doing
  unfolding or_refused
  told-done zero e = refl
  told-done (suc r) e = let z : suc r ≡ 0 = sym (own (suc r)) ∙ e in absurd (omega arith)

-- the phase of an instant before the finish
begun-phase : (i : ℕ) (k : Task) → i < finish k → phase_at i k ≡ begun_by i k.start
unfolding phase_at
begun-phase i k h = rw (lt-ltb i (finish k) h)

-- before the first element that passes, none does
index-before : {A : Type 0} (p : A → Bool) (l : List A) (d : A) (i : ℕ) → i < index_of p l → T (not (p (get_or l i d)))
unfolding index_of
index-before p [] d i h = absurd (omega arith)
index-before {A} p (x ∷ xs) d i h = by (p x) refl i h (λ j l. index-before p xs d j l)
  where
    by : (b : Bool) → p x ≡ b → (i : ℕ) → i < cond b 0 (index_of p xs + 1) → ((j : ℕ) → j < index_of p xs → T (not (p (get_or xs j d)))) → T (not (p (get_or (x ∷ xs) i d)))
    by true e i l f = absurd (omega arith)
    by false e zero l f = rw e tt
    by false e (suc i) l f = f i (omega arith)

-- BOOKING
pub books : (b : Board) (n : ℕ) (a : Submission) (c s f : ℕ) → (submitted b n a).answer ≡ Placed c s f → Books b a c s f (submitted b n a).board
unfolding booked stamped phase_at
books b n a c s f e =
    let r = placed-books b n a {free = slot} refl e in
    let o = r.accepted.sound in
    let inside : slot < length b.tasks = omega (arith, r.inside, o.slots) in
    let q : (submitted b n a).board ≡ with_tasks b (set b.tasks slot new) = ap (λ x. x.board) r.same in
    let ends : b.now < s + a.e = omega (arith, r.from-now, r.accepted.e.low) in
    record {
      finish = r.finish;
      slot = slot;
      inside = inside;
      free = o.free (slot_at b slot) (get_or-in b.tasks slot free_slot inside) (index-passes is_free b.tasks free_slot inside);
      lowest = λ i l. not-not (live (slot_at b i)) (index-before is_free b.tasks free_slot i l);
      holds = ap (λ x. slot_at x slot) q ∙ get_or-set_same b.tasks slot new free_slot inside ∙ ap (λ p. in_phase p new) (begun-phase b.now new ends);
      others = λ i g. ap (λ x. slot_at x i) q ∙ get_or-set_other b.tasks slot i new free_slot g;
      slots = ap (λ x. length x.tasks) q ∙ length-set b.tasks slot new;
      now = ap (λ x. x.now) q;
      device = ap (λ x. x.device) q;
    }
  where
    is_free : Task → Bool
    is_free k = not (live k)

    slot : ℕ
    slot = index_of is_free b.tasks

    new : Task
    new = booked b.now a s c

-- what is not placed changes nothing
pub books-nothing : (b : Board) (n : ℕ) (a : Submission) → ((c s f : ℕ) → (submitted b n a).answer ≡ Placed c s f → ⊥) → (submitted b n a).board ≡ b
books-nothing b n a f = ap (λ x. x.board) (unplaced-same b n a (submitted b n a).answer refl f)

-- CLOCK
pub ages : (b : Board) (t : ℕ) → (clocked b t).number ≡ 0 → Ages t b (clocked b t).board
unfolding clocked board_at
ages b t e =
    let q : (clocked b t).board ≡ board_at b t = ap (λ r. r.board) (told-done (λ k. record { number = k; board = b }) moved (λ (r : Clocked). r.number) (λ k. refl) (refused_instant b t) e) in
    let at : (i : ℕ) → slot_at (clocked b t).board i ≡ Rattle.slots.specs.Slots.aged_to t (slot_at b i) = λ i. ap (λ x. slot_at x i) q ∙ aged-at t b.tasks i in
    record {
      now = ap (λ x. x.now) q;
      ended = λ i l h. at i ∙ aged-ended t (slot_at b i) l h;
      stands = λ i l h. at i ∙ aged-stands t (slot_at b i) l h ∙ (unfold stamped in ap (λ p. in_phase p (slot_at b i)) (begun-phase t (slot_at b i) h));
      free = λ i l. at i ∙ aged-free t (slot_at b i) l;
      slots = ap (λ x. length x.tasks) q ∙ aged-length t b.tasks;
      device = ap (λ x. x.device) q;
    }
  where
    moved : Clocked
    moved = record { number = 0; board = board_at b t }

-- WITHDRAWAL
pub removes : (b : Board) (n : ℕ) → (withdrawn b n).number ≡ 0 → Removes n b (withdrawn b n).board
unfolding withdrawn refused_withdraw known begun_named without_named
removes b n e = record {
  slot = slot;
  inside = inside;
  id = id-of (slot_at b slot) is;
  waits = waiting (slot_at b slot).phase (lives (slot_at b slot) is) (λ t. not-begun (and_i (named n (slot_at b slot)) (not (waiting_phase (slot_at b slot).phase)) is t));
  only = λ i l h. order i l h (within i l) (dec_lt slot i) (dec_lt i slot);
  freed = ap (λ x. slot_at x slot) q ∙ get_or-set_same b.tasks slot free_slot free_slot inside;
  others = λ i g. ap (λ x. slot_at x i) q ∙ get_or-set_other b.tasks slot i free_slot free_slot g;
  slots = ap (λ x. length x.tasks) q ∙ length-set b.tasks slot free_slot;
  now = ap (λ x. x.now) q;
  device = ap (λ x. x.device) q;
}
  where
    slot : ℕ
    slot = index_of (named n) b.tasks

    begun : Task → Bool
    begun k = named n k && not (waiting_phase k.phase)

    gone : Withdrawn
    gone = record { number = 0; board = with_tasks b (without_named n b.tasks) }

    refusing : ℕ → Withdrawn
    refusing k = record { number = k; board = b }

    q : (withdrawn b n).board ≡ with_tasks b (set b.tasks slot free_slot)
    q =
        ap (λ r. r.board) (told-done refusing gone (λ r. r.number) (λ k. refl) (refused_withdraw b n) e)
        ∙ ap (with_tasks b) (put-index (named n) free_slot b.tasks)

    -- no test refused it
    passed : T (sound_board b) × T (known n b.tasks) × T (not (begun_named n b.tasks))
    passed =
        let r1 = none-holds 1 _ _ (omega arith) (told-0 refusing gone (λ r. r.number) (λ k. refl) (refused_withdraw b n) e) in
        let r13 = none-holds 13 _ _ (omega arith) r1.1 in
        let r14 = none-holds 14 _ _ (omega arith) r13.1 in
        (not-not (sound_board b) r1.0, not-not (known n b.tasks) r13.0, r14.0)

    s : SoundBoard b
    s = sound-out b.device b.now b.tasks passed.0

    inside : slot < length b.tasks
    inside = ltb→lt slot (length b.tasks) (subst T (index-test (named n) b.tasks) passed.1)

    is : T (named n (slot_at b slot))
    is = index-passes (named n) b.tasks free_slot inside

    not-begun : T (begun (slot_at b slot)) → ⊥
    not-begun t = T_not (begun (slot_at b slot)) (none_pass begun b.tasks passed.2 (get_or-in b.tasks slot free_slot inside)) t

    lives : (k : Task) → T (named n k) → T (live k)
    lives k t = unfold named in and_l (live k) (eqb k.id n) t

    id-of : (k : Task) → T (named n k) → k.id ≡ n
    id-of k t = unfold named in eqb→eq k.id n (and_r (live k) (eqb k.id n) t)

    waiting : (p : Phase) → T (live_phase p) → (T (not (waiting_phase p)) → ⊥) → p ≡ Waiting
    waiting Ended l f = absurd l
    waiting Waiting l f = refl
    waiting Running l f = absurd (f tt)

    -- what is live stands in a slot
    within : (i : ℕ) → T (live (slot_at b i)) → i < length b.tasks
    within i l = by (dec_lt i (length b.tasks))
      where
        by : Dec (i < length b.tasks) → i < length b.tasks
        by (yes h) = h
        by (no h) = absurd (subst (λ k. T (live k)) (get_or-eq_default b.tasks free_slot (omega arith)) l)

    -- ids differ
    order : (i : ℕ) → T (live (slot_at b i)) → (slot_at b i).id ≡ n → i < length b.tasks → Dec (slot < i) → Dec (i < slot) → i ≡ slot
    order i l h w (yes p) d =
        absurd ((sorted-at Together live b.tasks free_slot s.together slot i p w (lives (slot_at b slot) is) l).ids (id-of (slot_at b slot) is ∙ sym h))
    order i l h w (no p) (yes d) =
        absurd ((sorted-at Together live b.tasks free_slot s.together i slot d inside l (lives (slot_at b slot) is)).ids (h ∙ sym (id-of (slot_at b slot) is)))
    order i l h w (no p) (no d) = omega arith

-- three words a run
words-length : (ss : List Strip) → length (strip_numbers ss) ≡ 3 * length ss
unfolding strip_numbers
words-length [] = refl
words-length (s ∷ ss) = let r = words-length ss in omega arith

-- HORIZON LIST
pub lists-runs : (b : Board) (buffer : List ℕ) → (listed b (length buffer)).number ≡ 0
    → ListsRuns b buffer (listed b (length buffer)).count (listed_buffer b buffer)
unfolding listed listed_buffer refused_horizon
lists-runs b buffer e = record {
  runs = horizon_of b;
  only = λ s m. listed-equal b.device.columns b.now (live_of b) m;
  every = λ s o. equal-listed b.device.columns b.now (live_of b) s o;
  order = horizon-ordered b.device.columns b.now (live_of b);
  counted = ap (λ r. r.count) (told-done refusing told (λ r. r.number) (λ k. refl) (refused_horizon b (length buffer)) e);
  words = put (refused_horizon b (length buffer)) none-refused ∙ ap (λ n. strip_numbers (horizon_of b) ++ drop n buffer) (words-length (horizon_of b));
  room = fits;
}
  where
    told : Listed
    told = record { number = 0; count = length (horizon_of b); board = b }

    refusing : ℕ → Listed
    refusing k = record { number = k; count = 0; board = b }

    none-refused : refused_horizon b (length buffer) ≡ 0
    none-refused = told-0 refusing told (λ r. r.number) (λ k. refl) (refused_horizon b (length buffer)) e

    fits : 3 * length (horizon_of b) ≤ length buffer
    fits =
        let r1 = none-holds 1 _ _ (omega arith) none-refused in
        let r17 = none-holds 17 _ _ (omega arith) r1.1 in
        nltb→le (length buffer) (3 * length (horizon_of b)) r17.0

    put : (r : ℕ) → r ≡ 0 → or_refused r (λ k. buffer) (over_front (strip_numbers (horizon_of b)) buffer) ≡ over_front (strip_numbers (horizon_of b)) buffer
    put r z = unfold or_refused in rw z

-- BUSY COLUMNS
pub counts-held : (b : Board) (i : ℕ) → (counted b i).number ≡ 0 → CountsHeld b i (counted b i).count
unfolding counted
counts-held b i e = record {
  held = keep test (columns W);
  rising = sorted-keep ◌<◌ test (sorted-range 1 W);
  counted = ap (λ r. r.count) (told-done refusing told (λ r. r.number) (λ k. refl) (refused_instant b i) e) ∙ busy-held W (live_of b) i;
  only = λ c m.
      let k = keep-in test (columns W) m in
      let r = range-in 1 W k.0 in
      let p = some-pass (holds i c) (live_of b) k.1 in
      (r.low, omega (arith, r.high), (p.it, p.among, holds-out i c p.it p.passes));
  every = λ c k l h m o. in-keep test (in-range 1 W c l (omega arith)) (pass-some (holds i c) (live_of b) m (holds-in i c k o));
}
  where
    W : ℕ
    W = b.device.columns

    test : ℕ → Bool
    test c = some? (holds i c) (live_of b)

    told : Counted
    told = record { number = 0; count = busy_columns W (live_of b) i; board = b }

    refusing : ℕ → Counted
    refusing k = record { number = k; count = 0; board = b }

-- STAMPS
pub stamps : (t : ℕ) (k : Task) → Stamps t k (stamped t k)
unfolding stamped
stamps t k = record {
  fields = refl;
  waiting = λ h. phase-waiting t k h;
  running = λ l h. phase-running t k l h;
  ended = λ l h. phase-ended t k h;
}

pub stamps-all : (t : ℕ) (ks : List Task)
    → (length (stamped_all t ks) ≡ length ks) × ((i : ℕ) → get_or (stamped_all t ks) i free_slot ≡ stamped t (get_or ks i free_slot))
stamps-all t ks = (length-map ks (stamped t), λ i. ap (get_or (map (stamped t) ks) i) (sym none) ∙ get_or-map (stamped t) ks i free_slot)
  where
    none : stamped t free_slot ≡ free_slot
    none = unfold stamped in ap (λ p. in_phase p free_slot) (phase-ended t free_slot (omega arith))

-- OPENINGS hand the board back
pub opened-board : (b : Board) (a : Submission) (s c words : ℕ) → (opened b a s c words).board ≡ b
unfolding opened
opened-board b a s c words = by (refused_openings b a)
  where
    told : Opened
    told = record {
      number = 0;
      count = length (take (words / 2) (remaining b a s c));
      more = ltb (words / 2) (length (remaining b a s c));
      board = b;
    }

    by : (r : ℕ) → (or_refused {A = Opened} r (λ k. record { number = k; count = 0; more = false; board = b }) told).board ≡ b
    by zero = unfold or_refused in refl
    by (suc r) = unfold or_refused in refl

-- RECORDS in a buffer
pub buffer-reads-back : (v : Event) → Fits v → (buffer rest : List ℕ) → length (record_of v) ≤ length buffer
    → read_from (written_buffer v buffer ++ rest) ≡ Ok (Some (v, length (record_of v)))
buffer-reads-back v f buffer rest h =
    rw (room-buffer v buffer h, append_assoc (record_of v) (drop (length (record_of v)) buffer) rest)
    (read-written v f (drop (length (record_of v)) buffer ++ rest))

pub buffer-written-again : (l : List ℕ) → Bytes l → (v : Event) (size : ℕ) → read_from l ≡ Ok (Some (v, size)) → (buffer : List ℕ) → size ≤ length buffer
    → (written v (length buffer) ≡ Ok size) × (written_buffer v buffer ≡ take size l ++ drop size buffer)
buffer-written-again l h v size e buffer room =
    let r = written-again l h v size e in
    let n : length (record_of v) ≡ size = ap length r ∙ length-take-le size l (taken-there l v size e).1 in
    let fits : length (record_of v) ≤ length buffer = omega arith in
    (room-answer v buffer fits ∙ ap (λ x. Ok x) n, room-buffer v buffer fits ∙ rw (n, r))
