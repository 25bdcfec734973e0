-- OVER A SESSION: the board is sound or of zeros; no two promises share a column at a tick, each stands until its finish, and ends by its deadline. Assumes nothing.
use Prim.Native.Nat.{ℕ, zero, suc, ◌+◌, ◌≤◌, ◌<◌}
use mathlib.Core.Path.{◌≡◌, refl, sym, ap, ◌∙◌, subst}
use mathlib.Core.Logic.{◌⊎◌, inl, inr}
use mathlib.Core.Bool.{Bool, true, false, not, cond, ◌&&◌}
use mathlib.Core.List.Memᴰ.{cases_cons as cases}
use mathlib.Core.List.Memᴰ.{head as here}
use mathlib.Core.List.Memᴰ.{not-nil as nowhere}
use mathlib.Core.List.Memᴰ.{tail as there}
use mathlib.Core.List.{List, [], ◌∷◌, map}
use native.Mathlib.Omega.{arith}
use native.Mathlib.Decide.{dec_le, dec_lt}
use lib.Dec.{T, ltb, eqb, lt→ltb, not_T, T_not}
use lib.ListN.{length}
use Rattle.lists.specs.Lists.{◌∈◌, keep, index_of, put_first}
use Rattle.lists.proofs.Bools.{and_r, and_i}
use Rattle.lists.proofs.Members.{keep-in, in-keep, in_map, none_pass}
use Rattle.lists.proofs.Append.{put-index}
use Rattle.lists.proofs.Order.{Sorted, empty, next, sorted-keep}
use Rattle.tasks.specs.declared.Task.{Task}
use Rattle.tasks.specs.declared.Submission.{Submission}
use Rattle.tasks.specs.Numbers.{device, device_fits, largest_id}
use Rattle.tasks.specs.Tasks.{finish, live, waiting_phase, phase_at, stamped, free_slot, booked}
use Rattle.tasks.proofs.Laws.{Share, is-waiting}
use Rattle.ways.specs.Ways.{pair}
use Rattle.planners.proofs.Openings.{Opening}
use Rattle.slots.specs.Slots.{named, known, begun_named, without_named}
use Rattle.slots.proofs.Soundness.{InPhase, running, waiting, SoundTask}
use Rattle.slots.proofs.Ageing.{live-aged, stamped-live}
use Rattle.board.specs.declared.Board.{Board}
use Rattle.board.specs.declared.Answer.{Answer}
use Rattle.board.specs.declared.Answer.TheVariants.{Rejected, Placed, Refused}
use Rattle.board.specs.Refusals.{live_of, sound_board, refused_instant, refused_withdraw}
use Rattle.board.specs.Calls.{or_refused, with_tasks, zero_board, created, submitted, board_at, clocked, withdrawn}
use Rattle.board.specs.Standing.{submitted_booked}
use Rattle.refusals.proofs.First.{none-holds}
use Rattle.board.proofs.Kept.{SoundBoard, submitted-sound, clocked-stays-sound, withdrawn-stays-sound, created-sound, zero-unsound}
use Rattle.board.proofs.Kept.{instant-passable, clocked-done, refused-clock-same, refused-withdraw-same}
use Rattle.board.proofs.Submit.{submit-unsound}
use Rattle.board.proofs.Tested.{clocked-unsound, withdrawn-unsound}
use Rattle.board.proofs.Placed.{placed-opens, BooksAt, placed-books, unplaced-same}
use Rattle.events.specs.declared.Ask.{Ask}
use Rattle.events.specs.declared.Event.{Event}
use Rattle.events.specs.declared.Event.TheVariants.{NewBoard, Submit, Clock, Withdraw, GridBoard}
use Rattle.events.specs.Records.{submission_of}
use Rattle.steps.specs.declared.State.{State}
use Rattle.steps.specs.Outcomes.{first_state, with_board}
use Rattle.session.specs.Recording.{outcome}
use Rattle.steps.proofs.Steps.{created-not}
use Rattle.promises.specs.Ledger.{entered, struck, ledger_after, Account, account_after}

-- an element that does not pass stays where one that passes is replaced, and the new one is there
module _ {A : Type 0} (p : A → Bool) (x : A) where
  put_keeps : (xs : List A) {y : A} → y ∈ xs → T (not (p y)) → y ∈ put_first p x xs
  unfolding put_first
  put_keeps [] m t = absurd (nowhere m)
  put_keeps (z ∷ zs) {y} m t = step (λ n. put_keeps zs n t) (p z) refl (cases m)
    where
      step : (y ∈ zs → y ∈ put_first p x zs) → (b : Bool) → p z ≡ b → (y ≡ z) ⊎ (y ∈ zs) → y ∈ cond b (x ∷ zs) (z ∷ put_first p x zs)
      step below true e (inl q) = absurd (T_not (p y) t (rw (ap p q ∙ e) tt))
      step below true e (inr n) = there n
      step below false e (inl q) = here q
      step below false e (inr n) = there (below n)

  put-new : (xs : List A) → index_of p xs < length xs → x ∈ put_first p x xs
  unfolding put_first index_of
  put-new [] h = absurd (omega arith)
  put-new (z ∷ zs) h = step (λ k. put-new zs k) (p z) h
    where
      step : (index_of p zs < length zs → x ∈ put_first p x zs) → (b : Bool) → cond b 0 (index_of p zs + 1) < suc (length zs) → x ∈ cond b (x ∷ zs) (z ∷ put_first p x zs)
      step below true k = here refl
      step below false k = there (below (omega arith))

-- stamped twice
twice : (i j : ℕ) (k : Task) → stamped i (stamped j k) ≡ stamped i k
unfolding stamped phase_at
twice i j k = refl

-- an id fits its field
pub data Named : Event → Type 0 where
  new : (W H : ℕ) → Named (NewBoard W H)
  gridded : (W H g : ℕ) → Named (GridBoard W H g)
  submit : (n : ℕ) (a : Ask) → a.id ≤ largest_id → Named (Submit n a)
  clock : (i : ℕ) → Named (Clock i)
  withdraw : (n : ℕ) → Named (Withdraw n)

-- a board that keeps its promises
pub record Honest (b : Board) (ks : List Task) : Type 0 where
  -- "after every event the board is sound or is the board of zeros"
  pub standing : SoundBoard b ⊎ (b ≡ zero_board)
  -- "never share a column at a tick"
  pub apart : Sorted (λ k l. Share k l → ⊥) ks
  -- "ends by its deadline"
  pub due : (k : Task) → k ∈ ks → finish k ≤ k.d
  -- "stands on its promised columns from its promised start to its finish": until then it is a live task of the board, as it was promised
  pub stands : (k : Task) → k ∈ ks → (finish k ≤ b.now) ⊎ (stamped b.now k ∈ live_of b)

-- a promise after the clock has moved
after-clock : (b : Board) (i : ℕ) (k : Task) → (finish k ≤ b.now) ⊎ (stamped b.now k ∈ live_of b) → b.now ≤ i → Dec (finish k ≤ i)
    → (finish k ≤ (board_at b i).now) ⊎ (stamped (board_at b i).now k ∈ live_of (board_at b i))
unfolding board_at stamped
after-clock b i k (inl h) q d = inl (omega arith)
after-clock b i k (inr m) q (yes d) = inl d
after-clock b i k (inr m) q (no d) =
    inr (subst (λ l. stamped i k ∈ l) (sym (live-aged i b.tasks))
    (subst (λ y. y ∈ map (stamped i) (keep (λ x. ltb i (finish x)) (live_of b))) (twice i b.now k)
    (in_map (stamped i) (in-keep (λ x. ltb i (finish x)) m (lt→ltb i (finish k) (omega arith))))))

-- a promise more
after-place : (b : Board) (ks : List Task) → Honest b ks → SoundBoard b → (n : ℕ) (a : Submission) → a.id ≤ largest_id → (c t f : ℕ)
    → (submitted b n a).answer ≡ Placed c t f → Honest (submitted b n a).board (booked b.now a t c ∷ ks)
unfolding booked stamped
after-place b ks o s n a i c t f e =
    subst (λ x. Honest x.board (booked b.now a t c ∷ ks)) (sym (p.same ∙ there-put))
    (record {
      standing = inl (subst (λ x. SoundBoard x.board) (p.same ∙ there-put) (submitted-sound b n a i s));
      apart = next (λ l m. clear l (o.stands l m)) o.apart;
      due = λ l m. by-deadline l (cases m);
      stands = λ l m. standing_on l (cases m);
    })
  where
    p : BooksAt b n a (index_of (λ k. not (live k)) b.tasks) c t f
    p = placed-books b n a refl e

    w : Opening b.device.grid b.device.columns b.now (live_of b) a (pair t c)
    w = (placed-opens b n a e).0

    after : Board
    after = with_tasks b (put_first (λ k. not (live k)) (booked b.now a t c) b.tasks)

    there-put : submitted_booked b a (index_of (λ k. not (live k)) b.tasks) c t
        ≡ record { answer = Placed c t (t + a.e); board = with_tasks b (put_first (λ k. not (live k)) (booked b.now a t c) b.tasks) }
    there-put = ap (λ x. record { answer = Placed c t (t + a.e); board = with_tasks b x }) (sym (put-index (λ k. not (live k)) (booked b.now a t c) b.tasks))

    clear : (l : Task) → (finish l ≤ b.now) ⊎ (stamped b.now l ∈ live_of b) → Share (booked b.now a t c) l → ⊥
    clear l (inl h) x = omega (arith, x.tick.low₁, x.tick.high₂, p.from-now)
    clear l (inr m) x = w.apart (stamped b.now l) m x.column x.tick

    by-deadline : (l : Task) → (l ≡ booked b.now a t c) ⊎ (l ∈ ks) → finish l ≤ l.d
    by-deadline l (inl q) = subst (λ y. finish y ≤ y.d) (sym q) w.in-time
    by-deadline l (inr m) = o.due l m

    is_live : T (live (booked b.now a t c))
    is_live = stamped-live b.now _ (omega (arith, p.from-now, p.accepted.e.low))

    standing_on : (l : Task) → (l ≡ booked b.now a t c) ⊎ (l ∈ ks)
        → (finish l ≤ b.now) ⊎ (stamped b.now l ∈ keep live (put_first (λ k. not (live k)) (booked b.now a t c) b.tasks))
    standing_on l (inl q) =
        inr
        (in-keep live
        (subst (λ y. y ∈ put_first (λ k. not (live k)) (booked b.now a t c) b.tasks) (sym (ap (stamped b.now) q ∙ twice b.now b.now _))
        (put-new (λ k. not (live k)) (booked b.now a t c) b.tasks (omega (arith, p.inside, s.slots))))
        (subst (λ y. T (live y)) (sym (ap (stamped b.now) q ∙ twice b.now b.now _)) is_live))
    standing_on l (inr m) = pick (o.stands l m)
      where
        pick : (finish l ≤ b.now) ⊎ (stamped b.now l ∈ live_of b)
            → (finish l ≤ b.now) ⊎ (stamped b.now l ∈ keep live (put_first (λ k. not (live k)) (booked b.now a t c) b.tasks))
        pick (inl h) = inl h
        pick (inr x) =
            let r = keep-in live b.tasks x in
            let taken = not_T (not (live (stamped b.now l))) (λ y. T_not (live (stamped b.now l)) y r.1) in
            inr (in-keep live (put_keeps (λ k. not (live k)) (booked b.now a t c) b.tasks r.0 taken) r.1)

withdrawn-done : (b : Board) (n : ℕ) → refused_withdraw b n ≡ 0 → withdrawn b n ≡ record { number = 0; board = with_tasks b (without_named n b.tasks) }
unfolding withdrawn or_refused
withdrawn-done b n e = rw e

-- a live task that was not struck is not the one withdrawn: of that id only a waiting task can be live
kept_there : (b : Board) → SoundBoard b → (n : ℕ) → refused_withdraw b n ≡ 0 → (l : Task)
    → T (not (eqb l.id n && waiting_phase (phase_at b.now l))) → stamped b.now l ∈ b.tasks → T (live (stamped b.now l)) → stamped b.now l ∈ without_named n b.tasks
unfolding without_named named begun_named refused_withdraw stamped
kept_there b s n e l t m u =
    put_keeps (named n) free_slot b.tasks m
    (not_T (named n (stamped b.now l)) (λ q. clash (and_r (live (stamped b.now l)) (eqb l.id n) q) (dec_lt b.now l.start)))
  where
    r14 : T (not (begun_named n b.tasks))
    r14 =
        let r13 = none-holds 13 (not (known n b.tasks)) _ (omega arith) (none-holds 1 _ _ (omega arith) e).1 in
        (none-holds 14 (begun_named n b.tasks) _ (omega arith) r13.1).0

    begun : Task → Bool
    begun k = named n k && not (waiting_phase k.phase)

    task : SoundTask b.device b.now (stamped b.now l)
    task = s.tasks (stamped b.now l) m u

    started : (x : Task) → InPhase b.now x → x.start ≤ b.now → T (not (waiting_phase x.phase))
    started x (running q w) h = rw q tt
    started x (waiting q w) h = absurd (omega arith)

    clash : T (eqb l.id n) → Dec (b.now < l.start) → ⊥
    clash q (yes h) =
        let w = subst T (sym (is-waiting b.now l)) (lt→ltb b.now l.start h) in
        T_not (eqb l.id n && waiting_phase (phase_at b.now l)) t (and_i (eqb l.id n) (waiting_phase (phase_at b.now l)) q w)
    clash q (no h) =
        let x = stamped b.now l in
        T_not (begun x) (none_pass begun b.tasks r14 m)
        (and_i (named n x) (not (waiting_phase x.phase)) (and_i (live x) (eqb l.id n) u q) (started x task.phase (omega arith)))

-- a promise struck, the others as they were
after-withdrawal : (b : Board) (ks : List Task) → Honest b ks → SoundBoard b → (n : ℕ) → refused_withdraw b n ≡ 0 → Honest (withdrawn b n).board (struck b (withdrawn b n).number n ks)
after-withdrawal b ks o s n e =
    subst (λ x. Honest x.board (struck b x.number n ks)) (sym done)
    (subst (λ x. Honest (with_tasks b (without_named n b.tasks)) x) (sym struck-is)
    (record {
      standing = inl (subst (λ x. SoundBoard x.board) done (withdrawn-stays-sound b n s));
      apart = sorted-keep (λ k l. Share k l → ⊥) stays o.apart;
      due = λ l m. o.due l (keep-in stays ks m).0;
      stands = λ l m. let r = keep-in stays ks m in pick l r.1 (o.stands l r.0);
    }))
  where
    stays : Task → Bool
    stays k = not (eqb k.id n && waiting_phase (phase_at b.now k))

    done : withdrawn b n ≡ record { number = 0; board = with_tasks b (without_named n b.tasks) }
    done = withdrawn-done b n e

    struck-is : struck b 0 n ks ≡ keep stays ks
    struck-is = unfold struck in refl

    pick : (l : Task) → T (stays l) → (finish l ≤ b.now) ⊎ (stamped b.now l ∈ live_of b) → (finish l ≤ b.now) ⊎ (stamped b.now l ∈ keep live (without_named n b.tasks))
    pick l t (inl h) = inl h
    pick l t (inr x) = let r = keep-in live b.tasks x in inr (in-keep live (kept_there b s n e l t r.0 r.1) r.1)

module _ (b : Board) (ks : List Task) (o : Honest b ks) where
  -- the same board, the same promises
  same : {c : Board} {ls : List Task} → c ≡ b → ls ≡ ks → Honest c ls
  same {c} {ls} e f = subst (λ x. Honest x ls) (sym e) (subst (λ x. Honest b x) (sym f) o)

  -- A NEW BOARD, on whatever grid
  fresh : (W H g : ℕ) → Honest (created W H g).board []
  fresh W H g = record { standing = go (device_fits (device W H g)) refl; apart = empty; due = λ k m. absurd (nowhere m); stands = λ k m. absurd (nowhere m) }
    where
      go : (t : Bool) → device_fits (device W H g) ≡ t → SoundBoard (created W H g).board ⊎ ((created W H g).board ≡ zero_board)
      go true e = inl (created-sound W H g (rw e tt))
      go false e = inr (ap (λ x. x.board) (created-not W H g e))

  honest-new : (W H : ℕ) → Honest (outcome (with_board first_state b) (NewBoard W H)).state.board (ledger_after (with_board first_state b) ks (NewBoard W H))
  unfolding outcome ledger_after
  honest-new W H = fresh W H 1

  honest-grid : (W H g : ℕ) → Honest (outcome (with_board first_state b) (GridBoard W H g)).state.board (ledger_after (with_board first_state b) ks (GridBoard W H g))
  unfolding outcome ledger_after
  honest-grid W H g = fresh W H g

  -- on a sound board
  module _ (s : SoundBoard b) where
    -- THE CLOCK
    honest-clock : (i : ℕ) → Honest (outcome (with_board first_state b) (Clock i)).state.board (ledger_after (with_board first_state b) ks (Clock i))
    unfolding outcome ledger_after
    honest-clock i = go (refused_instant b i) refl
      where
        go : (r : ℕ) → refused_instant b i ≡ r → Honest (clocked b i).board ks
        go (suc r) e = same (ap (λ x. x.board) (refused-clock-same b i r e)) refl
        go zero e =
            let p = instant-passable b i e in
            subst (λ x. Honest x.board ks) (sym (clocked-done b i s p.from-now p.until))
            (record {
              standing = inl (subst (λ x. SoundBoard x.board) (clocked-done b i s p.from-now p.until) (clocked-stays-sound b i s));
              apart = o.apart;
              due = o.due;
              stands = λ k m. on-clock k (o.stands k m) p.from-now (dec_le (finish k) i);
            })
          where
            on-clock : (k : Task) → (finish k ≤ b.now) ⊎ (stamped b.now k ∈ live_of b) → b.now ≤ i → Dec (finish k ≤ i)
                → (finish k ≤ (board_at b i).now) ⊎ (stamped (board_at b i).now k ∈ live_of (board_at b i))
            on-clock k x h d = after-clock b i k x h d

    -- A SUBMISSION
    honest-submit : (n : ℕ) (q : Ask) → q.id ≤ largest_id
        → Honest (outcome (with_board first_state b) (Submit n q)).state.board (ledger_after (with_board first_state b) ks (Submit n q))
    unfolding outcome ledger_after
    honest-submit n q i = go (submitted b n a).answer refl
      where
        a : Submission
        a = submission_of q

        go : (x : Answer) → (submitted b n a).answer ≡ x → Honest (submitted b n a).board (entered b a (submitted b n a).answer ks)
        go Rejected e = same (ap (λ y. y.board) (unplaced-same b n a Rejected e (λ c t f q. let w : ◌≡◌ {A = ℕ} 0 1 = cc in omega arith))) (ap (λ y. entered b a y ks) e ∙ entered-none)
          where
            entered-none : entered b a Rejected ks ≡ ks
            entered-none = unfold entered in refl
        go (Refused m) e = same (ap (λ y. y.board) (unplaced-same b n a (Refused m) e (λ c t f q. let w : ◌≡◌ {A = ℕ} 0 1 = cc in omega arith))) (ap (λ y. entered b a y ks) e ∙ entered-none)
          where
            entered-none : entered b a (Refused m) ks ≡ ks
            entered-none = unfold entered in refl
        go (Placed c t f) e = subst (λ y. Honest (submitted b n a).board y) (sym (ap (λ y. entered b a y ks) e ∙ entered-one)) placed
          where
            entered-one : entered b a (Placed c t f) ks ≡ booked b.now a t c ∷ ks
            entered-one = unfold entered in refl

            k : Task
            k = booked b.now a t c

            placed : Honest (submitted b n a).board (booked b.now a t c ∷ ks)
            placed = after-place b ks o s n a i c t f e

    -- A WITHDRAWAL
    honest-withdraw : (n : ℕ) → Honest (outcome (with_board first_state b) (Withdraw n)).state.board (ledger_after (with_board first_state b) ks (Withdraw n))
    unfolding outcome ledger_after
    honest-withdraw n = go (refused_withdraw b n) refl
      where
        go : (r : ℕ) → refused_withdraw b n ≡ r → Honest (withdrawn b n).board (struck b (withdrawn b n).number n ks)
        go (suc r) e =
            let d = refused-withdraw-same b n r e in
            same (ap (λ y. y.board) d) (ap (λ y. struck b y.number n ks) d ∙ struck-none)
          where
            struck-none : struck b (suc r) n ks ≡ ks
            struck-none = unfold struck in refl
        go zero e = after-withdrawal b ks o s n e

  -- on the board of zeros every event but a new board is refused
  module _ (z : b ≡ zero_board) where
    unsound : sound_board b ≡ false
    unsound = ap sound_board z ∙ zero-unsound

    zero-clock : (i : ℕ) → Honest (outcome (with_board first_state b) (Clock i)).state.board (ledger_after (with_board first_state b) ks (Clock i))
    unfolding outcome ledger_after
    zero-clock i = same (ap (λ x. x.board) (clocked-unsound b i unsound)) refl

    zero-submit : (n : ℕ) (q : Ask) → Honest (outcome (with_board first_state b) (Submit n q)).state.board (ledger_after (with_board first_state b) ks (Submit n q))
    unfolding outcome ledger_after entered
    zero-submit n q =
        let a = submission_of q in
        same (ap (λ x. x.board) (submit-unsound b n a unsound)) (ap (λ x. entered b a x.answer ks) (submit-unsound b n a unsound))

    zero-withdraw : (n : ℕ) → Honest (outcome (with_board first_state b) (Withdraw n)).state.board (ledger_after (with_board first_state b) ks (Withdraw n))
    unfolding outcome ledger_after struck
    zero-withdraw n = same (ap (λ x. x.board) (withdrawn-unsound b n unsound)) (ap (λ x. struck b x.number n ks) (withdrawn-unsound b n unsound))

-- AFTER EVERY EVENT
pub honest-event : (s : State) (ks : List Task) (v : Event) → Named v → Honest s.board ks → Honest (outcome s v).state.board (ledger_after s ks v)
honest-event s ks v m o = go o.standing v m
  where
    b : Board
    b = s.board

    go : SoundBoard b ⊎ (b ≡ zero_board) → (w : Event) → Named w → Honest (outcome s w).state.board (ledger_after s ks w)
    go x w (new W H) = honest-new b ks o W H
    go x w (gridded W H g) = honest-grid b ks o W H g
    go (inl x) w (submit n a i) = honest-submit b ks o x n a i
    go (inl x) w (clock i) = honest-clock b ks o x i
    go (inl x) w (withdraw n) = honest-withdraw b ks o x n
    go (inr z) w (submit n a i) = zero-submit b ks o z n a
    go (inr z) w (clock i) = zero-clock b ks o z i
    go (inr z) w (withdraw n) = zero-withdraw b ks o z n

-- OVER A SESSION, from a board that is sound or is the board of zeros
pub honest-session : (c : Account) (vs : List Event) → ((v : Event) → v ∈ vs → Named v) → Honest c.state.board c.promises
    → Honest (account_after c vs).state.board (account_after c vs).promises
unfolding account_after
honest-session c [] f o = o
honest-session c (v ∷ vs) f o =
    honest-session (record { state = (outcome c.state v).state; promises = ledger_after c.state c.promises v }) vs (λ w m. f w (there m))
    (honest-event c.state c.promises v (f v (here refl)) o)

-- nothing is promised yet
pub honest-none : (b : Board) → SoundBoard b ⊎ (b ≡ zero_board) → Honest b []
honest-none b x = record { standing = x; apart = empty; due = λ k m. absurd (nowhere m); stands = λ k m. absurd (nowhere m) }

pub honest-from : (s : State) (vs : List Event) → SoundBoard s.board ⊎ (s.board ≡ zero_board) → ((v : Event) → v ∈ vs → Named v)
    → let c = account_after (record { state = s; promises = [] }) vs in Honest c.state.board c.promises
honest-from s vs x f = honest-session (record { state = s; promises = [] }) vs f (honest-none s.board x)
