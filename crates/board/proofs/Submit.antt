-- A submission to a sound board: its live table serves the refusals, the planners and the booking. Assumes nothing.
use Prim.Native.Nat.{ℕ, zero, suc, ◌+◌, ◌%◌, ◌≤◌, ◌<◌}
use mathlib.Core.Path.{◌≡◌, refl, sym, ap, ◌∙◌, subst}
use mathlib.Core.Logic.{◌⊎◌, inl, inr}
use mathlib.Core.Bool.{Bool, false, not}
use mathlib.Core.Option.{Option, none, some}
use mathlib.Core.List.{List, map}
use native.Mathlib.Omega.{arith}
use lib.Dec.{T, leb, eqb, leb→le, le→leb, ltb→lt, nltb→le}
use lib.ListN.{length, set}
use Rattle.lists.specs.Lists.{◌∈◌, some?, index_of, range}
use Rattle.lists.proofs.Bools.{bool, not-not, same_bool}
use Rattle.lists.proofs.Members.{none_pass, some-pass, keep_all, keep-fewer}
use Rattle.lists.proofs.Append.{index-test, put-index}
use Rattle.ways.specs.Ways.{pair}
use Rattle.tasks.specs.declared.Task.{Task}
use Rattle.tasks.specs.declared.Submission.{Submission}
use Rattle.tasks.specs.Tasks.{live, stamped, booked, meets}
use Rattle.tasks.specs.Numbers.{last_instant, last_planner}
use Rattle.std.specs.Prelude.{Some, None, Option as Answer}
use Rattle.planners.specs.declared.Place.{Place as FoundPlace}
use Rattle.planners.specs.Openings.{Place, full, ways}
use Rattle.planners.specs.Planners.{reference, horizon, stuffing, planned, clear_of_waiting, candidates, released_edges, visited}
use Rattle.planners.specs.declared.Window.{Window}
use Rattle.planners.specs.Lent.{found_of, Fits, asked, wanted}
use Rattle.planners.proofs.Planners.{planned-opens}
use Rattle.planners.proofs.Bare.{stuffing-bare, reference-bare, horizon-bare, full-bare}
use Rattle.planners.proofs.Orderless.{planned-orderless}
use Rattle.slots.specs.Slots.{live_in, known, with_booked}
use Rattle.live.specs.Live.{id_at, bare, tasks_of, Masked, LentTo}
use Rattle.live.specs.Kept.{Kept, lowest_free}
use Rattle.live.proofs.Planned.{same-tasks, known_same, kept-lent-to}
use Rattle.board.specs.declared.Board.{Board}
use Rattle.board.specs.declared.Answer.TheVariants.{Rejected, Placed, Refused}
use Rattle.board.specs.declared.Submitted.{Submitted}
use Rattle.board.specs.Answers.{told}
use Rattle.board.specs.Refusals.{refusal, live_of, sound_board, refused_submit}
use Rattle.board.specs.Calls.{or_refused, with_tasks, with_task, taken, answered, submitted}
use Rattle.board.specs.Standing.{submitted_booked}
use Rattle.refusals.specs.Refusals.{submit_tests}
use Rattle.refusals.proofs.First.{sound-passes, unsound-refused}
use Rattle.board.proofs.Kept.{Accepted, submit-accepted}
use Rattle.board.proofs.OnGrid.{board-planned}

pub submit-unsound : (b : Board) (n : ℕ) (a : Submission) → sound_board b ≡ false → submitted b n a ≡ record { answer = Refused 1; board = b }
unfolding submitted refused_submit or_refused
submit-unsound b n a e = rw (unsound-refused (sound_board b) (submit_tests b.device b.now n a (known a.id b.tasks) (leb 64 (length (live_of b)))) e)

-- what was found is the place
pub found_none : (q : Option Place) → None ≡ found_of q → q ≡ none
found_none none e = refl
found_none (some p) e = cc

pub found_some : (q : Option Place) {c t : ℕ} → Some (record { column = c; start = t }) ≡ found_of q → q ≡ some (pair t c)
found_some none e = cc
found_some (some p) {c} {t} e =
    let r : ◌≡◌ {A = FoundPlace} (record { column = c; start = t }) (record { column = p.place; start = p.start }) = cc in
    let x : c ≡ p.place = ap (λ (q : FoundPlace). q.column) r in
    let y : t ≡ p.start = ap (λ (q : FoundPlace). q.start) r in λ i. some (pair (sym y i) (sym x i))

-- a task that is not refused is answered by its planner
pub accepted-answered : (b : Board) (n : ℕ) (a : Submission) → refused_submit b n a ≡ 0 → submitted b n a ≡ taken b a (planned b.device.grid b.device.columns b.now (live_of b) a n)
unfolding submitted answered or_refused
accepted-answered b n a e = rw e

-- with fewer than 64 live tasks a slot is free
pub free-inside : (b : Board) (n : ℕ) (a : Submission) → Accepted b n a → index_of (λ k. not (live k)) b.tasks < 64
free-inside b n a k = go (bool (some? is_free b.tasks))
  where
    is_free : Task → Bool
    is_free l = not (live l)

    all_live : T (not (some? is_free b.tasks)) → (l : Task) → l ∈ b.tasks → T (live l)
    all_live t l m = not-not (live l) (none_pass is_free b.tasks t m)

    go : T (some? is_free b.tasks) ⊎ T (not (some? is_free b.tasks)) → index_of is_free b.tasks < 64
    go (inl t) = subst (λ x. index_of is_free b.tasks < x) k.sound.slots (ltb→lt (index_of is_free b.tasks) (length b.tasks) (subst T (index-test is_free b.tasks) t))
    go (inr t) = absurd (let e : length (live_of b) ≡ length b.tasks = ap length (keep_all live b.tasks (all_live t)) in omega (arith, k.room, k.sound.slots))

-- the booking stands in the lowest free slot
pub booked-there : (b : Board) (a : Submission) (c t free : ℕ) → free ≡ index_of (λ k. not (live k)) b.tasks
    → taken b a (some (pair t c)) ≡ submitted_booked b a free c t
unfolding taken with_task with_booked
booked-there b a c t free e =
    ap (λ ks. record { answer = Placed c t (t + a.e); board = with_tasks b ks })
    (put-index (λ k. not (live k)) (booked b.now a t c) b.tasks ∙ ap (λ i. set b.tasks i (booked b.now a t c)) (sym e))

-- THE PROMISE: the answer, the board, and document 01's number and values
pub promised : (r q : Submitted) → r ≡ q → (r ≡ q) × (told r.answer ≡ told q.answer)
promised r q e = (e, ap (λ x. told x.answer) e)

-- every slot is taken exactly if 64 tasks are live
full-slots : (ks : List Task) → length ks ≡ 64 → leb 64 (lowest_free ks) ≡ leb 64 (length (live_in ks))
full-slots ks z = same_bool (leb 64 (index_of is_free ks)) (leb 64 (length (live_in ks))) to back
  where
    is_free : Task → Bool
    is_free k = not (live k)

    to : T (leb 64 (index_of is_free ks)) → T (leb 64 (length (live_in ks)))
    to t = go (bool (some? is_free ks))
      where
        go : T (some? is_free ks) ⊎ T (not (some? is_free ks)) → T (leb 64 (length (live_in ks)))
        go (inl u) = absurd (let a = ltb→lt (index_of is_free ks) (length ks) (subst T (index-test is_free ks) u) in let b = leb→le 64 (index_of is_free ks) t in omega arith)
        go (inr u) = le→leb 64 (length (live_in ks)) (let e = ap length (keep_all live ks (λ k m. not-not (live k) (none_pass is_free ks u m))) in omega arith)

    back : T (leb 64 (length (live_in ks))) → T (leb 64 (index_of is_free ks))
    back t = go (bool (some? is_free ks))
      where
        go : T (some? is_free ks) ⊎ T (not (some? is_free ks)) → T (leb 64 (index_of is_free ks))
        go (inl u) = absurd (let p = some-pass is_free ks u in let l = keep-fewer live ks p.among p.passes in let b = leb→le 64 (length (live_in ks)) t in omega arith)
        go (inr u) = le→leb 64 (index_of is_free ks) (let e = nltb→le (index_of is_free ks) (length ks) (subst (λ b. T (not b)) (index-test is_free ks) u) in omega arith)

module _ (b : Board) (n : ℕ) (a : Submission) (count free : ℕ) (rows : List ℕ) (o : Kept b.device b.now b.tasks count rows) (l : free ≡ lowest_free b.tasks) where
  -- the refusals of the book are the code's
  pub refused-after : {used : Bool} → used ≡ some? (λ (i : ℕ). eqb (id_at rows i) a.id) (range 0 count)
      → refused_submit b n a ≡ refusal (submit_tests b.device b.now n a used (leb 64 free))
  unfolding refused_submit
  refused-after {used} e =
      sound-passes (sound_board b) (submit_tests b.device b.now n a (known a.id b.tasks) (leb 64 (length (live_of b)))) o.good
      ∙ ap (λ x. refusal (submit_tests b.device b.now n a x (leb 64 (length (live_of b))))) (sym (e ∙ known_same b.device b.now b.tasks count rows o.stands o.good a.id))
      ∙ ap (λ full. refusal (submit_tests b.device b.now n a used full)) (sym (full-slots b.tasks o.stands.slots) ∙ ap (leb 64) (sym l))

  pub refused-same : {r : ℕ} {used : Bool} → used ≡ some? (λ (i : ℕ). eqb (id_at rows i) a.id) (range 0 count)
      → r ≡ refusal (submit_tests b.device b.now n a used (leb 64 free)) → 0 < r → submitted b n a ≡ record { answer = Refused r; board = b }
  unfolding submitted
  refused-same {r} {used} e q h = go r (refused-after e ∙ sym q) h
    where
      go : (k : ℕ) → refused_submit b n a ≡ k → 0 < k → submitted b n a ≡ record { answer = Refused k; board = b }
      go zero z l = absurd (omega arith)
      go (suc k) z l = unfold or_refused in rw z

  accepted : {r : ℕ} {used : Bool} → used ≡ some? (λ (i : ℕ). eqb (id_at rows i) a.id) (range 0 count)
      → r ≡ refusal (submit_tests b.device b.now n a used (leb 64 free)) → r ≡ 0 → Accepted b n a
  accepted e q z = submit-accepted b n a (refused-after e ∙ sym q ∙ z)

  -- the planners' answers, which the code finds as with g = 1, are the book's
  planned-lent : Accepted b n a
      → planned 1 b.device.columns b.now (tasks_of count rows) (asked a.w a.e a.d) n ≡ planned b.device.grid b.device.columns b.now (live_of b) a n
  planned-lent k =
      planned-orderless (same-tasks b.device b.now b.tasks count rows o.stands o.good) 1 W b.now (asked a.w a.e a.d) n
      ∙ by n k.planner ∙ sym (board-planned b a k.sound k.stepped n)
    where
      W : ℕ
      W = b.device.columns

      ts : List Task
      ts = live_of b

      by : (m : ℕ) → m ≤ last_planner → planned 1 W b.now (map bare ts) (asked a.w a.e a.d) m ≡ planned 1 W b.now ts a m
      by zero h = unfold planned in reference-bare 1 W b.now ts (asked a.w a.e a.d) ∙ (unfold reference candidates clear_of_waiting booked stamped meets in refl)
      by (suc zero) h = unfold planned in horizon-bare 1 W b.now ts (asked a.w a.e a.d) ∙ (unfold horizon released_edges visited in refl)
      by (suc (suc zero)) h = unfold planned in stuffing-bare 1 W b.now ts (asked a.w a.e a.d) ∙ (unfold stuffing candidates clear_of_waiting visited booked stamped meets in refl)
      by (suc (suc (suc zero))) h = unfold planned in full-bare 1 W b.now ts (asked a.w a.e a.d) ∙ (unfold full ways booked stamped meets in refl)
      by (suc (suc (suc (suc m)))) h = absurd (omega arith)

  -- A TASK THAT IS NOT REFUSED
  module _ {r : ℕ} {used : Bool} (e : used ≡ some? (λ (i : ℕ). eqb (id_at rows i) a.id) (range 0 count))
      (q : r ≡ refusal (submit_tests b.device b.now n a used (leb 64 free))) (z : r ≡ 0) where
    k : Accepted b n a
    k = accepted e q z

    none-refused : refused_submit b n a ≡ 0
    none-refused = refused-after e ∙ sym q ∙ z

    -- what is asked of the planner
    abbrev window : Window
    window = record { width = b.device.columns; clock = b.now; w = a.w; e = a.e; d = a.d }

    -- what `place` asks
    pub may-ask : {masks : List ℕ} → ((n ≡ 1 → ⊥) → (n ≡ 2 → ⊥) → Masked count rows masks) → (n ≤ last_planner) × LentTo n b.device.columns count rows masks × Fits window
    may-ask m = (k.planner, kept-lent-to o m, record { wide = k.w.low; columns = k.w.high; long = k.e.low; in-time = k.reachable; until = k.d })

    -- no place was found: the rejection
    pub rejected : {f : Answer FoundPlace} → f ≡ found_of (planned 1 b.device.columns b.now (tasks_of count rows) (wanted window) n) → f ≡ None → Rejected ≡ (submitted b n a).answer
    unfolding taken
    rejected x y =
        let m = found_none (planned b.device.grid b.device.columns b.now (live_of b) a n) (sym y ∙ x ∙ ap found_of (planned-lent k)) in
        sym (ap (λ s. s.answer) (accepted-answered b n a none-refused ∙ ap (taken b a) m))

    -- a place was found
    pub record Settled (c t : ℕ) : Type 0 where
      pub fits : t + a.e ≤ last_instant
      pub same : Placed (c % 65536) t (t + a.e) ≡ (submitted b n a).answer

    pub settled : {f : Answer FoundPlace} {c t : ℕ} → f ≡ found_of (planned 1 b.device.columns b.now (tasks_of count rows) (wanted window) n) → f ≡ Some (record { column = c; start = t }) → Settled c t
    unfolding taken
    settled {f} {c} {t} x y =
        let m = found_some (planned b.device.grid b.device.columns b.now (live_of b) a n) (sym y ∙ x ∙ ap found_of (planned-lent k)) in
        let w = planned-opens b.device.grid b.device.columns b.now (live_of b) a k.reachable n m in
        let u : c % 65536 ≡ c = omega (arith, w.on-device, k.sound.columns.high) in
        record {
          fits = omega (arith, w.in-time, k.d);
          same = ap (λ h. Placed h t (t + a.e)) u ∙ sym (ap (λ s. s.answer) (accepted-answered b n a none-refused ∙ ap (taken b a) m));
        }
