-- A refusal is the number of the first row of document 01's table that holds, for each call, and 0 is given where none does. Assumes nothing.
use Prim.Native.Nat.{ℕ, zero, suc, ◌+◌, ◌*◌, ◌/◌, ◌≤◌, ◌<◌}
use mathlib.Core.Path.{◌≡◌, refl, sym, ap, ◌∙◌, subst}
use mathlib.Core.Logic.{◌⊎◌, inl, inr}
use mathlib.Core.Bool.{Bool, true, false, not, ◌&&◌}
use mathlib.Core.List.Memᴰ.{head as first_of}
use mathlib.Core.List.Memᴰ.{tail as later-of}
use mathlib.Core.List.{List, [], ◌∷◌, ◌++◌}
use mathlib.Core.Option.{Option, none, some}
use native.Mathlib.Omega.{arith}
use native.Mathlib.Decide.{dec_lt}
use lib.Dec.{T, leb, ltb, eqb, leb→le, le→leb, ltb→lt, lt→ltb, eqb→eq, eqb_refl, T_not, not_T}
use lib.ListN.{length}
use Rattle.lists.specs.Lists.{◌∈◌, all?, pairwise?}
use Rattle.lists.proofs.Bools.{and_l, and_r, and_i, is_true, is_false}
use Rattle.lists.proofs.Members.{keep-in, in-keep, some-pass, pass-some}
use Rattle.tasks.specs.declared.Phase.{Phase}
use Rattle.tasks.specs.declared.Phase.TheVariants.{Ended, Waiting, Running}
use Rattle.tasks.specs.declared.Submission.{Submission}
use Rattle.tasks.specs.Numbers.{within, multiple, device, device_fits, longest, last_instant}
use Rattle.laxity.specs.Laxity.{laxity, most_laxity}
use Rattle.tasks.specs.Tasks.{live, live_phase, waiting_phase}
use Rattle.tasks.proofs.Grid.{multiple-steps, multiple-times}
use Rattle.tasks.proofs.Laws.{within-out, within_in}
use Rattle.slots.specs.Slots.{named, known, begun_named}
use Rattle.slots.proofs.Soundness.{sound-out, sound-in}
use Rattle.refusals.specs.Refusals.{Test, refusal, unsound, bad_size, bad_time, too_lax, create_tests, submit_tests, instant_tests, withdraw_tests, openings_tests, horizon_tests}
use Rattle.board.specs.declared.Board.{Board}
use Rattle.board.specs.Refusals.{live_of, sound_board, horizon_of}
use Rattle.board.specs.declared.Answer.TheVariants.{Refused}
use Rattle.board.specs.Refusals.{refused_submit}
use Rattle.board.specs.Calls.{or_refused, taken, answered, submitted}
use Rattle.planners.specs.Openings.{Place}
use Rattle.planners.specs.Planners.{planned}
use Rattle.events.specs.Records.{Reading, read_from}
use Rattle.events.proofs.Found.{Found, got, cut as is_cut, none as no_kind, found, known as known-kind, short, unknown as unknown-kind}
use Rattle.events.proofs.Calls.{judges-none}
use Rattle.promises.proofs.Clauses.{Reads, at-end, whole, cut, unknown}
use Rattle.promises.proofs.Clauses.{Row, ◌when◌, First, this, later, Clear, empty, next, Given, done, refused, Holding, here, there, numbers, Rises, Outside, Steps, LiveTask}
use Rattle.promises.proofs.Clauses.{not_sound, bad-size, bad-time, too-lax, new-board-rows, submission-rows, instant-rows, withdrawal-rows, openings-rows, horizon-rows}

-- TESTS AND ROWS: each test has the number of its row, and holds exactly when the row does
pub record Decided (s : Test) (r : Row) : Type 1 where
  pub number : s.number ≡ r.number
  pub some : 0 < r.number
  pub to : T s.holds → r.given
  pub back : r.given → T s.holds

pub data Decides : List Test → List Row → Type 1 where
  end : Decides [] []
  row : {s : Test} {r : Row} {ts : List Test} {rows : List Row} → Decided s r → Decides ts rows → Decides (s ∷ ts) (r ∷ rows)

fails : {s : Test} {r : Row} → Decided s r → (r.given → ⊥) → s.holds ≡ false
fails {s} d f = is_false s.holds (not_T s.holds (λ t. f (d.to t)))

-- THE FIRST ROW THAT HOLDS GIVES THE REFUSAL
pub first-refusal : {ts : List Test} {rows : List Row} {k : ℕ} → Decides ts rows → First rows k → refusal ts ≡ k
unfolding refusal
first-refusal {k = k} end h = elim h [ ]
first-refusal (row {s} d ds) (this h) = rw (is_true s.holds (d.back h)) d.number
first-refusal (row d ds) (later f h) = rw (fails d f) (first-refusal ds h)

-- and 0 is given where none does
pub clear-refusal : {ts : List Test} {rows : List Row} → Decides ts rows → Clear rows → refusal ts ≡ 0
unfolding refusal
clear-refusal end empty = refl
clear-refusal (row d ds) (next f h) = rw (fails d f) (clear-refusal ds h)

-- no refusal is given by another
pub refusal-first : {ts : List Test} {rows : List Row} → Decides ts rows → Clear rows ⊎ First rows (refusal ts)
unfolding refusal
refusal-first end = inl empty
refusal-first (row {s} {r} {ts} {rows} d ds) = by s.holds refl (refusal-first ds)
  where
    by : (b : Bool) → s.holds ≡ b → Clear rows ⊎ First rows (refusal ts) → Clear (r ∷ rows) ⊎ First (r ∷ rows) (elim b [ true ↦ s.number | false ↦ refusal ts ])
    by true e q = inr (subst (First (r ∷ rows)) (sym d.number) (this (d.to (rw e tt))))
    by false e (inl c) = inl (next (λ g. subst T e (d.back g)) c)
    by false e (inr f) = inr (later (λ g. subst T e (d.back g)) f)

-- a number of a row is not 0
pub first_some : {ts : List Test} {rows : List Row} {k : ℕ} → Decides ts rows → First rows k → 0 < k
first_some {k = k} end h = elim h [ ]
first_some (row d ds) (this h) = d.some
first_some (row d ds) (later f h) = first_some ds h

-- ONE NUMBER only is given
pub first-once : {rows : List Row} {j k : ℕ} → First rows j → First rows k → j ≡ k
first-once (this h) (this g) = refl
first-once (this h) (later f g) = absurd (f h)
first-once (later f h) (this g) = absurd (f g)
first-once (later f h) (later e g) = first-once h g

pub clear_first : {rows : List Row} {k : ℕ} → Clear rows → First rows k → ⊥
clear_first {k = k} empty h = elim h [ ]
clear_first (next f c) (this g) = f g
clear_first (next f c) (later e g) = clear_first c g

pub given-once : {rows : List Row} {j k : ℕ} → Given rows j → Given rows k → j ≡ k
given-once (done c p) (done d q) = p ∙ sym q
given-once (done c p) (refused f q) = absurd (clear_first c f)
given-once (refused f p) (done c q) = absurd (clear_first c f)
given-once (refused f p) (refused g q) = first-once f g

-- NO ROW BEHIND ONE THAT HOLDS WINS: the number given stands in front of it, or is its own
pub first-before : (before : List Row) (r : Row) (after : List Row) {k : ℕ} → First (before ++ (r ∷ after)) k → r.given → k ∈ numbers (before ++ (r ∷ []))
first-before [] r after (this g) h = first_of refl
first-before [] r after (later f g) h = absurd (f h)
first-before (x ∷ before) r after (this g) h = first_of refl
first-before (x ∷ before) r after (later f g) h = later-of (first-before before r after g h)

-- FIRST IS LOWEST where the numbers rise
pub first-lowest : {rows : List Row} {k j : ℕ} → Rises rows → First rows k → Holding rows j → k ≤ j
unfolding pairwise? all?
first-lowest z (this h) (here g) = omega arith
first-lowest z (this {r} {rows} h) (there g) = over rows (and_l (all? (ltb r.number) (numbers rows)) (pairwise? ltb (numbers rows)) z) g
  where
    over : (rows : List Row) {j : ℕ} → T (all? (ltb r.number) (numbers rows)) → Holding rows j → r.number ≤ j
    over [] a h = elim h [ ]
    over (y ∷ rows) a (here g) =
        let l = ltb→lt r.number y.number (and_l (ltb r.number y.number) (all? (ltb r.number) (numbers rows)) a) in
        omega arith
    over (y ∷ rows) a (there g) = over rows (and_r (ltb r.number y.number) (all? (ltb r.number) (numbers rows)) a) g
first-lowest z (later f h) (here g) = absurd (f g)
first-lowest z (later {r} {rows} f h) (there g) =
    first-lowest (and_r (all? (ltb r.number) (numbers rows)) (pairwise? ltb (numbers rows)) z) h g

-- A CALL that refuses by the number of its tests, and is done where they give 0
module _ {A : Type 0} (refusing : ℕ → A) (doing : A) {ts : List Test} {rows : List Row} (d : Decides ts rows) where
  abbrev call : A
  call = or_refused (refusal ts) refusing doing

  pub first-refused : {k : ℕ} → First rows k → call ≡ refusing k
  unfolding or_refused
  first-refused {k} f = by k (first-refusal d f) (first_some d f)
    where
      by : (k : ℕ) → refusal ts ≡ k → 0 < k → call ≡ refusing k
      by zero e p = absurd (omega arith)
      by (suc k) e p = rw e

  pub clear-done : Clear rows → call ≡ doing
  unfolding or_refused
  clear-done c = rw (clear-refusal d c)

  -- the number that is told of a call: 0 of what is done, the refusal's own of a refusal
  pub told-given : (number : A → ℕ) → number doing ≡ 0 → ((k : ℕ) → number (refusing k) ≡ k) → Given rows (number call)
  told-given number z n = by (refusal-first d)
    where
      by : Clear rows ⊎ First rows (refusal ts) → Given rows (number call)
      by (inl c) = done c (ap number (clear-done c) ∙ z)
      by (inr f) =
          let e = sym (ap number (first-refused f) ∙ n (refusal ts)) in
          refused (subst (First rows) e f) (subst (λ k. 0 < k) e (first_some d f))

  -- an answer that what is done is not is a refusal's
  pub only-first : (P : A → Type 0) → (P doing → ⊥) → P call → (k : ℕ) × First rows k × P (refusing k)
  only-first P never p = by (refusal-first d)
    where
      by : Clear rows ⊎ First rows (refusal ts) → (k : ℕ) × First rows k × P (refusing k)
      by (inl c) = absurd (never (subst P (clear-done c) p))
      by (inr f) = (refusal ts, f, subst P (first-refused f) p)

-- ROW BY ROW: what each test of the book decides
outside-out : (lo hi n : ℕ) → T (not (within lo hi n)) → Outside lo hi n
outside-out lo hi n t = by (dec_lt n lo) (dec_lt hi n)
  where
    by : Dec (n < lo) → Dec (hi < n) → Outside lo hi n
    by (yes l) q = inl l
    by (no l) (yes h) = inr h
    by (no l) (no h) = absurd (T_not (within lo hi n) t (within_in lo hi n (record { low = omega arith; high = omega arith })))

outside-in : (lo hi n : ℕ) → Outside lo hi n → T (not (within lo hi n))
outside-in lo hi n (inl l) = not_T (within lo hi n) (λ t. let w = within-out lo hi n t in omega arith)
outside-in lo hi n (inr h) = not_T (within lo hi n) (λ t. let w = within-out lo hi n t in omega arith)

-- a multiple is so many steps
pub steps-out : (g n : ℕ) → T (multiple g n) → Steps g n
steps-out g n t = (n / g, sym (multiple-times g n t))

pub steps-in : (g n : ℕ) → Steps g n → T (multiple g n)
steps-in g n (k, e) = subst (λ x. T (multiple g x)) (sym e) (multiple-steps g k)

off-out : (g n : ℕ) → T (not (multiple g n)) → Steps g n → ⊥
off-out g n t s = T_not (multiple g n) t (steps-in g n s)

off-in : (g n : ℕ) → (Steps g n → ⊥) → T (not (multiple g n))
off-in g n f = not_T (multiple g n) (λ t. f (steps-out g n t))

-- a test of two that fails, fails in one
module _ (p q : Bool) {P Q : Type 0} where
  either-out : (T (not p) → P) → (T (not q) → Q) → T (not (p && q)) → P ⊎ Q
  either-out f g t = by p q refl refl t
    where
      by : (x y : Bool) → p ≡ x → q ≡ y → T (not (x && y)) → P ⊎ Q
      by false y e d t = inl (f (rw e tt))
      by true false e d t = inr (g (rw d tt))
      by true true e d t = absurd t

  either-in : (P → T (not p)) → (Q → T (not q)) → P ⊎ Q → T (not (p && q))
  either-in f g (inl x) = not_T (p && q) (λ t. T_not p (f x) (and_l p q t))
  either-in f g (inr y) = not_T (p && q) (λ t. T_not q (g y) (and_r p q t))

over-out : (hi n : ℕ) → T (not (leb n hi)) → hi < n
over-out hi n t = lib.Dec.nleb→lt n hi t

over-in : (hi n : ℕ) → hi < n → T (not (leb n hi))
over-in hi n h = not_T (leb n hi) (λ t. let l = leb→le n hi t in omega arith)

module _ (b : Board) where
  is-not-sound : Decided (unsound (sound_board b)) (not_sound b)
  is-not-sound = record {
    number = refl;
    some = omega arith;
    to = λ t s. T_not (sound_board b) t (sound-in b.device b.now b.tasks s);
    back = λ f. not_T (sound_board b) (λ t. f (sound-out b.device b.now b.tasks t));
  }

  is-bad-size : (a : Submission) → Decided (bad_size b.device a) (bad-size b a)
  is-bad-size a = record {
    number = refl;
    some = omega arith;
    to = either-out (w && h) s (either-out w h (outside-out 1 b.device.columns a.w) (outside-out 1 b.device.rows a.h)) (off-out b.device.grid a.w);
    back = either-in (w && h) s (either-in w h (outside-in 1 b.device.columns a.w) (outside-in 1 b.device.rows a.h)) (off-in b.device.grid a.w);
  }
    where
      w : Bool
      w = within 1 b.device.columns a.w

      h : Bool
      h = within 1 b.device.rows a.h

      s : Bool
      s = multiple b.device.grid a.w

  is-bad-time : (a : Submission) → Decided (bad_time a) (bad-time a)
  is-bad-time a = record {
    number = refl;
    some = omega arith;
    to = either-out e d (outside-out 1 longest a.e) (over-out last_instant a.d);
    back = either-in e d (outside-in 1 longest a.e) (over-in last_instant a.d);
  }
    where
      e : Bool
      e = within 1 longest a.e

      d : Bool
      d = leb a.d last_instant

  -- a number below another
  is_below : (n : ℕ) → 0 < n → (x y : ℕ) → Decided (record { number = n; holds = ltb x y }) (n when (x < y))
  is_below n p x y = record { number = refl; some = p; to = ltb→lt x y; back = lt→ltb x y }

  is-too-lax : (a : Submission) → Decided (too_lax b.now a) (too-lax b a)
  is-too-lax a =
      let l = laxity b.now a.e a.d in
      record {
        number = refl;
        some = omega arith;
        to = λ t. let h = ltb→lt most_laxity l t in omega (arith, h);
        back = λ h. lt→ltb most_laxity l (omega (arith, h));
      }

  -- a live task of an id, by the test over the slots
  known-live : (n : ℕ) → T (known n b.tasks) → LiveTask b n
  unfolding known named
  known-live n t =
      let p = some-pass (named n) b.tasks t in
      let k = p.it in
      record {
        task = k;
        among = in-keep live p.among (and_l (live k) (eqb k.id n) p.passes);
        id = eqb→eq k.id n (and_r (live k) (eqb k.id n) p.passes);
      }

  is-named : (n : ℕ) (k : LiveTask b n) → (k.task ∈ b.tasks) × T (named n k.task)
  unfolding named
  is-named n k =
      let m = keep-in live b.tasks k.among in
      (m.0, and_i (live k.task) (eqb k.task.id n) m.1 (rw k.id (eqb_refl n)))

  live-known : (n : ℕ) → LiveTask b n → T (known n b.tasks)
  unfolding known
  live-known n k = let m = is-named n k in pass-some (named n) b.tasks m.0 m.1

  -- and whether it has begun
  begun-running : (n : ℕ) → T (begun_named n b.tasks) → (k : LiveTask b n) × (k.task.phase ≡ Running)
  unfolding begun_named named
  begun-running n t =
      let p = some-pass (λ k. named n k && not (waiting_phase k.phase)) b.tasks t in
      let k = p.it in
      let q = and_l (named n k) (not (waiting_phase k.phase)) p.passes in
      let l = and_l (live k) (eqb k.id n) q in (
        record { task = k; among = in-keep live p.among l; id = eqb→eq k.id n (and_r (live k) (eqb k.id n) q) },
        runs k.phase l (and_r (named n k) (not (waiting_phase k.phase)) p.passes),
      )
    where
      runs : (p : Phase) → T (live_phase p) → T (not (waiting_phase p)) → p ≡ Running
      runs Ended l w = absurd l
      runs Waiting l w = absurd w
      runs Running l w = refl

  running-begun : (n : ℕ) → (k : LiveTask b n) × (k.task.phase ≡ Running) → T (begun_named n b.tasks)
  unfolding begun_named
  running-begun n (k, e) =
      let m = is-named n k in
      pass-some (λ k. named n k && not (waiting_phase k.phase)) b.tasks m.0
      (and_i (named n k.task) (not (waiting_phase k.task.phase)) m.1 (rw e tt))

  -- CALL BY CALL: its tests decide its rows
  pub decides-submission : (n : ℕ) (a : Submission)
      → Decides (unsound (sound_board b) ∷ submit_tests b.device b.now n a (known a.id b.tasks) (leb 64 (length (live_of b)))) (submission-rows b n a)
  decides-submission n a =
      row is-not-sound (row (is_below 3 (omega arith) 3 n) (row zero-id (row (is-bad-size a) (row (is-bad-time a)
      (row live-id
      (row (is_below 8 (omega arith) a.d (b.now + a.e)) (row (is-too-lax a) (row full end))))))))
    where
      zero-id : Decided (record { number = 4; holds = eqb a.id 0 }) (4 when (a.id ≡ 0))
      zero-id = record { number = refl; some = omega arith; to = eqb→eq a.id 0; back = λ e. rw e tt }

      live-id : Decided (record { number = 7; holds = known a.id b.tasks }) (7 when LiveTask b a.id)
      live-id = record { number = refl; some = omega arith; to = known-live a.id; back = live-known a.id }

      full : Decided (record { number = 9; holds = leb 64 (length (live_of b)) }) (9 when (64 ≤ length (live_of b)))
      full = record { number = refl; some = omega arith; to = leb→le 64 (length (live_of b)); back = le→leb 64 (length (live_of b)) }

  pub decides-instant : (i : ℕ) → Decides (unsound (sound_board b) ∷ instant_tests b.now i) (instant-rows b i)
  decides-instant i =
      row is-not-sound (row (is_below 11 (omega arith) i b.now) (row (is_below 12 (omega arith) last_instant i) end))

  pub decides-withdrawal : (n : ℕ) → Decides (unsound (sound_board b) ∷ withdraw_tests (known n b.tasks) (begun_named n b.tasks)) (withdrawal-rows b n)
  decides-withdrawal n = row is-not-sound (row not_live (row begun end))
    where
      not_live : Decided (record { number = 13; holds = not (known n b.tasks) }) (13 when (LiveTask b n → ⊥))
      not_live = record {
        number = refl;
        some = omega arith;
        to = λ t k. T_not (known n b.tasks) t (live-known n k);
        back = λ f. not_T (known n b.tasks) (λ t. f (known-live n t));
      }

      begun : Decided (record { number = 14; holds = begun_named n b.tasks }) (14 when ((k : LiveTask b n) × (k.task.phase ≡ Running)))
      begun = record { number = refl; some = omega arith; to = begun-running n; back = running-begun n }

  pub decides-openings : (a : Submission) → Decides (unsound (sound_board b) ∷ openings_tests b.device b.now a) (openings-rows b a)
  decides-openings a =
      row is-not-sound (row (is-bad-size a) (row (is-bad-time a) (row (is_below 8 (omega arith) a.d (b.now + a.e)) (row (is-too-lax a) end))))

  pub decides-horizon : (words : ℕ) → Decides (unsound (sound_board b) ∷ horizon_tests (length (horizon_of b)) words) (horizon-rows b words)
  decides-horizon words = row is-not-sound (row (is_below 17 (omega arith) words (3 * length (horizon_of b))) end)

pub decides-new-board : (W H g : ℕ) → Decides (create_tests (device W H g)) (new-board-rows W H g)
decides-new-board W H g = row size end
  where
    w : Bool
    w = within 1 256 W

    h : Bool
    h = within 1 1024 H

    s : Bool
    s = within 1 16 g

    size : Decided (record { number = 2; holds = not (device_fits (device W H g)) }) (2 when (((Outside 1 256 W ⊎ Outside 1 1024 H) ⊎ Outside 1 16 g) ⊎ (Steps g W → ⊥)))
    size = record {
      number = refl;
      some = omega arith;
      to = either-out (w && h && s) (multiple g W) (either-out (w && h) s (either-out w h (outside-out 1 256 W) (outside-out 1 1024 H)) (outside-out 1 16 g)) (off-out g W);
      back = either-in (w && h && s) (multiple g W) (either-in (w && h) s (either-in w h (outside-in 1 256 W) (outside-in 1 1024 H)) (outside-in 1 16 g)) (off-in g W);
    }

-- A REFUSED SUBMISSION has the number of its first row that holds
pub refused-first : (b : Board) (n : ℕ) (a : Submission) (k : ℕ) → (submitted b n a).answer ≡ Refused k → First (submission-rows b n a) k
unfolding submitted refused_submit answered
refused-first b n a k e = by (only-first (λ j. record { answer = Refused j; board = b }) (answered b n a) (decides-submission b n a) (λ r. r.answer ≡ Refused k) unrefused e)
  where
    unrefused : (answered b n a).answer ≡ Refused k → ⊥
    unrefused = go (planned b.device.grid b.device.columns b.now (live_of b) a n)
      where
        go : (o : Option Place) → (taken b a o).answer ≡ Refused k → ⊥
        go none q = unfold taken in let z : ◌≡◌ {A = ℕ} 0 1 = cc in omega arith
        go (some p) q = unfold taken in let z : ◌≡◌ {A = ℕ} 0 1 = cc in omega arith

    by : (j : ℕ) × First (submission-rows b n a) j × (Refused j ≡ Refused k) → First (submission-rows b n a) k
    by (j, f, q) = let z : j ≡ k = cc in subst (First (submission-rows b n a)) z f

-- THE READER gives what `Reads` says
pub what-reads : (l : List ℕ) → Reads l (read_from l)
what-reads [] = unfold read_from in at-end
what-reads (kind ∷ body) = by (found kind body)
  where
    by : {r : Reading} → Found kind body r → Reads (kind ∷ body) r
    by (got k h) = whole k h
    by (is_cut k h) = cut k h
    by (no_kind k) = unknown k

pub reads-that : {l : List ℕ} {r : Reading} → Reads l r → read_from l ≡ r
reads-that at-end = unfold read_from in refl
reads-that (whole k h) = judges-none k _ h
reads-that (cut k h) = known-kind k _ ∙ short _ _ _ _ h
reads-that (unknown k) = unknown-kind _ k _
