-- THE THREE DEMANDS, theorem by theorem. Each call's promise is one equation to the book (docs/PROMISES.md): what is said here of the book is said of the calls. Assumes nothing.
use Prim.Native.Nat.{ℕ, ◌/◌, ◌≤◌, ◌<◌, ◌+◌, ◌-◌}
use mathlib.Core.Path.{◌≡◌, refl, ◌∙◌}
use mathlib.Core.Logic.{◌⊎◌}
use mathlib.Core.Bool.{false, true, ◌&&◌}
use mathlib.Core.List.{List, [], ◌++◌, ◌∷◌, map}
use native.Mathlib.Omega.{arith}
use lib.ListN.{length, take, drop, get_or, replicate}
use lib.Dec.{T, leb, eqb}
use Rattle.lists.specs.Lists.{◌∈◌, keep, head?, last_or, some?, pairwise?, all?, over_front}
use Rattle.lists.proofs.Append.{and-true}
use Rattle.lists.proofs.Members.{pass-some}
use Rattle.lists.proofs.Order.{Sorted}
use Rattle.ways.specs.Ways.{pair}
use Rattle.tasks.specs.declared.Task.{Task}
use Rattle.tasks.specs.declared.Submission.{Submission}
use Rattle.tasks.specs.Tasks.{finish, free_slot, stamped, stamped_all}
use Rattle.tasks.specs.Numbers.{last_planner, within, may_begin, device, device_fits, size_fits}
use Rattle.tasks.proofs.Grid.{multiple-one, begin-one}
use Rattle.tasks.proofs.Laws.{Holds}
use Rattle.columns.specs.Columns.{columns, Run, runs, best_fit}
use Rattle.columns.proofs.Runs.{Longest}
use Rattle.planners.specs.Openings.{Place, pair_numbers}
use Rattle.planners.specs.Planners.{release, free, left_edge, clear_of_waiting, candidates, released_edges, planned}
use Rattle.planners.proofs.Grid.{candidates-one, released-one}
use Rattle.planners.proofs.Openings.{Before, listed-opens, opens-listed, openings-ordered}
use Rattle.slots.proofs.Soundness.{sound-out, sound-in}
use Rattle.board.specs.declared.Board.{Board}
use Rattle.board.specs.declared.Clocked.{Clocked}
use Rattle.board.specs.declared.Withdrawn.{Withdrawn}
use Rattle.board.specs.declared.Opened.{Opened}
use Rattle.board.specs.declared.Listed.{Listed}
use Rattle.board.specs.declared.Counted.{Counted}
use Rattle.board.specs.declared.Created.{Created}
use Rattle.board.specs.declared.Answer.TheVariants.{Placed, Rejected, Refused}
use Rattle.board.specs.Refusals.{live_of, refused_submit, refused_create, refused_instant, refused_withdraw, refused_openings, refused_horizon, sound_board}
use Rattle.board.specs.Calls.{taken, submitted, clocked, withdrawn, remaining, opened, opened_buffer, listed, listed_buffer, counted, fresh_board, created}
use Rattle.board.proofs.Kept.{SoundBoard}
use Rattle.board.proofs.OnGrid.{free-run-begins, released-run-begins, board-planned}
use Rattle.board.proofs.Window.{Reachable}
use Rattle.board.proofs.Placed.{full-rejected, placed-books, placed-opens}
use Rattle.board.proofs.Asking.{given, IsOpening, given-first, left-opens, opens-left, left-ordered, none-missed, full-takes-given}
use Rattle.board.proofs.Looked.{listed-board, counted-board}
use Rattle.board.specs.Answers.{told}
use Rattle.events.specs.declared.Event.{Event}
use Rattle.std.specs.Prelude.{Ok, Err, Some, None}
use Rattle.events.specs.Records.{Reading, record_of, read_from, written, written_buffer, told_read, told_written}
use Rattle.events.specs.declared.ReadError.TheVariants.{CutShort, Unknown}
use Rattle.events.proofs.RoundTrip.{Fits, Bytes, read-written, written-again}
use Rattle.events.proofs.Writing.{short-answer, short-buffer, room-answer, room-buffer}
use Rattle.promises.proofs.Clauses.{Any, Row, First, Clear, Given, Holding, numbers, Rises, Steps, Reads, too-lax, new-board-rows, submission-rows, instant-rows}
use Rattle.promises.proofs.Clauses.{withdrawal-rows, openings-rows, horizon-rows, Books, Ages, Removes, ListsRuns, CountsHeld, Stamps}
use Rattle.promises.proofs.Following.{books, books-nothing, ages, removes, lists-runs, counts-held, opened-board, stamps, stamps-all, buffer-reads-back, buffer-written-again}
use Rattle.promises.proofs.Settled.{books-settled, ages-settled, removes-settled, runs-settled, held-settled, stamps-settled}
use Rattle.promises.proofs.Refusing.{first-refused, clear-done, told-given, given-once, clear_first, first-before, first-lowest, refused-first, steps-out, steps-in}
use Rattle.promises.proofs.Refusing.{what-reads, reads-that, decides-new-board, decides-submission, decides-instant, decides-withdrawal, decides-openings, decides-horizon}
use Rattle.promises.proofs.AskingOn.{all_openings, reply, asking_on, said_more, Roomy, ordered-once, from-none, reply-answers, reply-writes, more-true, more-false, asking-gives-all}
use Rattle.promises.proofs.AskingOn.{asking-ends, asked-to-end}
use Rattle.promises.proofs.Published.{AnswersAs, FreeRun, ReleasedRun, VisitsEach, IsFinish, IsRelease, LastFinish, reference-as, horizon-as, stuffing-as, free-out, free_in}
use Rattle.promises.proofs.Published.{release-last, free-run-opens, released-run-opens}
use Rattle.promises.proofs.Answering.{Allows, allowed, FirstOpening, full-taken, takes-full, full-places, rejects-full}
use Rattle.board.proofs.Board.new.Reads as new
use Rattle.board.proofs.Board.with_grid.Reads as with-grid
use Rattle.board.proofs.Board.is_sound.Reads as is-sound
use Rattle.board.proofs.Board.submit.Reads as submit
use Rattle.board.proofs.Board.clock.Reads as clock
use Rattle.board.proofs.Board.withdraw.Reads as withdraw
use Rattle.board.proofs.Board.openings.Reads as openings-call
use Rattle.board.proofs.Board.horizon.Reads as horizon-call
use Rattle.board.proofs.Board.busy.Reads as busy
use Rattle.tasks.proofs.stamp.Reads as stamp
use Rattle.events.proofs.read.Reads as read
use Rattle.events.proofs.read_at.Reads as read_at
use Rattle.events.proofs.write.Reads as write

-- DEMAND 1. "Every call takes any board, task, instant or buffer and ends": a caller has nothing to show (`X.Asked` is the `requires` of X as they
-- stand in the code; that of `stamp_all` is not read here, and it has no `requires`), and each call is proved to end.
pub demand-1-takes-any : Any new.Asked × Any with-grid.Asked × Any is-sound.Asked × Any submit.Asked × Any clock.Asked × Any withdraw.Asked × Any openings-call.Asked × Any horizon-call.Asked
    × Any busy.Asked × Any stamp.Asked × Any read.Asked × Any read_at.Asked × Any write.Asked
demand-1-takes-any =
    (λ κs a. tt, λ κs a. tt, λ κs a. tt, λ κs a. tt, λ κs a. tt, λ κs a. tt, λ κs a. tt, λ κs a. tt, λ κs a. tt, λ κs a. tt, λ κs a. tt, λ κs a. tt, λ κs a. tt)

-- "Bad input gets the refusal number that document 01 fixes, in its order of checks" (18, and what the grid adds to 2 and 5, are document 02's);
-- "a refusal hands the board back as it came and writes nothing to a lent buffer." Each call's rows stand in Clauses: a number and when exactly it
-- is given, in the order of its checks. `First rows k`: the first row that holds has the number k. `Clear rows`: none holds. `Given rows k`: k is
-- the number of the first that holds, or 0 where none does.
-- The first row that holds gives the whole answer:
pub demand-1-submission : (b : Board) (n : ℕ) (a : Submission) {k : ℕ} → First (submission-rows b n a) k → submitted b n a ≡ record { answer = Refused k; board = b }
unfolding submitted refused_submit
demand-1-submission b n a f = first-refused _ _ (decides-submission b n a) f

pub demand-1-clock : (b : Board) (i : ℕ) {k : ℕ} → First (instant-rows b i) k → clocked b i ≡ record { number = k; board = b }
unfolding clocked refused_instant
demand-1-clock b i f = first-refused _ _ (decides-instant b i) f

pub demand-1-withdrawal : (b : Board) (n : ℕ) {k : ℕ} → First (withdrawal-rows b n) k → withdrawn b n ≡ record { number = k; board = b }
unfolding withdrawn refused_withdraw
demand-1-withdrawal b n f = first-refused _ _ (decides-withdrawal b n) f

pub demand-1-openings : (b : Board) (a : Submission) (s c : ℕ) (buffer : List ℕ) {k : ℕ} → First (openings-rows b a) k
    → (opened b a s c (length buffer) ≡ record { number = k; count = 0; more = false; board = b }) × (opened_buffer b a s c buffer ≡ buffer)
unfolding opened opened_buffer refused_openings
demand-1-openings b a s c buffer f = (first-refused _ _ (decides-openings b a) f, first-refused _ _ (decides-openings b a) f)

pub demand-1-horizon : (b : Board) (buffer : List ℕ) {k : ℕ} → First (horizon-rows b (length buffer)) k
    → (listed b (length buffer) ≡ record { number = k; count = 0; board = b }) × (listed_buffer b buffer ≡ buffer)
unfolding listed listed_buffer refused_horizon
demand-1-horizon b buffer f = (first-refused _ _ (decides-horizon b (length buffer)) f, first-refused _ _ (decides-horizon b (length buffer)) f)

pub demand-1-busy : (b : Board) (i : ℕ) {k : ℕ} → First (instant-rows b i) k → counted b i ≡ record { number = k; count = 0; board = b }
unfolding counted refused_instant
demand-1-busy b i f = first-refused _ _ (decides-instant b i) f

-- "A refused new board is a board of zeros"
pub demand-1-new-board : (W H g : ℕ) {k : ℕ} → First (new-board-rows W H g) k
    → created W H g ≡ record { number = k; board = record { tasks = replicate 64 free_slot; now = 0; device = device 0 0 0 } }
unfolding created refused_create fresh_board
demand-1-new-board W H g f = first-refused _ _ (decides-new-board W H g) f

-- and nothing else gives a number: that of any answer is the number of the first row that holds, or 0 where none does
pub demand-1-submission-only : (b : Board) (n : ℕ) (a : Submission) (k : ℕ) → (submitted b n a).answer ≡ Refused k → First (submission-rows b n a) k
demand-1-submission-only = refused-first

pub demand-1-submission-done : (b : Board) (n : ℕ) (a : Submission) → Clear (submission-rows b n a) → (k : ℕ) → (submitted b n a).answer ≡ Refused k → ⊥
demand-1-submission-done b n a c k e = clear_first c (refused-first b n a k e)

pub demand-1-clock-only : (b : Board) (i : ℕ) → Given (instant-rows b i) (clocked b i).number
unfolding clocked refused_instant
demand-1-clock-only b i = told-given _ _ (decides-instant b i) (λ (r : Clocked). r.number) refl (λ k. refl)

pub demand-1-withdrawal-only : (b : Board) (n : ℕ) → Given (withdrawal-rows b n) (withdrawn b n).number
unfolding withdrawn refused_withdraw
demand-1-withdrawal-only b n = told-given _ _ (decides-withdrawal b n) (λ (r : Withdrawn). r.number) refl (λ k. refl)

pub demand-1-openings-only : (b : Board) (a : Submission) (s c words : ℕ) → Given (openings-rows b a) (opened b a s c words).number
unfolding opened refused_openings
demand-1-openings-only b a s c words = told-given _ _ (decides-openings b a) (λ (r : Opened). r.number) refl (λ k. refl)

pub demand-1-horizon-only : (b : Board) (words : ℕ) → Given (horizon-rows b words) (listed b words).number
unfolding listed refused_horizon
demand-1-horizon-only b words = told-given _ _ (decides-horizon b words) (λ (r : Listed). r.number) refl (λ k. refl)

pub demand-1-busy-only : (b : Board) (i : ℕ) → Given (instant-rows b i) (counted b i).number
unfolding counted refused_instant
demand-1-busy-only b i = told-given _ _ (decides-instant b i) (λ (r : Counted). r.number) refl (λ k. refl)

pub demand-1-new-board-only : (W H g : ℕ) → Given (new-board-rows W H g) (created W H g).number
unfolding created refused_create
demand-1-new-board-only W H g = told-given _ _ (decides-new-board W H g) (λ (r : Created). r.number) refl (λ k. refl)

-- the number that is told of a submission: "Column, start and finish are 0 unless the answer is 0"; 10 is the rejection
pub demand-1-submission-told : (k c s f : ℕ) → (told (Refused k) ≡ record { number = k; column = 0; start = 0; finish = 0 })
    × (told Rejected ≡ record { number = 10; column = 0; start = 0; finish = 0 }) × (told (Placed c s f) ≡ record { number = 0; column = c; start = s; finish = f })
unfolding told
demand-1-submission-told k c s f = (refl, refl, refl)

-- row 1 is what `is_sound` tells
pub demand-1-sound : (b : Board) → (T (sound_board b) → SoundBoard b) × (SoundBoard b → T (sound_board b))
demand-1-sound b = (sound-out b.device b.now b.tasks, sound-in b.device b.now b.tasks)

-- the rows give one number only, and no refusal where none holds
pub demand-1-one-number : {rows : List Row} {j k : ℕ} → Given rows j → Given rows k → j ≡ k
demand-1-one-number = given-once

pub demand-1-none-first : {rows : List Row} {k : ℕ} → Clear rows → First rows k → ⊥
demand-1-none-first = clear_first

-- Several at once: the first in the order of the call's checks wins, so no row behind one that holds
pub demand-1-first : (before : List Row) (r : Row) (after : List Row) {k : ℕ} → First (before ++ (r ∷ after)) k → r.given → k ∈ numbers (before ++ (r ∷ []))
demand-1-first = first-before

-- "18 .. tested after 8 and before 9; this is the first number out of rising order" (document 02, Q-2)
pub demand-1-order : (b : Board) (n : ℕ) (a : Submission) → numbers (submission-rows b n a) ≡ 1 ∷ 3 ∷ 4 ∷ 5 ∷ 6 ∷ 7 ∷ 8 ∷ 18 ∷ 9 ∷ []
demand-1-order b n a = refl

-- "A task that is both too lax and refused 9 gets the new answer"
pub demand-1-lax-before-full : (b : Board) (n : ℕ) (a : Submission) → (submitted b n a).answer ≡ Refused 9 → b.now + a.e + 10000000 < a.d → ⊥
unfolding some?
demand-1-lax-before-full b n a e h =
    let m = demand-1-first (take 7 (submission-rows b n a)) (too-lax b a) (drop 8 (submission-rows b n a)) (demand-1-submission-only b n a 9 e) h in
    pass-some (eqb 9) (1 ∷ 3 ∷ 4 ∷ 5 ∷ 6 ∷ 7 ∷ 8 ∷ 18 ∷ []) m tt

-- "Several at once: the lowest number wins": so it is for every other call, whose rows rise: no row that holds has a lower number than the first
pub demand-1-lowest : {rows : List Row} {j k : ℕ} → Rises rows → First rows k → Holding rows j → k ≤ j
demand-1-lowest = first-lowest

pub demand-1-rising : (b : Board) (n i words : ℕ) (a : Submission)
    → Rises (instant-rows b i) × Rises (withdrawal-rows b n) × Rises (openings-rows b a) × Rises (horizon-rows b words)
    × Rises (new-board-rows n i words)
unfolding pairwise? all?
demand-1-rising b n i words a = (tt, tt, tt, tt, tt)

-- "Bad input gets the refusal number": the reader's 15, 16 and end, exactly when `Reads` says so, with "the kind byte, no event and 0 bytes taken"
pub demand-1-reader : (l : List ℕ) → Reads l (read_from l)
demand-1-reader = what-reads

pub demand-1-reader-only : {l : List ℕ} {r : Reading} → Reads l r → read_from l ≡ r
demand-1-reader-only = reads-that

pub demand-1-reader-told : (kind : ℕ) → (told_read (Err (CutShort kind)) ≡ record { number = 15; kind = kind; taken = 0 })
    × (told_read (Err (Unknown kind)) ≡ record { number = 16; kind = kind; taken = 0 }) × (told_read (Ok None) ≡ record { number = 0; kind = 0; taken = 0 })
unfolding told_read
demand-1-reader-told kind = (refl, refl, refl)

-- "writes nothing to a lent buffer": the writer's 17, exactly when the record is longer than the buffer, and then every byte stays
pub demand-1-writer : (v : Event) (buffer : List ℕ) → length buffer < length (record_of v)
    → (written v (length buffer) ≡ Err (record {})) × (written_buffer v buffer ≡ buffer)
demand-1-writer v buffer h = (short-answer v buffer h, short-buffer v buffer h)

-- otherwise its length is told, it stands over the front, and the bytes beyond it stay
pub demand-1-writer-done : (v : Event) (buffer : List ℕ) → length (record_of v) ≤ length buffer
    → (written v (length buffer) ≡ Ok (length (record_of v))) × (written_buffer v buffer ≡ record_of v ++ drop (length (record_of v)) buffer)
demand-1-writer-done v buffer h = (room-answer v buffer h, room-buffer v buffer h)

pub demand-1-writer-told : (n : ℕ) → (told_written (Err (record {})) ≡ record { number = 17; length = 0 }) × (told_written (Ok n) ≡ record { number = 0; length = n })
unfolding told_written
demand-1-writer-told n = (refl, refl)

-- DEMAND 2. "Reference, horizon and stuffing answer exactly as the published definitions of Steiger, Walder and Platzner say, with ties and edges as document 01 settles them":
-- a task that is not refused is placed at the left edge of the narrowest (of equals the leftmost) run tried at the first visited time that has one (`Chosen`), with finish s + e;
-- it is rejected exactly when no visited time has one, and there is no third answer (`AnswersAs`). Reference: at now only, the free intervals without a conflict with a waiting task
pub demand-2-reference : (b : Board) (a : Submission) → refused_submit b 0 a ≡ 0 → AnswersAs b 0 a (λ i. i ≡ b.now) (FreeRun b a)
demand-2-reference = reference-as

-- Horizon (Algorithm 1): now, then each release of a column after now and up to d − e; the longest runs of columns released by then
pub demand-2-horizon : (b : Board) (a : Submission) → refused_submit b 1 a ≡ 0 → AnswersAs b 1 a (VisitsEach b a (IsRelease b)) (ReleasedRun b a)
demand-2-horizon = horizon-as

-- Stuffing (Algorithm 2): now, then each finish of a live task after now and up to d − e; the free intervals without a conflict with a waiting task
pub demand-2-stuffing : (b : Board) (a : Submission) → refused_submit b 2 a ≡ 0 → AnswersAs b 2 a (VisitsEach b a (IsFinish b)) (FreeRun b a)
demand-2-stuffing = stuffing-as

-- the two tests of a column there: it is free at t exactly if no live task holds it at t, and its release is the later of now and the last finish of any live task on it
pub demand-2-free : (b : Board) (t c : ℕ) → T (free (live_of b) t c) → (u : Task) → u ∈ live_of b → Holds t c u → ⊥
demand-2-free = free-out

pub demand-2-free-if : (b : Board) (t c : ℕ) → ((u : Task) → u ∈ live_of b → Holds t c u → ⊥) → T (free (live_of b) t c)
demand-2-free-if = free_in

pub demand-2-release : (b : Board) (c : ℕ) → LastFinish b c (release b.now (live_of b) c)
demand-2-release = release-last

-- a run that is tried in the window is an opening: at the left edge of a free interval, to meet no waiting task is to meet no live task
pub demand-2-free-run : (b : Board) (a : Submission) (t : ℕ) (r : Run) → b.now ≤ t → t + a.e ≤ a.d → FreeRun b a t r → IsOpening b a (pair t r.left)
demand-2-free-run = free-run-opens

pub demand-2-released-run : (b : Board) (a : Submission) (t : ℕ) (r : Run) → b.now ≤ t → t + a.e ≤ a.d → ReleasedRun b a t r → IsOpening b a (pair t r.left)
demand-2-released-run = released-run-opens

-- whatever any planner places is an opening: it starts from now on, lies within the device, overlaps no live task (Definition 1), and meets the deadline
pub demand-2-places : (b : Board) (n : ℕ) (a : Submission) {c s f : ℕ} → (submitted b n a).answer ≡ Placed c s f → IsOpening b a (pair s c) × (f ≡ s + a.e)
demand-2-places b n a e = placed-opens b n a e

-- and from now to 10,000,000 ticks after it: no task "books a gap far beyond the session" (document 02, Q-2)
pub demand-2-near : (b : Board) (n : ℕ) (a : Submission) {c s f : ℕ} → (submitted b n a).answer ≡ Placed c s f → s ≤ b.now + 10000000
demand-2-near b n a e =
    let k = (placed-books b n a refl e).accepted in
    omega (arith, (placed-opens b n a e).0.in-time, k.reachable, k.lax)

-- THE GRID (document 02, Q-3): "a task may begin only where c − 1 is a multiple of g"
pub demand-2-grid : (g c : ℕ) → (T (may_begin g c) → Steps g (c - 1)) × (Steps g (c - 1) → T (may_begin g c))
unfolding may_begin
demand-2-grid g c = (steps-out g (c - 1), steps-in g (c - 1))

-- on a sound board every run of free columns, and of released ones, begins on the grid, so that no run is passed over for it ..
pub demand-2-free-begins : (b : Board) → SoundBoard b → (t : ℕ) (r : Run) → Longest (free (live_of b) t) 1 b.device.columns r → T (may_begin b.device.grid r.left)
demand-2-free-begins = free-run-begins

pub demand-2-released-begins : (b : Board) → SoundBoard b → (t : ℕ) (r : Run) → Longest (λ c. leb (release b.now (live_of b) c) t) 1 b.device.columns r
    → T (may_begin b.device.grid r.left)
demand-2-released-begins = released-run-begins

-- .. and every planner answers as with g = 1
pub demand-2-as-one : (b : Board) (a : Submission) → SoundBoard b → Steps b.device.grid a.w → (n : ℕ)
    → planned b.device.grid b.device.columns b.now (live_of b) a n ≡ planned 1 b.device.columns b.now (live_of b) a n
demand-2-as-one b a s h n = board-planned b a s (steps-in b.device.grid a.w h) n

-- "with g = 1 every case of 01 stands": the definitions are those of document 01 alone
pub demand-2-one-device : (W H : ℕ) → device_fits (device W H 1) ≡ (within 1 256 W && within 1 1024 H)
demand-2-one-device W H = rw (multiple-one W) (and-true (within 1 256 W && within 1 1024 H && true) ∙ and-true (within 1 256 W && within 1 1024 H))

pub demand-2-one-size : (W H w h : ℕ) → size_fits (device W H 1) w h ≡ (within 1 W w && within 1 H h)
demand-2-one-size W H w h = rw (multiple-one w) (and-true (within 1 W w && within 1 H h))

pub demand-2-one-begins : (c : ℕ) → may_begin 1 c ≡ true
demand-2-one-begins = begin-one

pub demand-2-one-free : (b : Board) (a : Submission) (i : ℕ) → candidates 1 b.device.columns b.now (live_of b) a i
    ≡ keep (clear_of_waiting b.device.columns b.now (live_of b) a i) (map (left_edge i) (best_fit a.w (runs (free (live_of b) i) (columns b.device.columns))))
demand-2-one-free b a i = candidates-one b.device.columns b.now (live_of b) a i

pub demand-2-one-released : (b : Board) (a : Submission) (i : ℕ) → released_edges 1 b.device.columns b.now (live_of b) a i
    ≡ map (left_edge i) (best_fit a.w (runs (λ c. leb (release b.now (live_of b) c) i) (columns b.device.columns)))
demand-2-one-released b a i = released-one b.device.columns b.now (live_of b) a i

-- "new board, booking, clock, withdrawal, lists, counts and stamps follow its rules": the rules stand in Clauses, clause by clause.
-- A new board "has the W and H asked for, now 0 and 64 free slots", and the grid asked for
pub demand-2-new-board : (W H g : ℕ) → Clear (new-board-rows W H g)
    → created W H g ≡ record { number = 0; board = record { tasks = replicate 64 free_slot; now = 0; device = device W H g } }
unfolding created refused_create fresh_board
demand-2-new-board W H g c = clear-done _ _ (decides-new-board W H g) c

-- booking: the lowest free slot holds the record as submitted with the column and start answered, and nothing else changes
pub demand-2-booking : (b : Board) (n : ℕ) (a : Submission) (c s f : ℕ) → (submitted b n a).answer ≡ Placed c s f → Books b a c s f (submitted b n a).board
demand-2-booking = books

-- a rejection, as a refusal, changes nothing
pub demand-2-booking-none : (b : Board) (n : ℕ) (a : Submission) → ((c s f : ℕ) → (submitted b n a).answer ≡ Placed c s f → ⊥) → (submitted b n a).board ≡ b
demand-2-booking-none = books-nothing

-- clock: what has finished by then is a free slot, what is left has the phase of the instant, now is moved, and nothing else changes
pub demand-2-clock : (b : Board) (t : ℕ) → (clocked b t).number ≡ 0 → Ages t b (clocked b t).board
demand-2-clock = ages

-- withdrawal: the slot of the one live task of that id, which is waiting, is free, and nothing else changes
pub demand-2-withdrawal : (b : Board) (n : ℕ) → (withdrawn b n).number ≡ 0 → Removes n b (withdrawn b n).board
demand-2-withdrawal = removes

-- horizon list: the runs of equal release in their order, three words each, and how many; words beyond are left as found
pub demand-2-horizon-list : (b : Board) (buffer : List ℕ) → (listed b (length buffer)).number ≡ 0
    → ListsRuns b buffer (listed b (length buffer)).count (listed_buffer b buffer)
demand-2-horizon-list = lists-runs

-- busy count: how many of the columns from 1 to W some live task holds at the instant
pub demand-2-busy : (b : Board) (i : ℕ) → (counted b i).number ≡ 0 → CountsHeld b i (counted b i).count
demand-2-busy = counts-held

-- the clauses leave nothing open: any two results that follow them are equal, so that a call that did less, more or another thing would not
pub demand-2-settled : {b : Board} {a : Submission} {c s f n t i m j : ℕ} {x y : Board} {buffer u v : List ℕ} {k k₁ k₂ : Task}
    → (Books b a c s f x → Books b a c s f y → x ≡ y)
    × (Ages t b x → Ages t b y → x ≡ y)
    × (Removes n b x → Removes n b y → x ≡ y)
    × (ListsRuns b buffer m u → ListsRuns b buffer j v → (m ≡ j) × (u ≡ v))
    × (CountsHeld b i m → CountsHeld b i j → m ≡ j)
    × (Stamps t k k₁ → Stamps t k k₂ → k₁ ≡ k₂)
demand-2-settled = (books-settled, ages-settled, removes-settled, runs-settled, held-settled, stamps-settled)

-- "Openings, horizon list and busy count hand it back unchanged"
pub demand-2-unchanged : (b : Board) (a : Submission) (s c words i : ℕ) → ((opened b a s c words).board ≡ b) × ((listed b words).board ≡ b) × ((counted b i).board ≡ b)
demand-2-unchanged b a s c words i = (opened-board b a s c words, listed-board b words, counted-board b i)

-- stamps: the phase by start and finish alone, other fields stay; a table's records one by one
pub demand-2-stamp : (t : ℕ) (k : Task) → Stamps t k (stamped t k)
demand-2-stamp = stamps

pub demand-2-stamps : (t : ℕ) (ks : List Task) → (length (stamped_all t ks) ≡ length ks) × ((i : ℕ) → get_or (stamped_all t ks) i free_slot ≡ stamped t (get_or ks i free_slot))
demand-2-stamps = stamps-all

-- "Event records read back as they were written"
pub demand-2-read-back : (v : Event) → Fits v → (rest : List ℕ) → read_from (record_of v ++ rest) ≡ Ok (Some (v, length (record_of v)))
demand-2-read-back = read-written

-- from a buffer with room, whatever follows it
pub demand-2-buffer-read-back : (v : Event) → Fits v → (buffer rest : List ℕ) → length (record_of v) ≤ length buffer
    → read_from (written_buffer v buffer ++ rest) ≡ Ok (Some (v, length (record_of v)))
demand-2-buffer-read-back = buffer-reads-back

-- "and written again give the same bytes"
pub demand-2-written-again : (l : List ℕ) → Bytes l → (v : Event) (size : ℕ) → read_from l ≡ Ok (Some (v, size)) → record_of v ≡ take size l
demand-2-written-again = written-again

-- into a buffer with room
pub demand-2-buffer-written-again : (l : List ℕ) → Bytes l → (v : Event) (size : ℕ) → read_from l ≡ Ok (Some (v, size)) → (buffer : List ℕ) → size ≤ length buffer
    → (written v (length buffer) ≡ Ok size) × (written_buffer v buffer ≡ take size l ++ drop size buffer)
demand-2-buffer-written-again = buffer-written-again

-- DEMAND 3. "For a sound board and a well-formed task whose deadline can still be reached"; "Demand 3 then speaks of tasks within this laxity" (document 02, Q-2):
-- `Reachable` says both
module _ (b : Board) (a : Submission) (s : SoundBoard b) (k : Reachable b a) where
  -- "the list of openings holds every start from now on, and column within the device, that overlaps no live task and meets the deadline": each of these, and no other
  pub demand-3-every : (q : Place) → IsOpening b a q → q ∈ all_openings b a
  demand-3-every = opens-listed b.device.grid b.device.columns b.now (live_of b) a

  pub demand-3-only : (q : Place) → q ∈ all_openings b a → IsOpening b a q
  demand-3-only q m = listed-opens b.device.grid b.device.columns b.now (live_of b) a m

  -- each begins on the grid (document 02, Q-3)
  pub demand-3-on-grid : (q : Place) → q ∈ all_openings b a → Steps b.device.grid (q.place - 1)
  demand-3-on-grid q m = (demand-2-grid b.device.grid q.place).0 (demand-3-only q m).on-grid

  -- "each exactly once, by start and then column"
  pub demand-3-order : Sorted Before (all_openings b a)
  demand-3-order = openings-ordered b.device.grid b.device.columns b.now (live_of b) a

  pub demand-3-once : (d : Place) (i j : ℕ) → i < j → j < length (all_openings b a) → get_or (all_openings b a) i d ≡ get_or (all_openings b a) j d → ⊥
  demand-3-once = ordered-once (all_openings b a) demand-3-order

  -- a call after the pair p gives the first of what comes after p, as many as fit; what comes after p is every opening after p, in that order
  pub demand-3-given : (p : Place) (buffer : List ℕ) → given b a p buffer ≡ take (length buffer / 2) (remaining b a p.start p.place)
  demand-3-given = given-first b a s k

  pub demand-3-every-after : (p q : Place) → IsOpening b a q → Before p q → q ∈ remaining b a p.start p.place
  demand-3-every-after = opens-left b a s k

  pub demand-3-only-after : (p q : Place) → q ∈ remaining b a p.start p.place → IsOpening b a q × Before p q
  demand-3-only-after = left-opens b a s k

  pub demand-3-order-after : (p : Place) → Sorted Before (remaining b a p.start p.place)
  demand-3-order-after = left-ordered b a s k

  -- after (0, 0), as the first time: all of them
  pub demand-3-first-time : remaining b a 0 0 ≡ all_openings b a
  demand-3-first-time = from-none b a s k

  -- its answer is 0, the number of those given and the board as it was; in the buffer they stand in front, and every other word stays
  pub demand-3-answer : (p : Place) (buffer : List ℕ)
      → ((reply b a p buffer).number ≡ 0) × ((reply b a p buffer).count ≡ length (given b a p buffer)) × ((reply b a p buffer).board ≡ b)
  demand-3-answer = reply-answers b a s k

  pub demand-3-buffer : (p : Place) (buffer : List ℕ) → opened_buffer b a p.start p.place buffer ≡ over_front (pair_numbers (given b a p buffer)) buffer
  demand-3-buffer = reply-writes b a s k

  -- it says that a further one remains exactly when an opening comes after the last one given
  pub demand-3-more : (p : Place) (buffer : List ℕ) → (reply b a p buffer).more ≡ true → (q : Place) × IsOpening b a q × Before (last_or p (given b a p buffer)) q
  demand-3-more = more-true b a s k

  pub demand-3-no-more : (p : Place) (buffer : List ℕ) → (reply b a p buffer).more ≡ false → (q : Place) → IsOpening b a q → Before (last_or p (given b a p buffer)) q → ⊥
  demand-3-no-more = more-false b a s k

  -- two calls never both miss one
  pub demand-3-none-missed : (p q : Place) (buffer : List ℕ) → IsOpening b a q → Before p q → (q ∈ given b a p buffer) ⊎ Before (last_or p (given b a p buffer)) q
  demand-3-none-missed = none-missed b a s k

  -- "On an unchanged board, asking on from the last one given, with room for one or more, reaches the end of it":
  -- as many calls as openings, each on the board that the one before handed back and with any such buffer, give them all
  pub demand-3-asking-on : (buffers : List (List ℕ)) → Roomy buffers → length (all_openings b a) ≤ length buffers → asking_on b a (pair 0 0) buffers ≡ all_openings b a
  demand-3-asking-on = asking-gives-all b a s k

  -- and they end: the last call says that none remains, every one before it that one does
  pub demand-3-end : (buffers : List (List ℕ)) → Roomy buffers → 1 ≤ length buffers → length (all_openings b a) ≤ length buffers
      → (n : ℕ) × (said_more b a (pair 0 0) buffers ≡ replicate n true ++ (false ∷ []))
  demand-3-end = asking-ends b a s k

  -- so whoever asks on until a call says that none remains has been given them all, with fewer calls too
  pub demand-3-asked-to-end : (buffers : List (List ℕ)) (n : ℕ) → said_more b a (pair 0 0) buffers ≡ replicate n true ++ (false ∷ [])
      → asking_on b a (pair 0 0) buffers ≡ all_openings b a
  demand-3-asked-to-end = asked-to-end b a s k

  -- "If id and table allow the task" (the id is not 0 and not live, fewer than 64 tasks are live): no planner refuses it
  pub demand-3-allowed : Allows b a → (n : ℕ) → n ≤ last_planner → refused_submit b n a ≡ 0
  demand-3-allowed o n h = allowed b n a h s k o

  -- "the full planner takes the first opening"
  pub demand-3-full : Allows b a → (p : Place) → FirstOpening b a p → (submitted b 3 a).answer ≡ Placed p.place p.start (p.start + a.e)
  demand-3-full o = takes-full b a (demand-3-allowed o 3 (omega arith))

  pub demand-3-full-places : Allows b a → (q : Place) → IsOpening b a q
      → (p : Place) × FirstOpening b a p × ((submitted b 3 a).answer ≡ Placed p.place p.start (p.start + a.e))
  demand-3-full-places o = full-places b a (demand-3-allowed o 3 (omega arith))

  -- answer and board: it takes the first that the openings call gives
  pub demand-3-full-given : Allows b a → (buffer : List ℕ) → 2 ≤ length buffer → submitted b 3 a ≡ taken b a (head? (given b a (pair 0 0) buffer))
  demand-3-full-given o buffer h = full-takes-given b a s k buffer h (demand-3-allowed o 3 (omega arith))

  -- "and rejects exactly when there is none"
  pub demand-3-full-rejects : Allows b a → ((q : Place) → IsOpening b a q → ⊥) → (submitted b 3 a).answer ≡ Rejected
  demand-3-full-rejects o = rejects-full b a (demand-3-allowed o 3 (omega arith))

-- and whatever Full places is the first opening; where it rejects, there is none
pub demand-3-full-first : (b : Board) (a : Submission) {c s f : ℕ} → (submitted b 3 a).answer ≡ Placed c s f → FirstOpening b a (pair s c) × (f ≡ s + a.e)
demand-3-full-first b a e = full-taken b a e

pub demand-3-full-rejected : (b : Board) (a : Submission) → (submitted b 3 a).answer ≡ Rejected → (q : Place) → IsOpening b a q → ⊥
demand-3-full-rejected = full-rejected
