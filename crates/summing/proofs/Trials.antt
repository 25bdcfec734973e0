-- The lines of a piece, from their numbers to events with now before them and their answers. Assumes nothing.
use Prim.Native.Nat.{ℕ, zero, suc, ◌+◌, ◌-◌, ◌<◌, min}
use mathlib.Core.Path.{◌≡◌, refl, sym, ap, ◌∙◌, subst}
use mathlib.Core.Bool.{cond}
use mathlib.Core.List.{List, [], ◌∷◌, ◌++◌, append-nil}
use mathlib.Core.Option.{Option, none, some}
use native.Mathlib.Omega.{arith}
use borrow.Author.Tests.{eq-eqb, ne_eqb}
use lib.Dec.{eqb}
use lib.ListN.{length, take, drop}
use lib.Seq.{drop-drop}
use Rattle.tasks.specs.declared.Submission.{Submission}
use Rattle.planners.specs.Openings.{Place}
use Rattle.board.specs.declared.Board.{Board}
use Rattle.board.specs.declared.Submitted.{Submitted}
use Rattle.board.specs.declared.Created.{Created}
use Rattle.board.specs.declared.Clocked.{Clocked}
use Rattle.board.specs.declared.Withdrawn.{Withdrawn}
use Rattle.board.specs.declared.Answer.TheVariants.{Refused}
use Rattle.slots.specs.Slots.{without_named}
use Rattle.board.specs.Refusals.{live_of, refused_create, refused_submit, refused_instant, refused_withdraw}
use Rattle.board.specs.Calls.{or_refused, with_tasks, fresh_board, zero_board, created, with_task, taken, answered, submitted, board_at, clocked, withdrawn}
use Rattle.tasks.specs.Numbers.{device}
use Rattle.planners.specs.Planners.{planned}
use Rattle.events.specs.declared.Event.{Event}
use Rattle.events.specs.declared.Event.TheVariants.{NewBoard, Submit, Clock, Withdraw, GridBoard}
use Rattle.std.specs.Prelude.{Ok, Err, Some, None}
use Rattle.events.specs.Records.{Reading, read_from, submission_of}
use Rattle.events.specs.declared.ReadError.TheVariants.{CutShort, Unknown}
use Rattle.steps.specs.declared.State.{State}
use Rattle.session.specs.Recording.{Line, line_of, stop_line, outcome, Run, still, ran_from, room_for, line_numbers}
use Rattle.session.proofs.Running.{ran-got}
use Rattle.reader.specs.declared.Reader.{Reader}
use Rattle.reader.specs.Reader.{held_of, Heard, source_of, meets_stranger, heard_over, heard}
use Rattle.reader.proofs.Cases.{over_by, heard-by}
use Rattle.figures.specs.Figures.{Trial, trials_from}
use Rattle.figures.specs.Rows.{clock_after, trial_read, clock_read, size_read, trials_in}

-- THE CLOCK AFTER AN EVENT is the clock of the state that follows
taken-now : (b : Board) (a : Submission) (p : Option Place) → (taken b a p).board.now ≡ b.now
unfolding taken with_task
taken-now b a none = refl
taken-now b a (some p) = refl

-- a new board's clock is at 0, and so is that of the board of zeros
board-now : (W H g : ℕ) → 0 ≡ (created W H g).board.now
unfolding created fresh_board
board-now W H g = go (refused_create (device W H g))
  where
    go : (k : ℕ) → 0 ≡ (or_refused {A = Created} k (λ n. record { number = n; board = zero_board }) (record { number = 0; board = fresh_board (device W H g) })).board.now
    go zero = unfold or_refused in refl
    go (suc k) = unfold or_refused in refl

pub clock-follows : (s : State) (v : Event) → clock_after s.board.now v (outcome s v).answer.number ≡ (outcome s v).state.board.now
unfolding clock_after outcome submitted clocked withdrawn answered board_at
clock-follows s (NewBoard W H) = board-now W H 1
clock-follows s (GridBoard W H g) = board-now W H g
clock-follows s (Submit n a) = go (refused_submit s.board n (submission_of a))
  where
    done : Submitted
    done = taken s.board (submission_of a) (planned s.board.device.grid s.board.device.columns s.board.now (live_of s.board) (submission_of a) n)

    go : (k : ℕ) → s.board.now ≡ (or_refused {A = Submitted} k (λ m. record { answer = Refused m; board = s.board }) done).board.now
    go zero = unfold or_refused in sym (taken-now s.board (submission_of a) (planned s.board.device.grid s.board.device.columns s.board.now (live_of s.board) (submission_of a) n))
    go (suc k) = unfold or_refused in refl
clock-follows s (Clock i) = go (refused_instant s.board i)
  where
    both : ℕ → Clocked
    both k = or_refused k (λ m. record { number = m; board = s.board }) (record { number = 0; board = board_at s.board i })

    go : (k : ℕ) → cond (eqb (both k).number 0) i s.board.now ≡ (both k).board.now
    go zero = unfold or_refused in refl
    go (suc k) = unfold or_refused in rw (ne_eqb (suc k) 0 (λ x. omega arith))
clock-follows s (Withdraw n) = go (refused_withdraw s.board n)
  where
    go : (k : ℕ) → s.board.now ≡ (or_refused {A = Withdrawn} k (λ m. record { number = m; board = s.board })
        (record { number = 0; board = with_tasks s.board (without_named n s.board.tasks) })).board.now
    go zero = unfold or_refused in refl
    go (suc k) = unfold or_refused in refl

-- where nothing is held, a piece is read by itself
pub source-alone : (r : Reader) (p : List ℕ) → length (held_of r) ≡ 0 → source_of r p ≡ p
unfolding source_of
source-alone r p e = rw (eq-eqb (length (held_of r)) 0 e)

pub source-behind : (r : Reader) (p : List ℕ) → (length (held_of r) ≡ 0 → ⊥) → source_of r p ≡ take 18 (held_of r ++ p)
unfolding source_of
source-behind r p e = rw (ne_eqb (length (held_of r)) 0 e)

-- a line's own event stands at the front of the bytes
one_line : (s : State) (v : Event) (n size : ℕ) (ls : List Line) (rest bytes : List ℕ) → read_from bytes ≡ Ok (Some (v, size)) → let o = outcome s v in let line = line_of n v o.answer in
    trials_in (suc (length ls)) s.board.now (line_numbers (line ∷ ls) ++ rest) bytes
    ≡ record { now = s.board.now; event = v; answer = o.answer.number; start = o.answer.start } ∷ trials_in (length ls) o.state.board.now (line_numbers ls ++ rest) (drop size bytes)
unfolding trials_in trial_read clock_read size_read line_numbers line_of
one_line s v n size ls rest bytes e =
    rw e (ap (λ t. record { now = s.board.now; event = v; answer = (outcome s v).answer.number; start = (outcome s v).answer.start }
    ∷ trials_in (length ls) t (line_numbers ls ++ rest) (drop size bytes)) (clock-follows s v))

-- the lines of a run, and those behind them
trials-run : (room : ℕ) (b : State) (n : ℕ) (bytes : List ℕ) (ls : List Line) (rest : List ℕ) → let run = ran_from room b n bytes in
    trials_in (length (run.lines ++ ls)) b.board.now (line_numbers (run.lines ++ ls) ++ rest) bytes
    ≡ trials_from b run.events ++ trials_in (length ls) run.state.board.now (line_numbers ls ++ rest) (drop run.taken bytes)
unfolding ran_from trials_from
trials-run zero b n bytes ls rest = refl
trials-run (suc room) b n bytes ls rest = go (λ c m ws. trials-run room c m ws ls rest) (read_from bytes) refl
  where
    Runs : State → Run → List ℕ → Type 0
    Runs s run ws =
        trials_in (length (run.lines ++ ls)) s.board.now (line_numbers (run.lines ++ ls) ++ rest) ws
        ≡ trials_from s run.events ++ trials_in (length ls) run.state.board.now (line_numbers ls ++ rest) (drop run.taken ws)

    stopped : ran_from (suc room) b n bytes ≡ still b → Runs b (ran_from (suc room) b n bytes) bytes
    stopped e = subst (λ x. Runs b x bytes) (sym e) refl

    go : ((c : State) (m : ℕ) (ws : List ℕ) → Runs c (ran_from room c m ws) ws) → (r : Reading) → read_from bytes ≡ r → Runs b (ran_from (suc room) b n bytes) bytes
    go next (Ok None) e = stopped (rw (e, ran_from))
    go next (Err (CutShort k)) e = stopped (rw (e, ran_from))
    go next (Err (Unknown k)) e = stopped (rw (e, ran_from))
    go next (Ok (Some (v, size))) e = subst (λ x. Runs b x bytes) (sym (ran-got room b n bytes v size e)) one
      where
        later : Run
        later = ran_from room (outcome b v).state (suc n) (drop size bytes)

        line : Line
        line = line_of (suc n) v (outcome b v).answer

        here : Trial
        here = record { now = b.board.now; event = v; answer = (outcome b v).answer.number; start = (outcome b v).answer.start }

        one : Runs b (record { lines = line ∷ later.lines; events = v ∷ later.events; state = later.state; taken = size + later.taken }) bytes
        one =
            one_line b v (suc n) size (later.lines ++ ls) rest bytes e
            ∙ ap (λ x. here ∷ x)
            (next (outcome b v).state (suc n) (drop size bytes)
            ∙ ap (λ ws. trials_from (outcome b v).state later.events ++ trials_in (length ls) later.state.board.now (line_numbers ls ++ rest) ws) (drop-drop later.taken size bytes))

-- the events of a piece are those that the numbers and the bytes of their lines say
abbrev Says : State → List ℕ → List ℕ → Heard → Type 0
Says s bytes rest h = trials_in (length h.lines) s.board.now (line_numbers h.lines ++ rest) bytes ≡ trials_from s h.events

no-trials : (now : ℕ) (numbers bytes : List ℕ) → trials_in 0 now numbers bytes ≡ []
unfolding trials_in
no-trials now numbers bytes = refl

strange-trial : (now k n : ℕ) (rest bytes : List ℕ) → read_from bytes ≡ Err (Unknown k) → trials_in 1 now (line_numbers (stop_line n k 16 ∷ []) ++ rest) bytes ≡ []
unfolding trials_in trial_read clock_read size_read
strange-trial now k n rest bytes e = rw e

trials-over : (r : Reader) (kept : ℕ) (bytes : List ℕ) (words : ℕ) (rest : List ℕ) → Says r.state bytes rest (heard_over r kept bytes words)
trials-over r kept bytes words rest = over_by (Says r.state bytes rest) r kept bytes words (λ q. only) strange (λ q f. only)
  where
    room : ℕ
    room = room_for words r.number

    run : Run
    run = ran_from room r.state r.number bytes

    left : List ℕ
    left = drop run.taken bytes

    -- the lines of the run alone
    only : trials_in (length run.lines) r.state.board.now (line_numbers run.lines ++ rest) bytes ≡ trials_from r.state run.events
    only =
        ap (λ ls. trials_in (length ls) r.state.board.now (line_numbers ls ++ rest) bytes) (sym (append-nil run.lines))
        ∙ trials-run room r.state r.number bytes [] rest
        ∙ ap (λ x. trials_from r.state run.events ++ x) (no-trials run.state.board.now (line_numbers [] ++ rest) left) ∙ append-nil (trials_from r.state run.events)

    -- and the line of a stranger behind them
    strange : length run.lines < room → (k : ℕ) → read_from left ≡ Err (Unknown k) → Says r.state bytes rest (meets_stranger r run (length bytes - kept) k)
    strange q k e =
        trials-run room r.state r.number bytes (stop_line (suc (r.number + length run.lines)) k 16 ∷ []) rest
        ∙ ap (λ x. trials_from r.state run.events ++ x) (strange-trial run.state.board.now k (suc (r.number + length run.lines)) rest left e)
        ∙ append-nil (trials_from r.state run.events)

-- THE EVENTS OF A PIECE
pub told-trials : (r : Reader) (p : List ℕ) (words : ℕ) (rest : List ℕ) → Says r.state (source_of r p) rest (heard r p words)
unfolding trials_from
told-trials r p words rest =
    heard-by (Says r.state (source_of r p) rest) r p words
    (λ o q. subst (λ l. Says r.state l rest (heard_over r 0 p words)) (sym (source-alone r p q)) (trials-over r 0 p words rest))
    (λ o q.
    subst (λ l. Says r.state l rest (heard_over r (length (held_of r)) (take 18 (held_of r ++ p)) (min words 6))) (sym (source-behind r p q))
    (trials-over r (length (held_of r)) (take 18 (held_of r ++ p)) (min words 6) rest))
    (λ c. no-trials r.state.board.now (line_numbers [] ++ rest) (source_of r p))
