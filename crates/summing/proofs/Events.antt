-- Events one behind the other: states, starts, and figures that fit. Assumes nothing.
use Prim.Native.Nat.{ℕ, zero, suc, ◌+◌, ◌≤◌, ◌<◌, min}
use mathlib.Core.Path.{◌≡◌, refl, sym, ap, ap₂, ◌∙◌, subst}
use mathlib.Core.Bool.{true, false}
use mathlib.Core.List.{List, [], ◌∷◌, ◌++◌}
use mathlib.Core.List.Memᴰ.{cases_cons as cases}
use mathlib.Core.List.Memᴰ.{not-nil as nowhere}
use mathlib.Core.Logic.{◌⊎◌, inl, inr}
use native.Mathlib.Nat.{mul-le-mul_right, mod-eq_of_lt}
use native.Mathlib.Omega.{arith}
use lib.ListN.{length, get_or, take, drop, length-append}
use Rattle.lists.specs.Lists.{◌∈◌}
use Rattle.tasks.specs.Numbers.{last_instant}
use Rattle.sheets.specs.Sheets.{wrapped}
use Rattle.board.specs.declared.Answer.{Answer}
use Rattle.board.specs.declared.Answer.TheVariants.{Rejected, Placed, Refused}
use Rattle.board.specs.Answers.{told}
use Rattle.board.specs.Calls.{submitted}
use Rattle.board.proofs.Placed.{placed-books}
use Rattle.events.specs.declared.Event.{Event}
use Rattle.events.specs.declared.Event.TheVariants.{NewBoard, Submit, Clock, Withdraw, GridBoard}
use Rattle.std.specs.Prelude.{Ok, Err, Some, None}
use Rattle.events.specs.Records.{Reading, read_from, submission_of}
use Rattle.events.specs.declared.ReadError.TheVariants.{CutShort, Unknown}
use Rattle.steps.specs.declared.State.{State}
use Rattle.session.specs.Recording.{stop_line, outcome, Story, story_from, Run, still, ran_from, room_for, most_events}
use Rattle.session.proofs.Running.{ran-got}
use Rattle.session.proofs.Recorded.{run-few, story-got, story-cut, story-strange, story-end}
use Rattle.reader.specs.declared.Reader.{Reader}
use Rattle.reader.specs.Reader.{held_of, Heard, heard_over, heard}
use Rattle.reader.proofs.Cases.{over_by, heard-by}
use Rattle.figures.specs.Figures.{Trial, trials_from, sheet_of}
use Rattle.figures.proofs.Laws.{figures-most}
use Rattle.summing.specs.Summary.{whole?}

-- EVENTS ONE BEHIND THE OTHER
unfoldable pub state_after : State → List Event → State
state_after s [] = s
state_after s (v ∷ vs) = state_after (outcome s v).state vs

pub trials-append : (s : State) (us vs : List Event) → trials_from s (us ++ vs) ≡ trials_from s us ++ trials_from (state_after s us) vs
unfolding trials_from state_after
trials-append s [] vs = refl
trials-append s (u ∷ us) vs =
    ap (λ l. record { now = s.board.now; event = u; answer = (outcome s u).answer.number; start = (outcome s u).answer.start } ∷ l) (trials-append (outcome s u).state us vs)

pub trials-length : (s : State) (vs : List Event) → length (trials_from s vs) ≡ length vs
unfolding trials_from
trials-length s [] = refl
trials-length s (v ∷ vs) = ap suc (trials-length (outcome s v).state vs)

run-state : (room : ℕ) (b : State) (n : ℕ) (bytes : List ℕ) → (ran_from room b n bytes).state ≡ state_after b (ran_from room b n bytes).events
unfolding ran_from state_after
run-state zero b n bytes = refl
run-state (suc room) b n bytes = go (λ c m ws. run-state room c m ws) (read_from bytes) refl
  where
    Follows : State → Run → Type 0
    Follows s run = run.state ≡ state_after s run.events

    stopped : ran_from (suc room) b n bytes ≡ still b → Follows b (ran_from (suc room) b n bytes)
    stopped e = subst (Follows b) (sym e) refl

    go : ((c : State) (m : ℕ) (ws : List ℕ) → Follows c (ran_from room c m ws)) → (r : Reading) → read_from bytes ≡ r → Follows b (ran_from (suc room) b n bytes)
    go next (Ok None) e = stopped (rw (e, ran_from))
    go next (Err (CutShort k)) e = stopped (rw (e, ran_from))
    go next (Err (Unknown k)) e = stopped (rw (e, ran_from))
    go next (Ok (Some (v, size))) e = subst (Follows b) (sym (ran-got room b n bytes v size e)) (next (outcome b v).state (suc n) (drop size bytes))

-- a piece leaves the state after its events, and no more than the last event that may be
pub record Leaves (r : Reader) (h : Heard) : Type 0 where
  pub state : h.reader.state ≡ state_after r.state h.events
  pub few : r.number ≤ most_events → h.reader.number ≤ most_events

over-leaves : (r : Reader) (kept : ℕ) (bytes : List ℕ) (words : ℕ) → Leaves r (heard_over r kept bytes words)
over-leaves r kept bytes words = over_by (Leaves r) r kept bytes words (λ q. record { state = follows; few = most })
    (λ q k e. record { state = follows; few = most }) (λ q f. record { state = follows; few = most })
  where
    run : Run
    run = ran_from (room_for words r.number) r.state r.number bytes

    most : r.number ≤ most_events → r.number + length run.lines ≤ most_events
    most h = omega (arith, run-few (room_for words r.number) r.state r.number bytes)

    follows : run.state ≡ state_after r.state run.events
    follows = run-state (room_for words r.number) r.state r.number bytes

pub heard-leaves : (r : Reader) (p : List ℕ) (words : ℕ) → Leaves r (heard r p words)
unfolding state_after
heard-leaves r p words =
    heard-by (Leaves r) r p words (λ o q. over-leaves r 0 p words) (λ o q. over-leaves r (length (held_of r)) (take 18 (held_of r ++ p)) (min words 6))
    (λ c. record { state = refl; few = λ h. h })

-- a piece has no more lines than there may be events
over-few : (r : Reader) (kept : ℕ) (bytes : List ℕ) (words : ℕ) → length (heard_over r kept bytes words).lines ≤ most_events
over-few r kept bytes words =
    over_by (λ h. length h.lines ≤ most_events) r kept bytes words (λ q. omega (arith, q))
    (λ q k e. omega (arith, q, length-append run.lines (stop_line (suc (r.number + length run.lines)) k 16 ∷ []))) (λ q f. omega (arith, q))
  where
    run : Run
    run = ran_from (room_for words r.number) r.state r.number bytes

pub heard-few : (r : Reader) (p : List ℕ) (words : ℕ) → length (heard r p words).lines ≤ most_events
heard-few r p words =
    heard-by (λ h. length h.lines ≤ most_events) r p words (λ o q. over-few r 0 p words)
    (λ o q. over-few r (length (held_of r)) (take 18 (held_of r ++ p)) (min words 6)) (λ c. omega arith)

-- A START IS NO LATER THAN 2,000,000,000
start-in-time : (s : State) (v : Event) → (outcome s v).answer.start ≤ last_instant
unfolding outcome told
start-in-time s (NewBoard W H) = omega arith
start-in-time s (Clock i) = omega arith
start-in-time s (Withdraw n) = omega arith
start-in-time s (GridBoard W H g) = omega arith
start-in-time s (Submit n a) = go (submitted s.board n (submission_of a)).answer refl
  where
    go : (x : Answer) → (submitted s.board n (submission_of a)).answer ≡ x → (told x).start ≤ last_instant
    go Rejected e = omega arith
    go (Refused k) e = omega arith
    go (Placed c t f) e = omega (arith, (placed-books s.board n (submission_of a) refl e).fits)

pub starts-in-time : (s : State) (vs : List Event) (t : Trial) → t ∈ trials_from s vs → t.start ≤ last_instant
unfolding trials_from
starts-in-time s [] t q = absurd (nowhere q)
starts-in-time s (v ∷ vs) t q = go (λ k. starts-in-time (outcome s v).state vs t k) (cases q)
  where
    go : (t ∈ trials_from (outcome s v).state vs → t.start ≤ last_instant)
        → (t ≡ record { now = s.board.now; event = v; answer = (outcome s v).answer.number; start = (outcome s v).answer.start })
        ⊎ (t ∈ trials_from (outcome s v).state vs) → t.start ≤ last_instant
    go next (inl e) = subst (λ n. n ≤ last_instant) (sym (ap (λ (x : Trial). x.start) e)) (start-in-time s v)
    go next (inr k) = next k

-- NO FIGURE WRAPS: at most 2,000,000,000 a task and 1,000,000,000 tasks
wrapped-small : (ns : List ℕ) → ((i : ℕ) → get_or ns i 0 < 18446744073709551616) → wrapped ns ≡ ns
wrapped-small [] h = refl
wrapped-small (n ∷ ns) h = ap₂ (λ x xs. x ∷ xs) (mod-eq_of_lt (h 0)) (wrapped-small ns (λ i. h (suc i)))

pub figures-fit : (files : ℕ) (ts : List Trial) → files < 9223372036854775808 → length ts ≤ most_events → ((t : Trial) → t ∈ ts → t.start ≤ last_instant)
    → wrapped (sheet_of files ts) ≡ sheet_of files ts
figures-fit files ts f n s =
    wrapped-small (sheet_of files ts) (λ i. omega (arith, figures-most last_instant (omega arith) files ts s i, mul-le-mul_right last_instant n))

-- HOW MANY EVENTS a whole recording has: fewer than may be
pub whole-few : (left : ℕ) (s : State) (n : ℕ) (bytes : List ℕ) → whole? (story_from left s n bytes).end ≡ true → length (story_from left s n bytes).events < left
whole-few zero s n [] e = absurd (let y : true ≡ false = sym e ∙ (unfold story_from in refl) in let z : ◌≡◌ {A = ℕ} 0 1 = cc in omega arith)
whole-few zero s n (b ∷ bytes) e = absurd (let y : true ≡ false = sym e ∙ (unfold story_from in refl) in let z : ◌≡◌ {A = ℕ} 0 1 = cc in omega arith)
whole-few (suc left) s n bytes e = go (λ c m ws q. whole-few left c m ws q) (read_from bytes) refl
  where
    Few : Story → Type 0
    Few x = length x.events < suc left

    go : ((c : State) (m : ℕ) (ws : List ℕ) → whole? (story_from left c m ws).end ≡ true → length (story_from left c m ws).events < left)
        → (r : Reading) → read_from bytes ≡ r → Few (story_from (suc left) s n bytes)
    go next (Ok None) q = subst Few (sym (story-end left s n bytes q)) (omega arith)
    go next (Err (CutShort k)) q = subst Few (sym (story-cut left s n bytes k q)) (omega arith)
    go next (Err (Unknown k)) q = subst Few (sym (story-strange left s n bytes k q)) (omega arith)
    go next (Ok (Some (v, size))) q =
        subst Few (sym (story-got left s n bytes v size q))
        (omega (arith, next (outcome s v).state (suc n) (drop size bytes) (sym (ap (λ (x : Story). whole? x.end) (story-got left s n bytes v size q)) ∙ e)))
