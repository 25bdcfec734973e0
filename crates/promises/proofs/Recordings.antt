-- OVER A RECORDING OF BYTES: what is run is the ledger's account of the events read, and the board keeps its promises after each. Assumes nothing.
use Prim.Native.Nat.{ℕ, zero, suc, ◌+◌}
use mathlib.Core.Path.{◌≡◌, refl, sym, ap, ◌∙◌, subst}
use mathlib.Core.Logic.{◌⊎◌, inl, inr}
use mathlib.Core.List.Memᴰ
use mathlib.Core.List.Memᴰ.{cases_cons as cases}
use mathlib.Core.List.Memᴰ.{not-nil as nowhere}
use mathlib.Core.List.{List, [], ◌∷◌, ◌++◌}
use native.Mathlib.Omega.{arith}
use native.Mathlib.Nat.{zero-add}
use lib.ListN.{length, drop}
use Rattle.lists.specs.Lists.{◌∈◌, over_front}
use Rattle.tasks.specs.declared.Task.{Task}
use Rattle.events.specs.declared.Event.{Event}
use Rattle.std.specs.Prelude.{Ok, Err, Some, None}
use Rattle.events.specs.Records.{Reading, kind_of, read_from}
use Rattle.events.specs.declared.ReadError.TheVariants.{CutShort, Unknown}
use Rattle.events.proofs.RoundTrip.{Bytes, Fits, board, submission, instant, name, gridded as grid-board}
use Rattle.events.proofs.Widths.{bytes_drop, read_fits}
use Rattle.steps.specs.declared.State.{State}
use Rattle.session.specs.declared.Ran.{Ran}
use Rattle.session.specs.Recording.{Line, line_of, first_state, outcome, story_from, story, ran_from, line_numbers, room_for, ran, ran_buffer}
use Rattle.session.proofs.Stories.{last_line, story-run}
use Rattle.session.proofs.run.Reads as run
use Rattle.promises.specs.Ledger.{ledger_after, Account, account_after}
use Rattle.promises.proofs.Session.{Named, new, gridded, submit, clock, withdraw, Honest, honest-session, honest-none, honest-from}

-- a state and its promises
abbrev pub account : State → List Task → Account
account s ks = record { state = s; promises = ks }

-- the lines of some events from a state on, of which n are done
unfoldable pub lines_of : ℕ → State → List Event → List Line
lines_of n s [] = []
lines_of n s (v ∷ vs) = line_of (suc n) v (outcome s v).answer ∷ lines_of (suc n) (outcome s v).state vs

lines-length : (n : ℕ) (s : State) (vs : List Event) → length (lines_of n s vs) ≡ length vs
unfolding lines_of
lines-length n s [] = refl
lines-length n s (v ∷ vs) = ap suc (lines-length (suc n) (outcome s v).state vs)

-- an event whose fields fit has an id that fits
fits-named : {v : Event} → Fits v → Named v
fits-named (board {W} {H} p q) = new W H
fits-named (submission {n} {a} p q) = submit n a (let h = q.id in omega arith)
fits-named (instant {i} p) = clock i
fits-named (name {n} p) = withdraw n
fits-named (grid-board {W} {H} {g} p q r) = gridded W H g

-- a run, event by event
data Played : State → ℕ → List ℕ → List Line → List Event → State → Type 0 where
  none : {s : State} {n : ℕ} {bytes : List ℕ} → Played s n bytes [] [] s
  more : {s t : State} {n size : ℕ} {bytes : List ℕ} {ls : List Line} {v : Event} {vs : List Event} → read_from bytes ≡ Ok (Some (v, size))
      → Played (outcome s v).state (suc n) (drop size bytes) ls vs t → Played s n bytes (line_of (suc n) v (outcome s v).answer ∷ ls) (v ∷ vs) t

played : (room : ℕ) (s : State) (n : ℕ) (bytes : List ℕ) → let r = ran_from room s n bytes in Played s n bytes r.lines r.events r.state
unfolding ran_from
played zero s n bytes = none
played (suc room) s n bytes = go (λ t m ws. played room t m ws) (read_from bytes) refl
  where
    go : ((t : State) (m : ℕ) (ws : List ℕ) → let r = ran_from room t m ws in Played t m ws r.lines r.events r.state)
        → (x : Reading) → read_from bytes ≡ x → let r = ran_from (suc room) s n bytes in Played s n bytes r.lines r.events r.state
    go next (Ok None) e = rw (e, ran_from) none
    go next (Err (CutShort k)) e = rw (e, ran_from) none
    go next (Err (Unknown k)) e = rw (e, ran_from) none
    go next (Ok (Some (v, size))) e = rw (e, ran_from) (more e (next (outcome s v).state (suc n) (drop size bytes)))

played-lines : {s t : State} {n : ℕ} {bytes : List ℕ} {ls : List Line} {vs : List Event} → Played s n bytes ls vs t → ls ≡ lines_of n s vs
unfolding lines_of
played-lines none = refl
played-lines (more {s} {n} {v} e p) = ap (λ ls. line_of (suc n) v (outcome s v).answer ∷ ls) (played-lines p)

played-state : {s t : State} {n : ℕ} {bytes : List ℕ} {ls : List Line} {vs : List Event} → Played s n bytes ls vs t → (ks : List Task) → (account_after (account s ks) vs).state ≡ t
unfolding account_after
played-state none ks = refl
played-state (more e p) ks = played-state p _

played-named : {s t : State} {n : ℕ} {bytes : List ℕ} {ls : List Line} {vs : List Event} → Played s n bytes ls vs t → Bytes bytes → (v : Event) → v ∈ vs → Named v
played-named none h v m = absurd (nowhere m)
played-named (more {size} {bytes} {v = w} {vs} e p) h v m = of (λ x. played-named p (bytes_drop size bytes h) v x) (cases m)
  where
    of : (v ∈ vs → Named v) → (v ≡ w) ⊎ (v ∈ vs) → Named v
    of below (inl q) = subst Named (sym q) (fits-named (read_fits bytes h w size e))
    of below (inr x) = below x

-- the events of a run that is lent so many words
abbrev pub events_in : State → ℕ → List ℕ → ℕ → List Event
events_in s n bytes words = (ran_from (room_for words n) s n bytes).events

module _ (s : State) (n : ℕ) (bytes : List ℕ) where
  -- EVERY EVENT READ FROM BYTES has an id that fits
  pub run-named : (room : ℕ) → Bytes bytes → (v : Event) → v ∈ (ran_from room s n bytes).events → Named v
  run-named room = played-named (played room s n bytes)

  -- THE LINES OF A RUN are the answers of its events, each in the state that the events before it leave
  pub run-lines : (room : ℕ) → (ran_from room s n bytes).lines ≡ lines_of n s (ran_from room s n bytes).events
  run-lines room = played-lines (played room s n bytes)

  -- THE STATE OF A RUN is the account's, whatever was promised before
  pub run-state : (room : ℕ) (ks : List Task) → (account_after (account s ks) (ran_from room s n bytes).events).state ≡ (ran_from room s n bytes).state
  run-state room = played-state (played room s n bytes)

  -- THE PROMISES OF A RUN are kept
  pub run-honest : (room : ℕ) (ks : List Task) → Bytes bytes → Honest s.board ks
      → Honest (ran_from room s n bytes).state.board (account_after (account s ks) (ran_from room s n bytes).events).promises
  run-honest room ks h o =
      let vs = (ran_from room s n bytes).events in
      subst (λ t. Honest t.board (account_after (account s ks) vs).promises) (run-state room ks) (honest-session (account s ks) vs (run-named room h) o)

  -- whatever `session::run` may return
  pub ran-honest : {r : Ran} (words : ℕ) → r ≡ ran s n bytes words → (ks : List Task) → Bytes bytes → Honest s.board ks
      → Honest r.state.board (account_after (account s ks) (events_in s n bytes words)).promises
  unfolding ran
  ran-honest words e ks h o = subst (λ x. Honest x.state.board (account_after (account s ks) (events_in s n bytes words)).promises) (sym e) (run-honest (room_for words n) ks h o)

  ran-count : (words : ℕ) → (ran s n bytes words).count ≡ length (events_in s n bytes words)
  unfolding ran
  ran-count words = ap length (run-lines (room_for words n)) ∙ lines-length n s (events_in s n bytes words)

  ran-words : (lent : List ℕ) → ran_buffer s n bytes lent ≡ over_front (line_numbers (lines_of n s (events_in s n bytes (length lent)))) lent
  unfolding ran_buffer
  ran-words lent = ap (λ ls. over_front (line_numbers ls) lent) (run-lines (room_for (length lent) n))

  -- the same of a recording, for as many events as are left to read
  module _ (left : ℕ) where
    same-events : (story_from left s n bytes).events ≡ (ran_from left s n bytes).events
    same-events = ap (λ t. t.events) (story-run left s n bytes)

    pub story-named : Bytes bytes → (v : Event) → v ∈ (story_from left s n bytes).events → Named v
    story-named h v m = run-named left h v (subst (λ vs. v ∈ vs) same-events m)

    -- THE LINES OF A RECORDING, and behind them the line of a 15 or a 16
    pub story-lines : let t = story_from left s n bytes in t.lines ≡ lines_of n s t.events ++ last_line (n + length t.events) t.end
    story-lines =
        ap (λ t. t.lines) (story-run left s n bytes)
        ∙ ap (λ ls. ls ++ last_line (n + length (ran_from left s n bytes).events) (story_from left s n bytes).end) (run-lines left)
        ∙ ap (λ vs. lines_of n s vs ++ last_line (n + length vs) (story_from left s n bytes).end) (sym same-events)

    pub story-state : (ks : List Task) → (account_after (account s ks) (story_from left s n bytes).events).state ≡ (story_from left s n bytes).state
    story-state ks =
        ap (λ vs. (account_after (account s ks) vs).state) same-events ∙ run-state left ks ∙ sym (ap (λ t. t.state) (story-run left s n bytes))

    pub story-honest : (ks : List Task) → Bytes bytes → Honest s.board ks
        → Honest (story_from left s n bytes).state.board (account_after (account s ks) (story_from left s n bytes).events).promises
    story-honest ks h o =
        let vs = (story_from left s n bytes).events in
        subst (λ t. Honest t.board (account_after (account s ks) vs).promises) (story-state ks) (honest-session (account s ks) vs (story-named h) o)

-- line by line: the events behind some others are answered in the state that the ledger's account of those leaves
pub lines-on : (n : ℕ) (s : State) (ks : List Task) (vs ws : List Event)
    → lines_of n s (vs ++ ws) ≡ lines_of n s vs ++ lines_of (n + length vs) (account_after (account s ks) vs).state ws
unfolding lines_of account_after
lines-on n s ks [] ws = let e : n ≡ n + 0 = omega arith in ap (λ m. lines_of m s ws) e
lines-on n s ks (v ∷ vs) ws =
    let e : suc n + length vs ≡ n + suc (length vs) = omega arith in
    let t = (account_after (account (outcome s v).state (ledger_after s ks v)) vs).state in
    ap (λ ls. line_of (suc n) v (outcome s v).answer ∷ ls)
    (lines-on (suc n) (outcome s v).state (ledger_after s ks v) vs ws ∙ ap (λ m. lines_of (suc n) (outcome s v).state vs ++ lines_of m t ws) e)

-- WHAT `session::run` GIVES. `run.Post` is its promise as it stands in the code, over what it takes, returns and leaves; each is named by its place there.
-- The board keeps its promises, those made before the run and those made in it,
pub code-honest : (κs : _) (a : _) (r : _) (z : _) → run.Post κs a r z
    → let s = a.0 in let n = a.1.0 in let bytes = a.1.1.0.now in let lent = a.1.1.1.0.now in
    (ks : List Task) → Bytes bytes → Honest s.board ks → Honest r.state.board (account_after (account s ks) (events_in s n bytes (length lent))).promises
code-honest κs a r z e = ran-honest a.0 a.1.0 a.1.1.0.now _ e.0

-- and the buffer has at its front a line for each event, with the answer that the account gives
pub code_lines : (κs : _) (a : _) (r : _) (z : _) → run.Post κs a r z
    → let s = a.0 in let n = a.1.0 in let bytes = a.1.1.0.now in let lent = a.1.1.1.0.now in let after = z.1.1.1.0.now in
    let vs = events_in s n bytes (length lent) in
    (r.count ≡ length vs) × (after ≡ over_front (line_numbers (lines_of n s vs)) lent)
code_lines κs a r z e =
    let s = a.0 in
    let n = a.1.0 in
    let bytes = a.1.1.0.now in
    (ap (λ x. x.count) e.0 ∙ ran-count s n bytes _, e.1.0 ∙ ran-words s n bytes _)

-- A WHOLE RECORDING, from the board of zeros
pub recording-honest : (bytes : List ℕ) → Bytes bytes → Honest (story bytes).state.board (account_after (account first_state []) (story bytes).events).promises
unfolding story
recording-honest bytes h = story-honest first_state 0 bytes _ [] h (honest-none first_state.board (inr refl))

-- its lines are the answers of its events, and behind them the line of a 15 or a 16
pub recording-lines : (bytes : List ℕ) → let t = story bytes in t.lines ≡ lines_of 0 first_state t.events ++ last_line (length t.events) t.end
unfolding story
recording-lines bytes =
    let t = story bytes in
    story-lines first_state 0 bytes _ ∙ ap (λ m. lines_of 0 first_state t.events ++ last_line m t.end) (zero-add (length t.events))

-- and AFTER EACH OF ITS EVENTS: vs have been played, ws are to come
pub recording-after : (bytes : List ℕ) → Bytes bytes → (vs ws : List Event) → (story bytes).events ≡ vs ++ ws
    → let c = account_after (account first_state []) vs in Honest c.state.board c.promises
unfolding story
recording-after bytes h vs ws e =
    honest-from first_state vs (inr refl) (λ v m. story-named first_state 0 bytes _ h v (subst (λ us. v ∈ us) (sym e) (Memᴰ.append_left ws m)))
