-- The run of a recording: how a list of bytes goes, event by event, and what a run over some of them does. Assumes nothing.
use Rattle.std.specs.Prelude.{ℕ, zero, suc, ◌+◌, ◌-◌, ◌/◌, min, List, [], ◌∷◌, length, drop, Option, Some, None, Ok, Err}
use Rattle.lists.specs.Lists.{over_front}
use Rattle.board.specs.Answers.{Told}
use Rattle.events.specs.declared.Event.{Event}
use Rattle.events.specs.declared.ReadError.TheVariants.{CutShort, Unknown}
use Rattle.events.specs.Records.{kind_of, id_of, read_from}
use Rattle.session.specs.declared.Ending.{Ending}
use Rattle.session.specs.declared.Ending.TheVariants.{AtEnd, In15, In16, AtLast, PastLast}
use Rattle.session.specs.declared.Ran.{Ran}
use Rattle.steps.specs.declared.State.{State}
pub use Rattle.steps.specs.Outcomes.{first_state, Outcome}
unfoldable pub use Rattle.steps.specs.Outcomes.{outcome}

-- "event number from 1, kind, answer, column, start, finish"; and the id that its event names, for those who read the lines
pub record Line : Type 0 where
  pub event : ℕ
  pub kind : ℕ
  pub answer : ℕ
  pub column : ℕ
  pub start : ℕ
  pub finish : ℕ
  pub id : Option ℕ

-- the line of an event
unfoldable pub line_of : ℕ → Event → Told → Line
line_of n v a =
    record { event = n; kind = kind_of v; answer = a.number; column = a.column; start = a.start; finish = a.finish; id = id_of v }

-- the line of a 15 or 16, "kind as the byte read, zeros"
unfoldable pub stop_line : ℕ → ℕ → ℕ → Line
stop_line n kind number = record { event = n; kind = kind; answer = number; column = 0; start = 0; finish = 0; id = None }

-- how a recording goes: its lines, its events, the state that follows the last of them, and how it ends
pub record Story : Type 0 where
  pub lines : List Line
  pub events : List Event
  pub state : State
  pub end : Ending

-- no further event; the line of a 15 or 16 is the last one
abbrev pub ends_in : List Line → State → Ending → Story
ends_in last s e = record { lines = last; events = []; state = s; end = e }

-- HOW A RECORDING GOES from a state on, of which n events are done, for as many events as are left to read:
-- "After 15 or 16 it prints that line (kind as the byte read, zeros) and stops"
unfoldable pub story_from : ℕ → State → ℕ → List ℕ → Story
story_from zero s n [] = ends_in [] s AtLast
story_from zero s n (b ∷ bytes) = ends_in [] s PastLast
story_from (suc left) s n bytes =
    elim (read_from bytes) [
      | Ok None ↦ ends_in [] s AtEnd
      | Ok (Some (v, size)) ↦
          let next = story_from left (outcome s v).state (suc n) (drop size bytes) in
          record {
            lines = line_of (suc n) v (outcome s v).answer ∷ next.lines;
            events = v ∷ next.events;
            state = next.state;
            end = next.end;
          }
      | Err (CutShort k) ↦ ends_in (stop_line (suc n) k 15 ∷ []) s (In15 k)
      | Err (Unknown k) ↦ ends_in (stop_line (suc n) k 16 ∷ []) s (In16 k)
    ]

-- "it also stops, without a line, after 1,000,000,000 events"
abbrev pub most_events : ℕ
most_events = 1000000000

-- "The program `plan` .. begins with an unsound board of zeros"
unfoldable pub story : List ℕ → Story
story bytes = story_from most_events first_state 0 bytes

-- what a run over some bytes has done: the lines, the events, the state that follows, the bytes taken
pub record Run : Type 0 where
  pub lines : List Line
  pub events : List Event
  pub state : State
  pub taken : ℕ

-- nothing is done
abbrev pub still : State → Run
still s = record { lines = []; events = []; state = s; taken = 0 }

-- THE RUN: whole records from a state on, of which n events are done, at most `room` of them; it stops before a 15, a 16 and the end
unfoldable pub ran_from : ℕ → State → ℕ → List ℕ → Run
ran_from zero s n bytes = still s
ran_from (suc room) s n bytes =
    elim (read_from bytes) [
      | Ok None ↦ still s
      | Ok (Some (v, size)) ↦
          let next = ran_from room (outcome s v).state (suc n) (drop size bytes) in
          record {
            lines = line_of (suc n) v (outcome s v).answer ∷ next.lines;
            events = v ∷ next.events;
            state = next.state;
            taken = size + next.taken;
          }
      | Err (CutShort k) ↦ still s
      | Err (Unknown k) ↦ still s
    ]

-- a line in six words
unfoldable pub line_numbers : List Line → List ℕ
line_numbers [] = []
line_numbers (l ∷ ls) = l.event ∷ l.kind ∷ l.answer ∷ l.column ∷ l.start ∷ l.finish ∷ line_numbers ls

-- how many events more: as many as six words a line leave room for, and not past the last event
abbrev pub room_for : ℕ → ℕ → ℕ
room_for words n = min (words / 6) (most_events - n)

-- what the run of a recording answers
unfoldable pub ran : State → ℕ → List ℕ → ℕ → Ran
ran s n bytes words =
    let r = ran_from (room_for words n) s n bytes in
    record { count = length r.lines; taken = r.taken; state = r.state }

-- and what the lent buffer holds: words beyond are left as found
unfoldable pub ran_buffer : State → ℕ → List ℕ → List ℕ → List ℕ
ran_buffer s n bytes answers = over_front (line_numbers (ran_from (room_for (length answers) n) s n bytes).lines) answers
