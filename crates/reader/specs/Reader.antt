-- A recording that comes in pieces: where its reader stands between two of them, and what it tells of each. Assumes nothing.
use Rattle.std.specs.Prelude.{ℕ, suc, ◌+◌, ◌-◌, min, Bool, true, false, cond, List, [], ◌∷◌, ◌++◌, ltb, eqb, length, take, drop, replicate, Ok, Err}
use Rattle.lists.specs.Lists.{over_front}
use Rattle.events.specs.declared.Event.{Event}
use Rattle.events.specs.declared.ReadError.TheVariants.{CutShort, Unknown}
use Rattle.events.specs.Records.{Reading, read_from}
use Rattle.session.specs.declared.Ending.{Ending}
use Rattle.session.specs.declared.Ending.TheVariants.{NotYet, AtEnd, In15, In16, AtLast, PastLast}
use Rattle.session.specs.Recording.{Line, stop_line, Run, ran_from, room_for, line_numbers, most_events, first_state}
use Rattle.reader.specs.declared.Reader.{Reader}
use Rattle.reader.specs.declared.Fed.{Fed}

-- "begins with an unsound board of zeros": no event is done, no byte is held
unfoldable pub first_reader : Reader
first_reader = record { state = first_state; number = 0; held = replicate 18 0; size = 0; end = NotYet }

-- the bytes of a record that has begun and whose end has not come
abbrev pub held_of : Reader → List ℕ
held_of r = take r.size r.held

-- what a piece tells: lines, events, where the reader stands then, and how many bytes of the piece it has taken
pub record Heard : Type 0 where
  pub lines : List Line
  pub events : List Event
  pub reader : Reader
  pub taken : ℕ

-- after a run: its state, its events, the bytes that are held now, and whether that was the last event that may be
abbrev pub after : Reader → Run → List ℕ → ℕ → Ending → Reader
after r run held size end = record { state = run.state; number = r.number + length run.lines; held = held; size = size; end = end }

-- the run was as long as there was room for
abbrev pub is_full : Reader → ℕ → Run → Heard
is_full r kept run = record {
  lines = run.lines;
  events = run.events;
  reader = after r run r.held (cond (eqb run.taken 0) r.size 0) (cond (ltb (r.number + length run.lines) most_events) NotYet AtLast);
  taken = run.taken - kept;
}

-- it stopped before the begin of a record, which is held
abbrev pub holds_on : Reader → Run → List ℕ → ℕ → Heard
holds_on r run rest taken =
    record { lines = run.lines; events = run.events; reader = after r run (over_front rest r.held) (length rest) NotYet; taken = taken }

-- it stopped before a record of no known kind, which gets its line
abbrev pub meets_stranger : Reader → Run → ℕ → ℕ → Heard
meets_stranger r run taken k = record {
  lines = run.lines ++ (stop_line (suc (r.number + length run.lines)) k 16 ∷ []);
  events = run.events;
  reader = after r run r.held 0 (In16 k);
  taken = taken;
}

-- there was room for more: what is next is no whole record
unfoldable pub stops_before : Reader → Run → List ℕ → ℕ → Reading → Heard
stops_before r run rest taken (Ok x) = holds_on r run rest taken
stops_before r run rest taken (Err (CutShort k)) = holds_on r run rest taken
stops_before r run rest taken (Err (Unknown k)) = meets_stranger r run taken k

-- a run over some bytes, the first of which were held: as far as there is room
unfoldable pub heard_over : Reader → ℕ → List ℕ → ℕ → Heard
heard_over r kept bytes words =
    let run = ran_from (room_for words r.number) r.state r.number bytes in
    cond (ltb (length run.lines) (room_for words r.number))
    (stops_before r run (drop run.taken bytes) (length bytes - kept) (read_from (drop run.taken bytes))) (is_full r kept run)

-- the bytes that a run goes over: a record that has begun goes first, by itself
unfoldable pub source_of : Reader → List ℕ → List ℕ
source_of r piece = cond (eqb (length (held_of r)) 0) piece (take 18 (held_of r ++ piece))

-- what a piece tells: a record that has begun goes first, by itself: no record is longer than 18 bytes
unfoldable pub goes_on_with : Reader → List ℕ → ℕ → Heard
goes_on_with r piece words =
    cond (eqb (length (held_of r)) 0) (heard_over r 0 piece words)
    (heard_over r (length (held_of r)) (take 18 (held_of r ++ piece)) (min words 6))

-- nothing is told, and the piece is taken
abbrev pub passed_over : Reader → List ℕ → Ending → Heard
passed_over r piece end = record {
  lines = [];
  events = [];
  reader = record { state = r.state; number = r.number; held = r.held; size = r.size; end = end };
  taken = length piece;
}

-- the recording has not ended yet
unfoldable pub open? : Ending → Bool
open? NotYet = true
open? AtEnd = false
open? (In15 k) = false
open? (In16 k) = false
open? AtLast = false
open? PastLast = false

-- behind the last event that may be a byte is one too many; every other end stays
unfoldable pub later_end : Ending → List ℕ → Ending
later_end NotYet piece = NotYet
later_end AtEnd piece = AtEnd
later_end (In15 k) piece = In15 k
later_end (In16 k) piece = In16 k
later_end AtLast piece = cond (eqb (length piece) 0) AtLast PastLast
later_end PastLast piece = PastLast

-- WHAT A PIECE TELLS: nothing where the recording has ended, "After 15 or 16 it .. stops"
unfoldable pub heard : Reader → List ℕ → ℕ → Heard
heard r piece words = cond (open? r.end) (goes_on_with r piece words) (passed_over r piece (later_end r.end piece))

-- what the code answers, and what its lent buffer holds: six words a line
abbrev pub as_fed : Heard → Fed
as_fed h = record { reader = h.reader; taken = h.taken; count = length h.lines }

unfoldable pub fed : Reader → List ℕ → ℕ → Fed
fed r piece words = as_fed (heard r piece words)

unfoldable pub fed_buffer : Reader → List ℕ → List ℕ → List ℕ
fed_buffer r piece answers = over_front (line_numbers (heard r piece (length answers)).lines) answers

-- the input has ended in what is held: "a known kind with too few bytes is 15"
unfoldable pub end_in : Reading → Ending
end_in (Ok x) = AtEnd
end_in (Err (CutShort k)) = In15 k
end_in (Err (Unknown k)) = In16 k

-- HOW THE RECORDING HAS ENDED, where that is all the input
unfoldable pub end_of : Reader → Ending
end_of r = cond (open? r.end) (end_in (read_from (held_of r))) r.end

-- "After 15 .. it prints that line": the line that an end has behind the lines before it; a 16 has had its own
unfoldable pub last_lines : ℕ → Ending → List Line
last_lines n NotYet = []
last_lines n AtEnd = []
last_lines n (In15 k) = stop_line (suc n) k 15 ∷ []
last_lines n (In16 k) = []
last_lines n AtLast = []
last_lines n PastLast = []
