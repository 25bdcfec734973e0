-- Event records: the bytes of an event, what reading a list of bytes gives, the writer's buffer afterwards. Assumes nothing.
use Rattle.std.specs.Prelude.{ℕ, suc, cond, List, [], ◌∷◌, ◌++◌, leb, ltb, eqb, length, Option, Some, None, Result, Ok, Err}
use Rattle.lists.specs.Lists.{over_front}
use Rattle.tasks.specs.declared.Submission.{Submission}
use Rattle.events.specs.declared.Ask.{Ask}
use Rattle.events.specs.declared.Event.{Event}
use Rattle.events.specs.declared.Event.TheVariants.{NewBoard, Submit, Clock, Withdraw, GridBoard}
use Rattle.events.specs.declared.ReadError.{ReadError}
use Rattle.events.specs.declared.ReadError.TheVariants.{CutShort, Unknown}
use Rattle.events.specs.declared.NoRoom.{NoRoom}
unfoldable pub use Rattle.fields.specs.Fields.{bytes_of, number_of}
pub use Rattle.fields.specs.Fields.{field}

-- "Kind": 1 new board, 2 submit, 3 clock, 4 withdraw, 5 new board on a grid
unfoldable pub kind_of : Event → ℕ
kind_of (NewBoard W H) = 1
kind_of (Submit n a) = 2
kind_of (Clock i) = 3
kind_of (Withdraw n) = 4
kind_of (GridBoard W H g) = 5

-- the id that an event names
unfoldable pub id_of : Event → Option ℕ
id_of (NewBoard W H) = None
id_of (Submit n a) = Some a.id
id_of (Clock i) = None
id_of (Withdraw n) = Some n
id_of (GridBoard W H g) = None

-- "Body": W 2, H 2; planner 1, id 4, w 2, h 2, e 4, d 4; instant 4; id 4; W 2, H 2, g 1
unfoldable pub body_of : Event → List ℕ
body_of (NewBoard W H) = bytes_of 2 W ++ bytes_of 2 H
body_of (Submit n a) =
    bytes_of 1 n ++ bytes_of 4 a.id ++ bytes_of 2 a.w ++ bytes_of 2 a.h ++ bytes_of 4 a.e ++ bytes_of 4 a.d
body_of (Clock i) = bytes_of 4 i
body_of (Withdraw n) = bytes_of 4 n
body_of (GridBoard W H g) = bytes_of 2 W ++ bytes_of 2 H ++ bytes_of 1 g

-- "One byte of kind, then a body"
unfoldable pub record_of : Event → List ℕ
record_of v = kind_of v ∷ body_of v

-- "1 new board: W 2, H 2"
abbrev pub new_board_in : List ℕ → Event
new_board_in body = NewBoard (field 0 2 body) (field 2 2 body)

-- "2 submit: planner 1, id 4, w 2, h 2, e 4, d 4"
abbrev pub submit_in : List ℕ → Event
submit_in body =
    Submit (field 0 1 body) (record {
      id = field 1 4 body;
      e = field 9 4 body;
      d = field 13 4 body;
      w = field 5 2 body;
      h = field 7 2 body;
    })

-- "2 submit": what it asks of a planner
abbrev pub submission_of : Ask → Submission
submission_of a = record { id = a.id; e = a.e; d = a.d; w = a.w; h = a.h }

-- "3 clock: instant 4"
abbrev pub clock_in : List ℕ → Event
clock_in body = Clock (field 0 4 body)

-- "4 withdraw: id 4"
abbrev pub withdraw_in : List ℕ → Event
withdraw_in body = Withdraw (field 0 4 body)

-- document 02, Q-3: "Event kind 5 is a new board with W 2, H 2, g 1"
abbrev pub grid_board_in : List ℕ → Event
grid_board_in body = GridBoard (field 0 2 body) (field 2 2 body) (field 4 1 body)

-- what the reader and the writer return, as src/lib.rt declares them
abbrev pub Reading : Type 0
Reading = Result (Option (Event × ℕ)) ReadError

abbrev pub Written : Type 0
Written = Result ℕ NoRoom

-- "a known kind with too few bytes is 15": the event and the bytes it took, where its n bytes of body are there
unfoldable pub whole_or15 : ℕ → ℕ → List ℕ → Event → Reading
whole_or15 kind n body v = cond (ltb (length body) n) (Err (CutShort kind)) (Ok (Some (v, suc n)))

-- THE READER: "No kind byte left is the end"; an unknown kind byte is 16; it judges no field value
unfoldable pub read_from : List ℕ → Reading
read_from [] = (Ok None)
read_from (kind ∷ body) =
    cond (eqb kind 1) (whole_or15 kind 4 body (new_board_in body))
    (cond (eqb kind 2) (whole_or15 kind 17 body (submit_in body))
    (cond (eqb kind 3) (whole_or15 kind 4 body (clock_in body))
    (cond (eqb kind 4) (whole_or15 kind 4 body (withdraw_in body))
    (cond (eqb kind 5) (whole_or15 kind 5 body (grid_board_in body)) (Err (Unknown kind))))))

-- THE WRITER: "puts one record at the front of a lent buffer and returns its length; too little room gives 17"
unfoldable pub written : Event → ℕ → Written
written v room = cond (leb (length (record_of v)) room) (Ok (length (record_of v))) (Err (record {}))

-- "bytes beyond the record stay"; a refusal leaves every byte
unfoldable pub written_buffer : Event → List ℕ → List ℕ
written_buffer v buffer = cond (leb (length (record_of v)) (length buffer)) (over_front (record_of v) buffer) buffer

-- an answer number with the kind byte and the bytes taken
pub record ToldRead : Type 0 where
  pub number : ℕ
  pub kind : ℕ
  pub taken : ℕ

-- "No kind byte left is the end, no refusal, 0 bytes taken"; "With 15 and 16 come the kind byte, no event and 0 bytes taken"
unfoldable pub told_read : Reading → ToldRead
told_read (Ok None) = record { number = 0; kind = 0; taken = 0 }
told_read (Ok (Some (v, n))) = record { number = 0; kind = kind_of v; taken = n }
told_read (Err (CutShort k)) = record { number = 15; kind = k; taken = 0 }
told_read (Err (Unknown k)) = record { number = 16; kind = k; taken = 0 }

-- an answer number with the length
pub record ToldWritten : Type 0 where
  pub number : ℕ
  pub length : ℕ

-- "returns its length; too little room gives 17"
unfoldable pub told_written : Written → ToldWritten
told_written (Err _) = record { number = 17; length = 0 }
told_written (Ok n) = record { number = 0; length = n }
