-- One line: its record fits, and what the code puts is what the line makes. Assumes nothing.
use Prim.Native.Nat.{ℕ, ◌+◌, ◌-◌, ◌≤◌}
use mathlib.Core.Path.{◌≡◌, refl, sym, ap, ◌∙◌}
use mathlib.Core.Bool.{true}
use mathlib.Core.List.{List, [], ◌++◌, append-nil, append_assoc}
use native.Mathlib.Omega.{arith}
use lib.ListN.{length, take, drop, length-drop, drop_of_length-le}
use lib.Seq.{sets, sets-eq, drop-drop}
use Rattle.events.specs.declared.Event.{Event}
use Rattle.std.specs.Prelude.{Ok}
use Rattle.events.specs.Records.{Written, record_of, body_of, written, written_buffer}
use Rattle.events.proofs.Found.{Known, new-board, submit, clock, withdraw, grid-board}
use Rattle.events.proofs.Calls.{has-kind}
use Rattle.events.proofs.Writing.{room-answer, room-buffer}
use Rattle.recorder.proofs.Reading.{part, onward}
use Rattle.std.proofs.Common.{Some, None, Ok, Err}
use Rattle.lines.specs.Lines.{Line, says}
use Rattle.recorder.specs.Recorder.{unmarked, made_of, line_made}

-- NO RECORD is longer than 18 bytes
body-short : {k n : ℕ} {f : List ℕ → Event} → Known k n f → n ≤ 17
body-short new-board = omega arith
body-short submit = omega arith
body-short clock = omega arith
body-short withdraw = omega arith
body-short grid-board = omega arith

pub record-short : (v : Event) → length (record_of v) ≤ 18
unfolding record_of
record-short v = let h : length (body_of v) ≤ 17 = body-short (has-kind v).1 in omega arith

-- the record of an event, put into a buffer from a place on
module _ (v : Event) (l : List ℕ) (used : ℕ) (h : used + 18 ≤ length l) where
  abbrev room : List ℕ
  room = part used (length l) l

  enough : length (record_of v) ≤ length room
  enough = omega (arith, record-short v, length-drop used l, ap length (onward l used))

  pub put-length : {w : Written} → w ≡ written v (length room) → w ≡ Ok (length (record_of v))
  put-length e = e ∙ room-answer v room enough

  pub put-stored : {m : List ℕ} → m ≡ written_buffer v room → take used l ++ (m ++ drop (length l - used) (drop used l)) ≡ sets l used (record_of v)
  put-stored {m} e =
      let none : drop (length l - used) (drop used l) ≡ [] = drop_of_length-le (drop used l) {i = length l - used} (omega (arith, length-drop used l)) in
      let tail : drop (length (record_of v)) room ≡ drop (used + length (record_of v)) l = ap (drop (length (record_of v))) (onward l used) ∙ drop-drop (length (record_of v)) used l in
      let whole = sets-eq (record_of v) l used (omega (arith, record-short v)) ∙ append_assoc (take used l) (record_of v) (drop (used + length (record_of v)) l) in
      rw (none, append-nil, e, room-buffer v room enough, tail) (sym whole)

-- what a line makes, by what was read behind its mark
pub made_by : (n records : ℕ) (text : List ℕ) {behind : List ℕ} {said : Line} (x : Line) → behind ≡ unmarked n text → said ≡ says behind → said ≡ x
    → line_made n records text ≡ made_of n records behind x
unfolding line_made
made_by n records text {behind} x m r q = ap (λ t. made_of n records t (says t)) (sym m) ∙ ap (made_of n records behind) (sym r ∙ q)

-- a line that goes on says nothing, and no line writes more than a record
made_quiet : (n records : ℕ) (line : List ℕ) (x : Line) → (made_of n records line x).more ≡ true → (made_of n records line x).output.err ≡ []
unfolding made_of
made_quiet n records line (Ok None) e = refl
made_quiet n records line (Ok (Some v)) e = refl
made_quiet n records line (Err w) e = absurd (let z : ◌≡◌ {A = ℕ} 0 1 = cc in omega arith)

made-short : (n records : ℕ) (line : List ℕ) (x : Line) → length (made_of n records line x).output.out ≤ 18
unfolding made_of
made-short n records line (Ok None) = omega arith
made-short n records line (Ok (Some v)) = record-short v
made-short n records line (Err w) = omega arith

made-few : (n records : ℕ) (line : List ℕ) (x : Line) → (made_of n records line x).records ≤ 1
unfolding made_of
made-few n records line (Ok None) = omega arith
made-few n records line (Ok (Some v)) = omega arith
made-few n records line (Err w) = omega arith

module _ (n records : ℕ) (line : List ℕ) where
  pub line_quiet : (line_made n records line).more ≡ true → (line_made n records line).output.err ≡ []
  unfolding line_made
  line_quiet e = made_quiet n records (unmarked n line) (says (unmarked n line)) e

  pub line-short : length (line_made n records line).output.out ≤ 18
  unfolding line_made
  line-short = made-short n records (unmarked n line) (says (unmarked n line))

  pub line-few : (line_made n records line).records ≤ 1
  unfolding line_made
  line-few = made-few n records (unmarked n line) (says (unmarked n line))
