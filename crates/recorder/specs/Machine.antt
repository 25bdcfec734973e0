-- The machine that `record` runs, fed piece by piece: what each call does. Assumes nothing.
use Rattle.std.specs.Prelude.{ℕ, ◌+◌, ◌-◌, Bool, true, false, cond, ◌&&◌, List, [], ◌∷◌, leb, ltb, length, take}
use Rattle.std.proofs.lemmas.List.Edits.{sets}
use Rattle.text.specs.Output.{Output, nothing, before}
use Rattle.recorder.specs.declared.Recorder.{Recorder}
use Rattle.recorder.specs.declared.Fed.{Fed}
use Rattle.recorder.specs.declared.Step.{Step}
use Rattle.recorder.specs.Recorder.{Made, lines_on, long_text, refused, line_made, record_lines}

-- what a line made, as code hands it on
abbrev pub step_of : Made → Step
step_of m = record { used = length m.output.out; said = length m.output.err; records = m.records; more = m.more }

-- where it begins: line 1, no record, no byte held
abbrev pub begun : Recorder
begun = record { line = 1; records = 0; held = 0; more = true }

-- a counter of 64 bits stays at its largest number
unfoldable pub added : ℕ → ℕ → ℕ
added n k = cond (leb (n + k) 18446744073709551615) (n + k) 18446744073709551615

-- what a feeding does: where the machine then stands, its held bytes, how many bytes it took, what it wrote
pub record Feeding : Type 0 where
  pub recorder : Recorder
  pub held : List ℕ
  pub taken : ℕ
  pub output : Output

-- the end of a line: the first n of the held bytes are the line
unfoldable pub line_fed : Recorder → List ℕ → ℕ → ℕ → Feeding
line_fed r held n taken =
    let m = line_made r.line r.records (take n held) in
    record {
      recorder = record { line = added r.line 1; records = added r.records m.records; held = 0; more = m.more };
      held = held;
      taken = taken;
      output = m.output;
    }

-- bytes behind the held ones, with no line feed behind them
abbrev pub kept_fed : Recorder → List ℕ → List ℕ → Feeding
kept_fed r held part =
    record {
      recorder = record { line = r.line; records = r.records; held = r.held + length part; more = r.more };
      held = sets held r.held part;
      taken = length part;
      output = nothing;
    }

-- more bytes than a line has
abbrev pub long_fed : Recorder → List ℕ → List ℕ → Feeding
long_fed r held part =
    record {
      recorder = record { line = r.line; records = r.records; held = r.held; more = false };
      held = held;
      taken = length part;
      output = (refused (long_text r.line r.records)).output;
    }

-- a part of a line behind the held bytes; `ends` where a line feed stands behind it
unfoldable pub part_fed : Recorder → List ℕ → List ℕ → Bool → Feeding
part_fed r held part ends =
    cond (ltb (length part) (65536 - r.held))
    (cond ends (line_fed r (sets held r.held part) (r.held + length part) (length part + 1)) (kept_fed r held part))
    (long_fed r held part)

-- one feeding after another
abbrev pub after : Feeding → Feeding → Feeding
after f g = record { recorder = g.recorder; held = g.held; taken = f.taken + g.taken; output = before f.output g.output }

-- whether it goes on: no line was wrong, and the buffer has room for a record (18 bytes)
abbrev pub goes_on : ℕ → Feeding → Bool
goes_on room f = f.recorder.more && leb 18 (room - length f.output.out)

-- the parts of a piece between its line feeds, one after the other: behind each but the last stands a line feed
unfoldable pub parts_fed : ℕ → Feeding → List (List ℕ) → Feeding
parts_fed room f [] = f
parts_fed room f (p ∷ []) = cond (goes_on room f) (after f (part_fed f.recorder f.held p false)) f
parts_fed room f (p ∷ q ∷ ps) = cond (goes_on room f) (parts_fed room (after f (part_fed f.recorder f.held p true)) (q ∷ ps)) f

-- "after a wrong line it takes all and writes nothing"
abbrev pub taking_all : ℕ → Feeding → Feeding
taking_all n f = record { recorder = f.recorder; held = f.held; taken = cond f.recorder.more f.taken n; output = f.output }

-- where nothing is taken yet
abbrev pub unfed : Recorder → List ℕ → Feeding
unfed r held = record { recorder = r; held = held; taken = 0; output = nothing }

-- A PIECE is fed to a machine that holds these bytes, with so much room for records
unfoldable pub feeding : Recorder → List ℕ → List ℕ → ℕ → Feeding
feeding r held piece room = taking_all (length piece) (parts_fed room (unfed r held) (lines_on [] piece))

abbrev pub fed_of : Feeding → Fed
fed_of f = record { recorder = f.recorder; taken = f.taken; used = length f.output.out; said = length f.output.err }

-- THE END of the input ends the last line; where more should have come, one byte 0, as behind a wrong line
unfoldable pub closing : Recorder → List ℕ → Bool → Output
closing r held whole =
    cond r.more (cond whole (line_made r.line r.records (take r.held held)).output (record { out = 0 ∷ []; err = [] })) nothing

abbrev pub closed_of : Recorder → Output → Fed
closed_of r o =
    record { recorder = record { line = r.line; records = r.records; held = r.held; more = false }; taken = 0; used = length o.out; said = length o.err }

-- what a machine that stands so has still to write where these bytes are all that comes
unfoldable pub rest : Recorder → List ℕ → List ℕ → Output
rest r held bytes = cond r.more (record_lines r.line r.records (lines_on (take r.held held) bytes)) nothing
