-- `events::write_number` meets its contract: its stores are the record over the front, or there is no room. Assumes nothing.
use mathlib.Core.List.{◌∷◌}
use native.Mathlib.Omega.{arith}
use lib.Seq.{sets-eq}
use borrow.Author.Tests.{lt-leb, le-leb}
use Rattle.fields.proofs.Fields.{bytes-4}
use Rattle.events.specs.Records.{bytes_of}
use Rattle.events.proofs.write_number.Goals as goal

pub returns-then-buffer-lt5 : goal.returns-then-buffer-lt5
returns-then-buffer-lt5 c =
    let no = lt-leb 5 _ c.if-buffer-lt5.true in
    record { value = rw no; buffer_after = rw no }

pub returns : goal.returns
unfolding bytes_of
returns c =
    let a = c.args in
    let yes = le-leb 5 _ c.if-buffer-lt5.false in
    record {
      value = rw yes;
      buffer_after = rw (yes, c.put.ensures, bytes-4 a.number c.to_le_bytes.ensures)
          (sets-eq (a.kind ∷ bytes_of 4 a.number) a.buffer.now 0 (omega arith));
    }
