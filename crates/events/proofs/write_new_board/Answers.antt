-- `events::write_new_board` meets its contract: its stores are the record over the front, or there is no room. Assumes nothing.
use mathlib.Core.Path.{refl}
use native.Mathlib.Omega.{arith}
use Rattle.fields.proofs.Fields.{bytes-2}
use Rattle.events.specs.Records.{bytes_of, kind_of, body_of, record_of}
use Rattle.events.proofs.Writing.{done, refused}
use Rattle.events.proofs.write_new_board.Goals as goal

pub returns-then-buffer-lt5 : goal.returns-then-buffer-lt5
unfolding bytes_of kind_of body_of record_of
returns-then-buffer-lt5 c =
    let all = refused _ c.args.buffer.now 5 refl (omega arith) in
    record { value = all.0; buffer_after = all.1 }

pub returns : goal.returns
unfolding bytes_of kind_of body_of record_of
returns c =
    let a = c.args in
    let all = done _ a.buffer.now 5 _ refl (omega (arith, c.if-buffer-lt5.false)) (rw (
      c.put-2.ensures,
      c.put.ensures,
      bytes-2 a.columns c.to_le_bytes.ensures,
      bytes-2 a.rows c.to_le_bytes-2.ensures,
    )) in
    record { value = all.0; buffer_after = all.1 }
