-- `events::write_grid_board` meets its contract: its stores are the record over the front, or there is no room. Assumes nothing.
use Prim.Native.Nat.{◌%◌}
use mathlib.Core.Path.{◌≡◌, refl}
use native.Mathlib.Omega.{arith}
use Rattle.fields.proofs.Fields.{bytes-2}
use Rattle.events.specs.Records.{bytes_of, kind_of, body_of, record_of}
use Rattle.events.proofs.Writing.{done, refused}
use Rattle.events.proofs.write_grid_board.Goals as goal

pub returns-then-buffer-lt6 : goal.returns-then-buffer-lt6
unfolding bytes_of kind_of body_of record_of
returns-then-buffer-lt6 c =
    let all = refused _ c.args.buffer.now 6 refl (omega arith) in
    record { value = all.0; buffer_after = all.1 }

pub returns : goal.returns
unfolding bytes_of kind_of body_of record_of
returns c =
    let a = c.args in
    let byte : a.grid % 256 ≡ a.grid = omega (arith, c.ranges.grid) in
    let all = done _ a.buffer.now 6 _ refl (omega (arith, c.if-buffer-lt6.false)) (rw (
      byte,
      c.put-2.ensures,
      c.put.ensures,
      bytes-2 a.columns c.to_le_bytes.ensures,
      bytes-2 a.rows c.to_le_bytes-2.ensures,
    )) in
    record { value = all.0; buffer_after = all.1 }
