-- `events::write_submit` meets its contract: its stores are the record over the front, or there is no room. Assumes nothing.
use Prim.Native.Nat.{◌%◌}
use mathlib.Core.Path.{◌≡◌, refl}
use native.Mathlib.Omega.{arith}
use Rattle.fields.proofs.Fields.{bytes-2, bytes-4}
use Rattle.events.specs.Records.{bytes_of, kind_of, body_of, record_of}
use Rattle.events.proofs.Writing.{done, refused}
use Rattle.events.proofs.write_submit.Goals as goal

pub returns-then-buffer-lt18 : goal.returns-then-buffer-lt18
unfolding bytes_of kind_of body_of record_of
returns-then-buffer-lt18 c =
    let all = refused _ c.args.buffer.now 18 refl (omega arith) in
    record { value = all.0; buffer_after = all.1 }

pub returns : goal.returns
unfolding bytes_of kind_of body_of record_of
returns c =
    let a = c.args in
    let byte : a.planner % 256 ≡ a.planner = omega (arith, c.ranges.planner) in
    let all = done _ a.buffer.now 18 _ refl (omega (arith, c.if-buffer-lt18.false)) (rw (
      byte,
      c.put-5.ensures,
      c.put-4.ensures,
      c.put-3.ensures,
      c.put-2.ensures,
      c.put.ensures,
      bytes-4 a.ask.id c.to_le_bytes.ensures,
      bytes-2 a.ask.w c.to_le_bytes-2.ensures,
      bytes-2 a.ask.h c.to_le_bytes-3.ensures,
      bytes-4 a.ask.e c.to_le_bytes-4.ensures,
      bytes-4 a.ask.d c.to_le_bytes-5.ensures,
    )) in
    record { value = all.0; buffer_after = all.1 }
