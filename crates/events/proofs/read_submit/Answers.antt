-- `events::read_submit` meets its contract: the six fields where the body is whole, else 15. Assumes nothing.
use mathlib.Core.Path.{sym}
use native.Mathlib.Omega.{arith}
use Rattle.fields.proofs.Fields.{field-1, field-2, field-4}
use Rattle.events.proofs.Found.{whole, short}
use Rattle.events.proofs.read_submit.Goals as goal

pub returns-then-body-lt17 : goal.returns-then-body-lt17
returns-then-body-lt17 c = sym (short 2 17 c.args.body.now _ (omega arith))

pub returns : goal.returns
returns c =
    let body = c.args.body.now in
    rw (
      whole 2 17 body _ (omega arith),
      field-1 0 body (omega arith),
      field-4 1 body c.from_le_bytes.ensures c.bytes_at.ensures,
      field-2 5 body c.from_le_bytes-2.ensures c.bytes_at-2.ensures,
      field-2 7 body c.from_le_bytes-3.ensures c.bytes_at-3.ensures,
      field-4 9 body c.from_le_bytes-4.ensures c.bytes_at-4.ensures,
      field-4 13 body c.from_le_bytes-5.ensures c.bytes_at-5.ensures,
    )
