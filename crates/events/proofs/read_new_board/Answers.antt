-- `events::read_new_board` meets its contract: the two fields where the body is whole, else 15. Assumes nothing.
use mathlib.Core.Path.{sym}
use native.Mathlib.Omega.{arith}
use Rattle.fields.proofs.Fields.{field-2}
use Rattle.events.proofs.Found.{whole, short}
use Rattle.events.proofs.read_new_board.Goals as goal

pub returns-then-body-lt4 : goal.returns-then-body-lt4
returns-then-body-lt4 c = sym (short 1 4 c.args.body.now _ (omega arith))

pub returns : goal.returns
returns c =
    let body = c.args.body.now in
    rw (
      whole 1 4 body _ (omega arith),
      field-2 0 body c.from_le_bytes-columns.ensures c.bytes_at.ensures,
      field-2 2 body c.from_le_bytes-rows.ensures c.bytes_at-2.ensures,
    )
