-- `events::read_grid_board` meets its contract: the three fields where the body is whole, else 15. Assumes nothing.
use mathlib.Core.Path.{sym}
use native.Mathlib.Omega.{arith}
use Rattle.fields.proofs.Fields.{field-1, field-2}
use Rattle.events.proofs.Found.{whole, short}
use Rattle.events.proofs.read_grid_board.Goals as goal

pub returns-then-body-lt5 : goal.returns-then-body-lt5
returns-then-body-lt5 c = sym (short 5 5 c.args.body.now _ (omega arith))

pub returns : goal.returns
returns c =
    let body = c.args.body.now in
    rw (
      whole 5 5 body _ (omega arith),
      field-1 4 body (omega arith),
      field-2 0 body c.from_le_bytes-columns.ensures c.bytes_at.ensures,
      field-2 2 body c.from_le_bytes-rows.ensures c.bytes_at-2.ensures,
    )
