-- `events::read_number` meets its contract: the one field where the body is whole, else 15. Assumes nothing.
use borrow.Author.Tests.{lt-ltb, le-ltb}
use Rattle.fields.proofs.Fields.{field-4}
use Rattle.events.proofs.read_number.Goals as goal

pub returns-then-body-lt4 : goal.returns-then-body-lt4
returns-then-body-lt4 c = rw (lt-ltb _ 4 c.if-body-lt4.true)

pub returns : goal.returns
returns c =
    let body = c.args.body.now in
    rw (le-ltb _ 4 c.if-body-lt4.false, field-4 0 body c.from_le_bytes.ensures c.bytes_at.ensures)
