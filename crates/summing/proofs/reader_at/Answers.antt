-- `summing::reader_at` meets its contract. Assumes nothing.
use mathlib.Core.Path.{ap}
use Rattle.reader.specs.declared.Reader.{Reader}
use Rattle.reader.specs.Reader.{first_reader}
use Rattle.summing.specs.Summing.{reader_at}
use Rattle.summing.proofs.reader_at.Goals as goal

pub returns : goal.returns
unfolding reader_at first_reader
returns c =
    let n = c.args.number in
    ap (λ (r : Reader). record { state = r.state; number = n; held = r.held; size = r.size; end = r.end }) c.begin.ensures
