-- `reader::hold` meets its contract. Assumes nothing.
use native.Mathlib.Omega.{arith}
use mathlib.Core.Path.{◌≡◌}
use lib.ListN.{length}
use Rattle.reader.proofs.Held.{front_of_lem}
use borrow.Author.Rules.{rules}
use Rattle.reader.proofs.hold.Goals as goal

pub returns : goal.returns
returns c =
    let held-size : length c.args.held ≡ 18 = search rules in
    front_of_lem c.args.bytes.now c.args.held c.put_bytes.new.out c.args.at (omega arith) (omega (arith, held-size)) c.put_bytes.ensures.out_after
