-- `reader::join` meets its contract. Assumes nothing.
use mathlib.Core.Path.{◌≡◌}
use native.Mathlib.Omega.{arith}
use borrow.Author.Rules.{rules}
use lib.ListN.{length}
use Rattle.reader.proofs.Held.{behind-kept}
use Rattle.reader.proofs.join.Goals as goal

pub returns : goal.returns
returns c =
    let held-size : length c.args.held ≡ 18 = search rules in
    let p = c.put_bytes-size in
    behind-kept c.args.held c.args.piece.now p.new.out c.args.kept c.min-more.result p.result held-size (omega arith) (omega (arith, c.min-more.ensures))
    p.ensures.value p.ensures.out_after
