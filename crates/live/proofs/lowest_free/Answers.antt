-- `live::lowest_free` meets its contract: the lowest digit that is set the other way round. Assumes nothing.
use mir.Syntax.{w64}
use mir.Val.{Fits}
use Rattle.live.proofs.InUse.{least-clear}
use borrow.Author.Rules.{rules}
use Rattle.live.proofs.lowest_free.Goals as goal

pub returns : goal.returns
returns c =
    let z : Fits w64 c.args.used = search rules in
    least-clear c.args.used c.next_in.result z.fits c.next_in.ensures
