-- `live::without_slot` meets its contract: one digit less. Assumes nothing.
use mir.Syntax.{w64}
use mir.Val.{Fits}
use Rattle.live.proofs.InUse.{one_less}
use borrow.Author.Rules.{rules}
use Rattle.live.proofs.without_slot.Goals as goal

pub returns : goal.returns
returns c =
    let z : Fits w64 c.share.result = search rules in
    one_less c.args.used c.share.result c.args.slot c.share.ensures z.fits
