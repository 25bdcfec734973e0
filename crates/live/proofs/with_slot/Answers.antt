-- `live::with_slot` meets its contract: one digit more. Assumes nothing.
use Rattle.live.proofs.InUse.{one_more}
use Rattle.live.proofs.with_slot.Goals as goal

pub returns : goal.returns
returns c = one_more c.args.used c.share.result c.args.slot c.share.ensures
