-- `text::put_ended` meets its contract: one byte behind the digits. Assumes nothing.
use Rattle.text.proofs.Spelling.{put-end}
use Rattle.text.proofs.put_ended.Goals as goal

pub returns-clause-put : goal.returns-clause-put
returns-clause-put g c = put-end c.args.end c.put_number-after.ensures.put
