-- `sheets::put_named` meets its contract: a text, and digits behind it. Assumes nothing.
use Rattle.std.proofs.Common.{arith}
use Rattle.text.proofs.Spelling.{put_both}
use Rattle.sheets.proofs.put_named.Goals as goal

pub returns : goal.returns
returns c =
    record {
      put = put_both c.put_bytes-figure_at.ensures.put c.put_number.ensures.put;
      upper_bound = omega arith;
    }
