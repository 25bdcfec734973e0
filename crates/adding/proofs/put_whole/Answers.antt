-- `adding::put_whole` meets its contract: a sheet, and how it ends. Assumes nothing.
use native.Mathlib.Omega.{arith}
use Rattle.text.proofs.Spelling.{put_both}
use Rattle.adding.specs.Adding.{whole_text}
use Rattle.adding.proofs.Whole.{put-length}
use Rattle.adding.proofs.put_whole.Goals as goal

pub returns : goal.returns
unfolding whole_text
returns c =
    let all = put_both c.put_sheet-end.ensures.put c.put_bytes.ensures.put in
    record {
      put = all;
      upper_bound = (omega arith, put-length all);
    }
