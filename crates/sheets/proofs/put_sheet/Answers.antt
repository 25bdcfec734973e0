-- `sheets::put_sheet` meets its contract: the first line, the rows, and what stands below. Assumes nothing.
use Rattle.std.proofs.Common.{arith}
use Rattle.text.proofs.Spelling.{put_both}
use Rattle.sheets.specs.Sheets.{sheet_text}
use Rattle.sheets.proofs.put_sheet.Goals as goal

pub returns : goal.returns
unfolding sheet_text
returns c =
    record {
      put = put_both c.put_bytes-rows_at.ensures.put (put_both c.put_rows-foot_at.ensures.put c.put_foot.ensures.put);
      upper_bound = omega arith;
    }
