-- `sheets::put_foot` meets its contract: figures with their names, one behind the other. Assumes nothing.
use Rattle.std.proofs.Common.{arith}
use Rattle.text.proofs.Spelling.{put_both}
use Rattle.sheets.specs.Sheets.{foot_text}
use Rattle.sheets.proofs.put_foot.Goals as goal

pub returns : goal.returns
unfolding foot_text
returns c =
    record {
      put = put_both c.put_named-classless_end.ensures.put (put_both c.put_named-events_end.ensures.put (put_both c.put_named-files_end.ensures.put c.put_bytes.ensures.put));
      upper_bound = omega (arith, c.put_named-classless_end.ensures.upper_bound, c.put_named-events_end.ensures.upper_bound, c.put_named-files_end.ensures.upper_bound, c.put_bytes.ensures.value);
    }
