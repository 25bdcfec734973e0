-- `board_text::put_shown` meets its contract: the rows stand behind that of the device, and all of it fits. Assumes nothing.
use mathlib.Core.Path.{◌∙◌}
use native.Mathlib.Omega.{arith}
use native.Mathlib.Nat.{zero-add}
use Rattle.text.proofs.Spelling.{put_both}
use Rattle.text.proofs.Rows.{rows-front}
use Rattle.board_text.specs.BoardText.{shown_text}
use Rattle.board_text.proofs.put_shown.Goals as goal

pub returns : goal.returns
unfolding shown_text
returns c =
    let all = put_both c.put_device-at.ensures.put c.put_tasks.ensures.put in
    record {
      value = all.place ∙ zero-add _;
      out_after = rows-front _ all (omega arith);
      upper_bound = omega arith;
    }
