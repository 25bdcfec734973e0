-- `board_text::put_stamped` meets its contract: what is shown are the stamped records. Assumes nothing.
use mathlib.Core.Path.{ap, ◌∙◌}
use lib.ListN.{length}
use Rattle.lists.specs.Lists.{over_front}
use Rattle.board_text.specs.BoardText.{shown_text}
use Rattle.board_text.proofs.put_stamped.Goals as goal

pub returns : goal.returns
returns c =
    let a = c.args in
    let s = c.stamp_slots-stamped.ensures in
    let p = c.put_shown.ensures in
    record {
      value = p.value ∙ ap (λ ks. length (shown_text a.board ks)) s;
      out_after = p.out_after ∙ ap (λ ks. over_front (shown_text a.board ks) a.out.now) s;
      upper_bound = p.upper_bound;
    }
