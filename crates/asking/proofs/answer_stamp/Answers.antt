-- `asking::answer_stamp` meets its contract. Assumes nothing.
use mathlib.Core.Path.{ap}
use Rattle.board_text.specs.BoardText.{stamp_text}
use Rattle.asking.specs.Asking.{unsoundness, replied, answered}
use Rattle.asking.proofs.Copies.{front-text, said-as}
use Rattle.asking.proofs.answer_stamp.Goals as goal

pub returns : goal.returns
unfolding answered
returns c =
    let rows = front-text (stamp_text c.args.instant c.args.board) _ c.put_stamped-n.ensures.value c.put_stamped-n.ensures.out_after in
    let all = said-as c.args.out.now (ap (replied (unsoundness c.args.board)) rows) (c.show.ensures.value, c.show.ensures.out_after) in
    record { value = all.0; out_after = all.1 }
