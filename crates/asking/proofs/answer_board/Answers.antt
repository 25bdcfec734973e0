-- `asking::answer_board` meets its contract. Assumes nothing.
use mathlib.Core.Path.{ap}
use Rattle.board_text.specs.BoardText.{board_text}
use Rattle.asking.specs.Asking.{unsoundness, replied, answered}
use Rattle.asking.proofs.Copies.{front-text, said-as}
use Rattle.asking.proofs.answer_board.Goals as goal

pub returns : goal.returns
unfolding answered
returns c =
    let front = front-text (board_text c.args.board) _ c.put_board-n.ensures.value c.put_board-n.ensures.out_after in
    let all = said-as c.args.out.now (ap (replied (unsoundness c.args.board)) front) (c.show.ensures.value, c.show.ensures.out_after) in
    record { value = all.0; out_after = all.1 }
