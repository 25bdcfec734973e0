-- `board_text::put_answer` meets its contract: the word, a space and the number. Assumes nothing.
use mathlib.Core.Path.{◌∙◌}
use mathlib.Core.List.{[]}
use native.Mathlib.Omega.{arith}
use native.Mathlib.Nat.{zero-add}
use Rattle.text.specs.Text.{ascii, decimal}
use Rattle.text.proofs.Spelling.{line-more, line-end}
use Rattle.text.proofs.Rows.{rows-front}
use Rattle.board_text.specs.BoardText.{answer_text}
use Rattle.board_text.proofs.put_answer.Goals as goal

pub returns : goal.returns
unfolding answer_text
returns c =
    let n = c.args.number in
    let all = line-more (ascii "answer") (decimal n) [] c.put_bytes-at.ensures.put (line-end (decimal n) (rw c.from.ensures at c.put_ended.ensures.put)) in
    record {
      value = all.place ∙ zero-add _;
      out_after = rows-front _ all (omega arith);
      upper_bound = omega arith;
    }
