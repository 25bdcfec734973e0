-- `board_text::put_halt` meets its contract. Assumes nothing.
use mathlib.Core.Path.{◌∙◌}
use native.Mathlib.Omega.{arith}
use native.Mathlib.Nat.{zero-add}
use Rattle.text.specs.Digits.{Put}
use Rattle.text.proofs.Rows.{rows-front}
use Rattle.board_text.specs.BoardText.{halt_text}
use Rattle.board_text.proofs.put_halt.Goals as goal

pub returns : goal.returns
unfolding halt_text
returns c =
    let a = c.args in
    let all : Put a.out.now 0 (halt_text a.event a.kind a.end) _ _ = rw (c.from.ensures, c.halt_tail.ensures.tail) at c.put_event.ensures.put in
    record {
      value = all.place ∙ zero-add _;
      out_after = rows-front _ all (omega arith);
      upper_bound = omega arith;
    }
