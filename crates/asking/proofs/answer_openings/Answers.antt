-- `asking::answer_openings` meets its contract: the line alone, and whether pages follow. Assumes nothing.
use Prim.Native.Nat.{◌-◌, ◌≤◌}
use mathlib.Core.Path.{◌≡◌, ap, ◌∙◌}
use native.Mathlib.Omega.{arith}
use lib.ListN.{length, length-take}
use lib.Dec.{eqb}
use Rattle.std.specs.Bool.{then_some}
use Rattle.lists.specs.Lists.{over_front}
use Rattle.board.specs.Calls.{opened}
use Rattle.board_text.specs.BoardText.{answer_text}
use mir.Syntax.{w8}
use mir.Val.{Fits}
use Rattle.asking.specs.Machine.{first_part}
use Rattle.asking.proofs.Copies.{copies, at_front, answer-short}
use borrow.Author.Rules.{rules}
use Rattle.asking.proofs.answer_openings.Goals as goal

pub put_bytes-requires : goal.put_bytes-requires
put_bytes-requires c =
    let number_fits : Fits w8 c.openings-r.result.number = search rules in
    let short : length (answer_text c.openings-r.result.number) ≤ 18 = answer-short c.openings-r.result.number (omega (arith, number_fits)) in
    omega (arith, short, rw c.from.ensures at c.put_answer-n.ensures.value, c.put_bytes-arg-1.given.0.1, length-take (c.put_answer-n.result - 0) c.put_answer-n.new.out)

pub returns : goal.returns
unfolding first_part
returns c =
    let number_fits : Fits w8 c.openings-r.result.number = search rules in
    let short : length (answer_text c.openings-r.result.number) ≤ 18 = answer-short c.openings-r.result.number (omega (arith, number_fits)) in
    let a = c.args in
    let o = c.openings-r in
    let e = rw c.from.ensures at c.put_answer-n.ensures in
    let n : o.result.number ≡ (opened a.board a.first.task a.first.start a.first.column 0).number = ap (λ x. x.number) o.ensures.value in
    let line = copies (answer_text o.result.number) _ e.value e.out_after c.put_bytes.ensures.value c.put_bytes.ensures.out_after in
    let front = at_front line (omega (arith, short, c.put_bytes-arg-1.given.0.1)) in
    record {
      answer = λ i. record { used = (front.0 ∙ ap (λ x. length (answer_text x)) n) i; page = (c.then_some.ensures ∙ ap (λ k. then_some (eqb k 0) a.first) n) i };
      text = front.1 ∙ ap (λ x. over_front (answer_text x) a.out.now) n;
    }
