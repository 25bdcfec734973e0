-- `asking::reply` meets its contract: the line, and the rows behind it. Assumes nothing.
use Prim.Native.Nat.{◌+◌, ◌-◌, ◌≤◌}
use mathlib.Core.Path.{◌≡◌, refl}
use native.Mathlib.Omega.{arith}
use lib.ListN.{length, length-take}
use mir.Syntax.{w8}
use mir.Val.{Fits}
use Rattle.text.specs.Digits.{Put}
use Rattle.board_text.specs.BoardText.{answer_text}
use Rattle.asking.proofs.Copies.{copies, put_as, answer-short, replies-rows, replies-none}
use borrow.Author.Rules.{rules}
use Rattle.asking.proofs.reply.Goals as goal

pub put_bytes-at-requires : goal.put_bytes-at-requires
put_bytes-at-requires c =
    let number_fits : Fits w8 c.args.number = search rules in
    let short : length (answer_text c.args.number) ≤ 18 = answer-short c.args.number (omega (arith, number_fits)) in
    omega (arith, short, rw c.from.ensures at c.put_answer-n.ensures.value, length-take (c.put_answer-n.result - 0) c.put_answer-n.new.out)

pub put_bytes-requires : goal.put_bytes-requires
put_bytes-requires c =
    let line : let a = c.args in Put a.out.now 0 (answer_text a.number) c.put_bytes-at.new.out c.put_bytes-at.result = let e = rw c.from.ensures at c.put_answer-n.ensures in
    copies (answer_text c.args.number) _ e.value e.out_after c.put_bytes-at.ensures.value c.put_bytes-at.ensures.out_after in
    let number_fits : Fits w8 c.args.number = search rules in
    let short : length (answer_text c.args.number) ≤ 18 = answer-short c.args.number (omega (arith, number_fits)) in
    let room : let a = c.args in length (answer_text a.number) + length a.rows.now ≤ length a.out.now = omega (arith, short) in
    let same : length c.put_bytes-at.new.out ≡ length c.args.out.now = search rules in
    omega (arith, room, line.place, same)

pub returns-then-number-eq0 : goal.returns-then-number-eq0
returns-then-number-eq0 c =
    let line : let a = c.args in Put a.out.now 0 (answer_text a.number) c.put_bytes-at.new.out c.put_bytes-at.result = let e = rw c.from.ensures at c.put_answer-n.ensures in
    copies (answer_text c.args.number) _ e.value e.out_after c.put_bytes-at.ensures.value c.put_bytes-at.ensures.out_after in
    let number_fits : Fits w8 c.args.number = search rules in
    let short : length (answer_text c.args.number) ≤ 18 = answer-short c.args.number (omega (arith, number_fits)) in
    let room : let a = c.args in length (answer_text a.number) + length a.rows.now ≤ length a.out.now = omega (arith, short) in
    let b = c.put_bytes.ensures in
    let all = replies-rows c.args.rows.now c.if-number-eq0.true line (put_as _ _ refl b.value b.out_after) room in
    record { value = all.0; out_after = all.1 }

pub returns : goal.returns
returns c =
    let line : let a = c.args in Put a.out.now 0 (answer_text a.number) c.put_bytes-at.new.out c.put_bytes-at.result = let e = rw c.from.ensures at c.put_answer-n.ensures in
    copies (answer_text c.args.number) _ e.value e.out_after c.put_bytes-at.ensures.value c.put_bytes-at.ensures.out_after in
    let number_fits : Fits w8 c.args.number = search rules in
    let short : length (answer_text c.args.number) ≤ 18 = answer-short c.args.number (omega (arith, number_fits)) in
    let room : let a = c.args in length (answer_text a.number) + length a.rows.now ≤ length a.out.now = omega (arith, short) in
    let all = replies-none c.args.rows.now c.if-number-eq0.false line (let h = room in omega arith) in
    record { value = all.0; out_after = all.1 }
