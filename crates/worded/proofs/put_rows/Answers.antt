-- `worded::put_rows` meets its contract: one line more each turn. Assumes nothing.
use Prim.Native.Nat.{◌+◌, ◌-◌, ◌*◌, ◌≤◌}
use mathlib.Core.Path.{◌≡◌, ◌∙◌}
use native.Mathlib.Nat.{zero-add}
use native.Mathlib.Omega.{arith}
use lib.ListN.{length}
use Rattle.text.proofs.Rows.{rows-front}
use Rattle.worded.proofs.Rows.{rows-begin, rows_more, record-there, rows_end}
use borrow.Author.Rules.{rules}
use mir.Syntax.{w64}
use mir.Val.{Fits}
use Rattle.worded.proofs.put_rows.Goals as goal

pub loop-i-init : goal.loop-i-init
loop-i-init c = let a = c.args in rows-begin a.count a.numbers.now a.bytes.now a.out.now

pub overflow_add-at : goal.overflow_add-at
overflow_add-at c =
    let bytes_fit : Fits w64 (length c.args.bytes.now) = search rules in
    omega (arith, record-there c.loop-i.invariant c.next_name-name.ensures.1, bytes_fit)

pub loop-i-preserved : goal.loop-i-preserved
loop-i-preserved c =
    let size : c.loop-i.i * 6 + 6 - c.loop-i.i * 6 ≡ 6 = omega arith in
    let name = c.next_name-name.ensures in
    let row = c.put_row-place.ensures in
    rows_more c.loop-i.invariant (omega arith) c.next_name-name.result name.0 name.1 (rw size at row.put) row.upper_bound (search rules)

pub shape_of-out : goal.shape_of-out
shape_of-out c = c.loop-i.invariant.size

pub returns : goal.returns
returns c =
    let o = c.loop-i.invariant in
    let all = rows_end o (omega arith) in
    let most : c.loop-i.place ≤ c.args.count * 134 = omega (arith, o.within, o.upto) in
    record {
      value = all.place ∙ zero-add _;
      out_after = rows-front _ all (omega (arith, most));
      upper_bound = most;
    }
