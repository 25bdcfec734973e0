-- `text::put_table` meets its contract: one row more each turn. Assumes nothing.
use Prim.Native.Nat.{suc, ◌+◌, ◌-◌, ◌*◌, ◌≤◌}
use mathlib.Core.Path.{◌≡◌, ◌∙◌}
use native.Mathlib.Omega.{arith}
use native.Mathlib.Nat.{zero-add, suc-mul}
use lib.ListN.{take, drop, length-take}
use Rattle.text.specs.Text.{row_text, rows_text, rows_of}
use Rattle.text.specs.Digits.{Put}
use Rattle.text.proofs.Rows.{rows_none, rows_more, rows-front}
use Rattle.text.proofs.put_table.Goals as goal

pub loop-i-init : goal.loop-i-init
loop-i-init c = (omega arith, rows_none _ _ _)

pub loop-i-preserved : goal.loop-i-preserved
loop-i-preserved c =
    let l = c.loop-i in
    let a = c.args in
    let p = c.put_words-at.ensures in
    let next : l.i + 1 ≡ suc l.i = omega arith in
    let size : l.i * a.n + a.n - l.i * a.n ≡ a.n = omega arith in
    let here : Put l.out l.at (row_text (take a.n (drop (l.i * a.n) a.words.now))) _ _ = rw size at p.put in
    (rw (next, suc-mul) (omega (arith, p.upper_bound, length-take a.n (drop (l.i * a.n) a.words.now))), rows_more a.n l.i a.words.now l.invariant.1 here)

pub returns : goal.returns
returns c =
    let l = c.loop-i in
    let a = c.args in
    let e : l.i ≡ a.count = omega arith in
    let all : Put a.out.now 0 (rows_text (rows_of a.n a.count a.words.now)) l.out l.at = rw e at l.invariant.1 in
    let most : l.at ≤ a.count * (a.n * 11) = rw e at l.invariant.0 in
    record {
      value = all.place ∙ zero-add _;
      out_after = rows-front _ all (omega arith);
      upper_bound = most;
    }
