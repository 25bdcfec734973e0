-- `held::held_word` meets its contract: the columns of the tasks passed are set. Assumes nothing.
use Rattle.std.proofs.Common.{◌≡◌, arith}
use Rattle.held.proofs.Columns.{first-row, word_none, word_more}
use Rattle.held.proofs.held_word.Goals as goal

pub loop-i-init : goal.loop-i-init
loop-i-init c = (omega arith, word_none)

pub loop-i-preserved : goal.loop-i-preserved
loop-i-preserved c =
    let l = c.loop-i in
    let a = c.args in
    (omega arith, word_more c.all_if.result l.invariant.1 c.all_if.ensures (first-row a.masks.now l.i))

pub returns : goal.returns
returns c =
    let l = c.loop-i in
    let e : l.i ≡ c.args.n = omega (arith, l.invariant.0) in
    rw (← e) l.invariant.1
