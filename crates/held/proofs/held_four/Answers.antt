-- `held::held_four` meets its contract: in each word the columns of the tasks passed are set. Assumes nothing.
use Rattle.std.proofs.Common.{◌≡◌, refl, arith}
use Rattle.words.proofs.Columns.{four}
use Rattle.held.proofs.Columns.{first-row, word_none, word_more}
use Rattle.held.proofs.held_four.Goals as goal

pub loop-i-init : goal.loop-i-init
loop-i-init c = (omega arith, word_none, word_none, word_none, word_none)

pub loop-i-preserved : goal.loop-i-preserved
loop-i-preserved c =
    let l = c.loop-i in
    let m = c.args.masks.now in
    let on = c.all_if-on.result in
    let e = c.all_if-on.ensures in
    (omega arith, word_more on l.invariant.1 e (first-row m l.i), word_more on l.invariant.2 e refl, word_more on l.invariant.3 e refl, word_more on l.invariant.4 e refl)

pub returns : goal.returns
returns c =
    let l = c.loop-i in
    let e : l.i ≡ c.args.n = omega (arith, l.invariant.0) in
    four _ (rw (← e) l.invariant.1) (rw (← e) l.invariant.2) (rw (← e) l.invariant.3) (rw (← e) l.invariant.4)
