-- `busy::held` meets its contract: the columns of the tasks passed are marked. Assumes nothing.
use mathlib.Core.Path.{◌≡◌}
use native.Mathlib.Omega.{arith}
use Rattle.busy.proofs.Holding.{held_none, held-marked, held-passed}
use Rattle.busy.proofs.held.Goals as goal
use Rattle.busy.proofs.held.Goals.{then-live-i, else-live-i}

pub loop-i-init : goal.loop-i-init
loop-i-init c = held_none _ _

pub loop-i-preserved : goal.loop-i-preserved
loop-i-preserved c =
    elim c.if-live-i.branch [
      | then-live-i w ↦ rw w.words-is (held-marked _ _ c.requires (omega arith) c.loop-i.invariant _ w.if-live-i.true w.marked-more.ensures)
      | else-live-i w ↦ rw w.words-is (held-passed _ _ c.requires (omega arith) c.loop-i.invariant w.if-live-i.false)
    ]

pub returns : goal.returns
returns c =
    let l = c.loop-i in
    let e : l.i ≡ c.args.count = omega arith in
    rw (← e) l.invariant.same
