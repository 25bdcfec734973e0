-- `horizon::look` meets its contract: the loop passes the steps one by one. Assumes nothing.
use mathlib.Core.Path.{◌∙◌}
use native.Mathlib.Omega.{arith}
use Rattle.horizon.proofs.Looking.{walk_none, walk-held, walk-open, walk-all}
use Rattle.horizon.proofs.look.Goals as goal
use Rattle.horizon.proofs.look.Goals.{then-t-x, else-t-x}

pub loop-i-init : goal.loop-i-init
loop-i-init c = walk_none _ _ _ _ _

pub loop-i-preserved : goal.loop-i-preserved
loop-i-preserved c =
    let l = c.loop-i in
    let pre = c.requires in
    elim c.if-t-x.branch [
      | then-t-x m ↦
          walk-held l.invariant pre.1 (omega arith) pre.0 m.if-t-x.true (m.key-is ∙ m.closed-key.ensures) (m.next-is ∙ m.min-next.ensures) m.from-is
      | else-t-x m ↦ walk-open l.invariant pre.1 (omega arith) m.if-t-x.false m.key-is m.next-is m.from-is
    ]

pub returns : goal.returns
returns c =
    let l = c.loop-i in
    walk-all l.invariant (omega (arith, l.invariant.placed.upto)) c.requires.0 c.closed-key-2.ensures
