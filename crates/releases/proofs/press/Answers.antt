-- `releases::press` meets its contract: the loop passes the columns one by one. Assumes nothing.
use native.Mathlib.Omega.{arith}
use Rattle.releases.proofs.Pressing.{press-none, press-new, press-on, press-all}
use Rattle.releases.proofs.press.Goals as goal
use Rattle.releases.proofs.press.Goals.{then-x-y, else-x-y}

pub loop-c-init : goal.loop-c-init
loop-c-init c = press-none _ _ _ _ c.requires.0 c.requires.1 (omega arith) (omega arith)

pub loop-c-preserved : goal.loop-c-preserved
loop-c-preserved c =
    let v = c.loop-c.invariant in
    elim c.if-x-y.branch [
      | then-x-y w ↦ rw w.n-is (press-new v (omega arith) w.if-x-y.true)
      | else-x-y w ↦ rw w.n-is (press-on v (omega arith) w.if-x-y.false)
    ]

pub returns : goal.returns
returns c = press-all c.loop-c.invariant (omega (arith, c.loop-c.invariant.upto))
