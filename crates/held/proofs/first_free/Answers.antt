-- `held::first_free` meets its contract: from one run of clear columns to the next. Assumes nothing.
use Rattle.std.proofs.Common.{refl, arith}
use Rattle.held.proofs.Free.{seek, seek_found, seek-less, seek-on, seek-end}
use Rattle.held.proofs.first_free.Goals as goal

pub loop-at-init : goal.loop-at-init
loop-at-init c = seek _ _ _ _ refl (omega arith)

pub next_clear-clear-requires : goal.next_clear-clear-requires
next_clear-clear-requires c = (omega arith, omega arith)

pub next_set-set-requires : goal.next_set-set-requires
next_set-set-requires c = (omega (arith, c.next_clear-clear.ensures.low), c.next_clear-clear.ensures.high)

pub overflow_add-clear : goal.overflow_add-clear
overflow_add-clear c = omega (arith, c.next_clear-clear.ensures.high)

pub returns-then-clear-w : goal.returns-then-clear-w
returns-then-clear-w c =
    seek_found _ _ _ c.loop-at.invariant (omega arith) c.next_clear-clear.ensures c.next_set-set.ensures (omega arith)

pub loop-at-smaller : goal.loop-at-smaller
loop-at-smaller c =
    omega (arith, seek-less _ _ _ c.loop-at.invariant (omega arith) c.next_clear-clear.ensures c.next_set-set.ensures (omega arith))

pub loop-at-preserved : goal.loop-at-preserved
loop-at-preserved c =
    seek-on _ _ _ c.loop-at.invariant (omega arith) c.next_clear-clear.ensures c.next_set-set.ensures (omega arith) (omega arith)

pub returns : goal.returns
returns c = seek-end _ _ _ c.loop-at.invariant (omega arith)
