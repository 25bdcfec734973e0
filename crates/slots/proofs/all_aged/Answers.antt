-- `slots::all_aged` meets its contract: the slots passed are aged, the others as they were. Assumes nothing.
use native.Mathlib.Omega.{arith}
use Rattle.lists.proofs.Append.{map-step}
use Rattle.tasks.specs.Tasks.{free_slot}
use Rattle.slots.specs.Slots.{aged_to}
use Rattle.slots.proofs.all_aged.Goals as goal

pub loop-k-preserved : goal.loop-k-preserved
loop-k-preserved c =
    let l = c.loop-k in
    map-step (aged_to _) _ l.k-items l.k-index free_slot l.invariant (omega arith) c.aged.ensures
