-- `soundness::same_ids` meets its contract: none was counted exactly if every later task has another id. Assumes nothing.
use native.Mathlib.Omega.{arith}
use Rattle.soundness.proofs.Pairs.{count_none, count-one}
use Rattle.soundness.proofs.same_ids.Goals as goal

pub loop-j-init : goal.loop-j-init
loop-j-init c = count_none _ _ _ (omega arith)

pub loop-j-preserved : goal.loop-j-preserved
loop-j-preserved c =
    count-one c.loop-j.invariant (omega arith) c.one_if-hits.ensures.value
