-- `soundness::take` meets its contract: the columns are taken one by one. Assumes nothing.
use Rattle.soundness.proofs.Row.{TakenTo}
use Rattle.soundness.proofs.take.Given as goal

abbrev pub invariant-loop-c : goal.invariant-loop-c
invariant-loop-c l = TakenTo l.left l.past l.start l.finish l.initial.row l.row l.hits l.c
