-- `busy::held` meets its contract: the columns of the tasks passed are marked. Assumes nothing.
use Rattle.busy.proofs.Holding.{HeldBy}
use Rattle.busy.proofs.held.Given as goal

abbrev pub invariant-loop-i : goal.invariant-loop-i
invariant-loop-i l = HeldBy l.live l.instant l.words l.i
