-- `stuffing::mark_held` meets its contract: the tasks are put into the row one by one. Assumes nothing.
use Rattle.stuffing.proofs.Marks.{Marking}
use Rattle.stuffing.proofs.mark_held.Given as goal

abbrev pub invariant-loop-i : goal.invariant-loop-i
invariant-loop-i l = Marking l.live l.n l.t l.row l.i
