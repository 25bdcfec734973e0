-- `soundness::none_meets` meets its contract: the tasks take their columns, the last to finish first. Assumes nothing.
use Rattle.soundness.proofs.Row.{RowTo}
use Rattle.soundness.proofs.none_meets.Given as goal

abbrev pub invariant-loop-i : goal.invariant-loop-i
invariant-loop-i l = RowTo l.n l.live l.row l.i
