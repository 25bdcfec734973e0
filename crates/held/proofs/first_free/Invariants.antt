-- `held::first_free` meets its contract: from one run of clear columns to the next. Assumes nothing.
use Rattle.std.proofs.Common.{◌-◌}
use Rattle.held.proofs.Free.{Sought}
use Rattle.held.proofs.first_free.Given as goal

abbrev pub invariant-loop-at : goal.invariant-loop-at
invariant-loop-at l = Sought l.words l.from l.w l.at

abbrev pub decreases-loop-at : goal.decreases-loop-at
decreases-loop-at l = 257 - l.at
