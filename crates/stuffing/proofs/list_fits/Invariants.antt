-- `stuffing::list_fits` meets its contract: the runs that begin before `from` are listed. Assumes nothing.
use Rattle.std.proofs.Common.{suc, ◌-◌}
use Rattle.stuffing.proofs.Fits.{Passed}
use Rattle.stuffing.proofs.list_fits.Given as goal

abbrev pub invariant-loop-from : goal.invariant-loop-from
invariant-loop-from l = Passed l.row l.width l.w l.keys l.m l.from

abbrev pub decreases-loop-from : goal.decreases-loop-from
decreases-loop-from l = suc l.width - l.from
