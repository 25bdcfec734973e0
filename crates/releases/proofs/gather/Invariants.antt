-- `releases::gather` meets its contract: the loop takes the tasks one by one. Assumes nothing.
use Rattle.releases.proofs.Raising.{Released}
use Rattle.releases.proofs.gather.Given as goal

abbrev pub invariant-loop-i : goal.invariant-loop-i
invariant-loop-i l = Released l.live l.clock l.count l.row l.i
