-- `releases::press` meets its contract: the loop passes the columns one by one. Assumes nothing.
use Rattle.releases.proofs.Pressing.{Pressing}
use Rattle.releases.proofs.press.Given as goal

abbrev pub invariant-loop-c : goal.invariant-loop-c
invariant-loop-c l = Pressing l.row l.width l.past l.at l.n l.c l.x
