-- `edges::narrowest` meets its contract: the runs that begin before `at` are weighed. Assumes nothing.
use Prim.Native.Nat.{◌-◌}
use Rattle.edges.proofs.Weighed.{Stands}
use Rattle.edges.proofs.narrowest.Given as goal

abbrev pub invariant-loop-at : goal.invariant-loop-at
invariant-loop-at l = Stands l.held l.fit l.at l.best

abbrev pub decreases-loop-at : goal.decreases-loop-at
decreases-loop-at l = 257 - l.at
