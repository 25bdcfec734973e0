-- `recorder::feed` meets its contract: each turn takes a part of the piece. Assumes nothing.
use Prim.Native.Nat.{◌-◌}
use lib.ListN.{length}
use Rattle.recorder.proofs.Going.{Going}
use Rattle.recorder.proofs.feed.Given as goal

abbrev pub invariant-loop-said : goal.invariant-loop-said
invariant-loop-said l = Going l.initial.r l.initial.held l.piece l.initial.out l.initial.err l.held l.out l.err l.r l.at l.used l.said

abbrev pub decreases-loop-said : goal.decreases-loop-said
decreases-loop-said l = length l.piece - l.at
