-- `adding::feed` meets its contract: one byte more each turn. Assumes nothing.
use mathlib.Core.Path.{◌≡◌}
use lib.ListN.{length}
use Rattle.adding.specs.Machine.{state_of}
use Rattle.adding.proofs.Feeding.{Fed}
use Rattle.adding.proofs.feed.Given as goal

abbrev pub invariant-loop-b : goal.invariant-loop-b
invariant-loop-b l = (length l.held ≡ 4096) × Fed (state_of l.initial.total l.initial.held l.initial.at) l.piece (state_of l.total l.held l.at) l.b-index
