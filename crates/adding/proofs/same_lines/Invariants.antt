-- `adding::same_lines` meets its contract: one byte more each turn. Assumes nothing.
use Rattle.adding.proofs.Judging.{Shared}
use Rattle.adding.proofs.same_lines.Given as goal

abbrev pub invariant-loop-x : goal.invariant-loop-x
invariant-loop-x l = Shared l.a l.b l.n l.x-iterator.a.rest.now l.x-iterator.b.rest.now
