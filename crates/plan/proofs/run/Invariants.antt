-- The piece that is still to be taken lies in the lent room.
use Rattle.std.proofs.Common.{◌≤◌, length}
use Rattle.plan.proofs.run.Given as goal

abbrev pub invariant-loop : goal.invariant-loop
invariant-loop l = (l.input.from ≤ l.input.to) × (l.input.to ≤ length l.piece)
