-- `stops::put_said` meets its contract. Assumes nothing.
use Rattle.std.proofs.Common.{inl, inr}
use Rattle.stops.specs.Stops.{stop_said}
use Rattle.stops.proofs.put_said.Goals as goal

pub returns-in-AtLast-clause-put : goal.returns-in-AtLast-clause-put
unfolding stop_said
returns-in-AtLast-clause-put c = elim c.in-AtLast.is [ inl e ↦ rw e c.put_bytes.ensures.put | inr e ↦ rw e c.put_bytes.ensures.put ]
