-- `listing::put_end` meets its contract. Assumes nothing.
use Rattle.std.proofs.Common.{inl, inr}
use Rattle.listing.specs.Listing.{end_text}
use Rattle.listing.proofs.put_end.Goals as goal

pub returns-in-AtLast-clause-put : goal.returns-in-AtLast-clause-put
unfolding end_text
returns-in-AtLast-clause-put c = elim c.in-AtLast.is [ inl e ↦ rw e c.put_bytes.ensures.put | inr e ↦ rw e c.put_bytes.ensures.put ]
