-- `listing::begin` meets its contract. Assumes nothing.
use Rattle.listing.specs.Listing.{first_listing}
use Rattle.listing.proofs.begin.Goals as goal

pub returns : goal.returns
unfolding first_listing
returns c = λ i. record { reader = c.begin.ensures i; words = c.args.words }
