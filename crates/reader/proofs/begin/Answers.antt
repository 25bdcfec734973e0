-- `reader::begin` meets its contract. Assumes nothing.
use lib.ListN.{replicate}
use Rattle.session.specs.declared.Ending.TheVariants.{NotYet}
use Rattle.reader.specs.Reader.{first_reader}
use Rattle.reader.proofs.begin.Goals as goal

pub returns : goal.returns
unfolding first_reader
returns c = λ i. record { state = c.first_state.ensures i; number = 0; held = replicate 18 0; size = 0; end = NotYet }
