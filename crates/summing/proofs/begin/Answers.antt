-- `summing::begin` meets its contract. Assumes nothing.
use Rattle.summing.specs.Summing.{first_summing}
use Rattle.summing.proofs.begin.Goals as goal

pub returns : goal.returns
unfolding first_summing
returns c = λ i. record { reader = c.begin-reader.ensures i; figures = c.no_figures.ensures i; before = 0 }
