-- `asking::begin` meets its contract. Assumes nothing.
use Rattle.std.proofs.Common.{None}
use Rattle.asking.specs.Machine.{begun}
use Rattle.asking.proofs.begin.Goals as goal

pub returns : goal.returns
unfolding begun
returns c = λ i. record { reader = c.begin.ensures i; question = c.args.question; page = None }
