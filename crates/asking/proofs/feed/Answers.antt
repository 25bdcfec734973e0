-- `asking::feed` meets its contract. Assumes nothing.
use mathlib.Core.Path.{ap}
use Rattle.asking.specs.Machine.{fed_with, line_words}
use Rattle.asking.proofs.Steps.{fed-inside}
use Rattle.asking.proofs.feed.Goals as goal

pub returns : goal.returns
unfolding fed_with
returns c =
    let s = c.args in
    let e = c.feed-f.ensures.value in record {
      value = ap (λ f. record { asking = record { reader = f.reader; question = s.a.question; page = s.a.page }; taken = f.taken }) e;
      taken_in_bounds = fed-inside s.a.reader s.piece.now line_words e;
    }
