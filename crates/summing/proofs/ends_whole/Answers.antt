-- `summing::ends_whole` meets its contract. Assumes nothing.
use mathlib.Core.Path.{ap, ◌∙◌}
use Rattle.summing.specs.Summary.{whole?}
use Rattle.summing.specs.Summing.{file_end}
use Rattle.summing.proofs.ends_whole.Goals as goal

pub returns : goal.returns
unfolding file_end
returns c = c.is_whole.ensures ∙ ap whole? c.close.ensures
