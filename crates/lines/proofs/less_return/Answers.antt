-- `lines::less_return` meets its contract. Assumes nothing.
use mathlib.Core.Path.{◌∙◌}
use Rattle.lines.proofs.Saying.{less_one, less-same}
use Rattle.lines.proofs.less_return.Goals as goal

pub returns-in-Some : goal.returns-in-Some
returns-in-Some c = let e = c.in-Some.ensures.cases in e.1 ∙ less_one _ e.0

pub returns-in-None : goal.returns-in-None
returns-in-None c = less-same _ c.in-None.ensures.cases
