-- `recorder::add` meets its contract. Assumes nothing.
use mathlib.Core.Path.{◌∙◌}
use Rattle.recorder.proofs.Reading.{added-most}
use Rattle.recorder.proofs.add.Goals as goal

pub returns : goal.returns
returns c = c.saturating_add.ensures ∙ added-most _ _
