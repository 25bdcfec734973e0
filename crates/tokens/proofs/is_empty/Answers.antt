-- `tokens::is_empty` meets its contract. Assumes nothing.
use mathlib.Core.Path.{◌∙◌}
use Rattle.tokens.proofs.Names.{empty-length}
use Rattle.tokens.proofs.is_empty.Goals as goal

pub returns : goal.returns
returns c = c.is_empty.ensures ∙ empty-length _
