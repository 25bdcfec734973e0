-- `tokens::is_name` meets its contract. Assumes nothing.
use mathlib.Core.Path.{◌∙◌}
use Rattle.tokens.proofs.Names.{same-bytes}
use Rattle.tokens.proofs.is_name.Goals as goal

pub returns : goal.returns
returns c = c.eq.ensures ∙ same-bytes _ _
