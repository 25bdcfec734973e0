-- `busy::count` meets its contract: the ones of the words are the held columns. Assumes nothing.
use mathlib.Core.Path.{◌∙◌}
use Rattle.busy.proofs.Holding.{ones-busy}
use Rattle.busy.proofs.count.Goals as goal

pub returns : goal.returns
returns c = c.count.ensures ∙ ones-busy _ _ c.requires (record { same = c.held.ensures })
