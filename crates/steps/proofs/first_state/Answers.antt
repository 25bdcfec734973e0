-- `steps::first_state` meets its contract: a new board of no columns is the board of zeros. Assumes nothing.
use mathlib.Core.Path.{refl, ap, ◌∙◌}
use Rattle.steps.proofs.Steps.{created-not}
use Rattle.steps.proofs.first_state.Goals as goal

pub returns : goal.returns
returns c = ap (λ x. record { board = x.board }) (c.new.ensures ∙ created-not 0 0 1 refl)
