-- `figures::no_figures` meets its contract: every figure of no event is 0. Assumes nothing.
use mathlib.Core.Path.{refl}
use Rattle.lists.specs.Lists.{keep, each, range}
use Rattle.figures.specs.Figures.{verdicts, of, came, waited_in, figures_of, sheet_with, sheet_of}
use Rattle.figures.proofs.no_figures.Goals as goal

pub returns : goal.returns
unfolding sheet_of verdicts sheet_with figures_of of came waited_in keep each range
returns c = refl
