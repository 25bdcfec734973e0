-- `summing::one_file` meets its contract. Assumes nothing.
use mathlib.Core.Path.{◌≡◌, refl, ap, ◌∙◌}
use mathlib.Core.List.{[]}
use lib.ListN.{set}
use Rattle.lists.specs.Lists.{keep, each, range}
use Rattle.figures.specs.Figures.{verdicts, of, came, waited_in, figures_of, sheet_with, sheet_of}
use Rattle.summing.proofs.one_file.Goals as goal

one : set (sheet_of 0 []) 82 1 ≡ sheet_of 1 []
unfolding sheet_of verdicts sheet_with figures_of of came waited_in keep each range
one = refl

pub returns : goal.returns
returns c = ap (λ l. set l 82 1) c.no_figures-figures.ensures ∙ one
