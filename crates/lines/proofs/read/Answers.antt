-- `lines::read` meets its contract. Assumes nothing.
use mathlib.Core.Path.{ap, ◌∙◌}
use Rattle.tokens.specs.Tokens.{words, first_word, other_words}
use Rattle.lines.specs.Lines.{said_by, says}
use Rattle.lines.proofs.read.Goals as goal

pub returns : goal.returns
unfolding says
returns c = c.said.ensures ∙ ap (λ t. said_by (first_word (words t)) (other_words (words t))) c.bare.ensures
