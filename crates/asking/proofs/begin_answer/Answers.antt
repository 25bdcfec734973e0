-- `asking::begin_answer` meets its contract. Assumes nothing.
use mathlib.Core.Path.{refl, sym, ◌∙◌}
use borrow.Author.Tests.{not-true, not-false}
use Rattle.asking.proofs.Copies.{said-whole}
use Rattle.asking.proofs.Steps.{closing-whole, closing-other}
use mathlib.Core.Path.{ap}
use mathlib.Core.Bool.{not}
use Rattle.asking.proofs.begin_answer.Goals as goal

pub returns-then-not-is_whole : goal.returns-then-not-is_whole
returns-then-not-is_whole c =
    rw (closing-other c.args.a c.args.end (sym c.is_whole.ensures ∙ not-true _ (ap not c.if-not-is_whole.true))) (said-whole c.whole.ensures refl refl)

pub returns : goal.returns
returns c =
    rw (closing-whole c.args.a c.args.end (sym c.is_whole.ensures ∙ not-false _ (ap not c.if-not-is_whole.false))) c.answer.ensures
