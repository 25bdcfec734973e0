-- `recorder::unmarked` meets its contract. Assumes nothing.
use mathlib.Core.Path.{◌∙◌}
use Rattle.recorder.proofs.Reading.{unmarked-other, unmarked-mark, unmarked-none}
use Rattle.recorder.proofs.unmarked.Goals as goal

pub returns-then-line-ne1 : goal.returns-then-line-ne1
returns-then-line-ne1 c = unmarked-other _ _ c.if-line-ne1.true

pub returns-in-Some : goal.returns-in-Some
returns-in-Some c = let e = c.in-Some.ensures.cases in e.1 ∙ unmarked-mark _ _ c.if-line-ne1.false e.0

pub returns-in-None : goal.returns-in-None
returns-in-None c = unmarked-none _ _ c.in-None.ensures.cases
