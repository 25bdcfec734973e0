-- `adding::begin_text` meets its contract: it has stopped, or begins. Assumes nothing.
use mathlib.Core.Path.{sym, ◌∙◌}
use Rattle.adding.proofs.Faults.{faultless-some}
use Rattle.adding.proofs.Feeding.{begun-stopped, begun-on}
use Rattle.adding.proofs.begin_text.Goals as goal

pub returns-then-is_some : goal.returns-then-is_some
returns-then-is_some c =
    let a = c.args.a in
    begun-stopped a.total a.held a.at (sym c.is_some.ensures ∙ c.if-is_some.true)

pub returns : goal.returns
returns c =
    let a = c.args.a in
    begun-on a.total a.held a.at (faultless-some _ (sym c.is_some.ensures ∙ c.if-is_some.false)) c.nothing_held.ensures
