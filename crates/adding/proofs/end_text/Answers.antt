-- `adding::end_text` meets its contract: it has stopped, or a summary has just ended, or not. Assumes nothing.
use mathlib.Core.Path.{◌≡◌, sym, ◌∙◌}
use lib.ListN.{length}
use borrow.Author.Rules.{rules}
use Rattle.adding.proofs.Faults.{faultless-some}
use Rattle.adding.proofs.Feeding.{ended-stopped, ended-behind, ended-inside}
use Rattle.adding.proofs.end_text.Goals as goal

pub returns-then-is_some : goal.returns-then-is_some
returns-then-is_some c =
    let a = c.args.a in
    ended-stopped a.total a.held a.at (sym c.is_some.ensures ∙ c.if-is_some.true)

pub returns-then-at : goal.returns-then-at
returns-then-at c =
    let a = c.args.a in
    ended-behind a.total a.held a.at (faultless-some _ (sym c.is_some.ensures ∙ c.if-is_some.false)) c.if-at.true

pub returns : goal.returns
returns c =
    let a = c.args.a in
    let held-size : length a.held ≡ 4096 = search rules in
    ended-inside a.total a.held a.at (faultless-some _ (sym c.is_some.ensures ∙ c.if-is_some.false)) c.if-at.false held-size c.min.ensures
    c.wrong_line-line.ensures c.nothing_held.ensures
