-- `demo::mark_at` meets its contract: a task's number, or a dot. Assumes nothing.
use mathlib.Core.Path.{◌≡◌, sym, ◌∙◌}
use lib.ListN.{length}
use borrow.Author.Rules.{rules}
use Rattle.demo.proofs.Drawing.{mark-held, mark-free}
use Rattle.demo.proofs.mark_at.Goals as goal

pub returns-in-Some : goal.returns-in-Some
returns-in-Some c =
    let seven : length c.args.tasks.now ≡ 7 = search rules in
    mark-held _ _ seven _ (sym c.holder.ensures ∙ c.in-Some.is)

pub returns-in-None : goal.returns-in-None
returns-in-None c =
    let seven : length c.args.tasks.now ≡ 7 = search rules in
    mark-free _ _ seven (sym c.holder.ensures ∙ c.in-None.is)
