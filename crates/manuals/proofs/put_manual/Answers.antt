-- `manuals::put_manual` meets its contract: one text at the front, or two. Assumes nothing.
use mathlib.Core.Path.{◌≡◌, ap}
use mathlib.Core.Bool.{true, false, not}
use native.Mathlib.Omega.{arith}
use borrow.Author.Tests.{not-true, not-false}
use Rattle.text.proofs.Spelling.{put_both}
use Rattle.text.proofs.Rows.{rows-front}
use Rattle.manuals.proofs.put_manual.Goals as goal

pub returns-then-not-help-clause-out_after : goal.returns-then-not-help-clause-out_after
returns-then-not-help-clause-out_after c =
    let no : c.args.help ≡ false = not-true _ (ap not c.if-not-help.true) in
    rw no (rows-front _ c.put_bytes.ensures.put (omega arith))

pub returns-clause-out_after : goal.returns-clause-out_after
returns-clause-out_after c =
    let yes : c.args.help ≡ true = not-false _ (ap not c.if-not-help.false) in
    rw yes (rows-front _ (put_both c.put_bytes-at.ensures.put c.put_answers.ensures.put) (omega arith))
