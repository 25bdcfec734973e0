-- `adding::put_refusal` meets its contract: one text or the other. Assumes nothing.
use mathlib.Core.Path.{◌≡◌, ◌∙◌}
use borrow.Author.Rules.{rules}
use Rattle.text.proofs.Spelling.{put_both}
use Rattle.adding.specs.Machine.{past?, refusal_text}
use Rattle.adding.proofs.put_refusal.Goals as goal

pub returns-then-matches-clause-put : goal.returns-then-matches-clause-put
unfolding refusal_text
returns-then-matches-clause-put c =
    let past : past? c.args.a.at.fault ≡ c.match-matches.matches = search rules in
    rw (past ∙ c.if-matches.true) (put_both c.put_bytes-line_at.ensures.put (put_both c.put_number-after.ensures.put c.put_bytes.ensures.put))

pub returns-clause-put : goal.returns-clause-put
unfolding refusal_text
returns-clause-put c =
    let past : past? c.args.a.at.fault ≡ c.match-matches.matches = search rules in
    rw (past ∙ c.if-matches.false) (put_both c.put_bytes-line_at-2.ensures.put (put_both c.put_number-after-2.ensures.put c.put_bytes-2.ensures.put))
