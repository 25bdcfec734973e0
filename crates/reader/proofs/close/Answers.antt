-- `reader::close` meets its contract. Assumes nothing.
use mathlib.Core.Path.{◌≡◌, sym, ap, ◌∙◌}
use borrow.Author.Rules.{rules}
use lib.ListN.{length}
use Rattle.events.specs.Records.{read_from}
use Rattle.reader.specs.Reader.{end_in}
use Rattle.reader.proofs.Held.{kept-is}
use Rattle.reader.proofs.Ends.{end-open, end-closed}
use Rattle.reader.proofs.close.Goals as goal

pub returns-then-not-is_open : goal.returns-then-not-is_open
returns-then-not-is_open c = sym (end-closed c.args.r (sym c.if-not-is_open.ensures))

pub returns : goal.returns
returns c =
    let r = c.args.r in
    let held-size : length r.held ≡ 18 = search rules in
    c.end_in.ensures ∙ ap end_in c.read.ensures.value
    ∙ ap (λ x. end_in (read_from x)) (kept-is r.size r.held c.min.result held-size c.min.ensures)
    ∙ sym (end-open r (sym c.if-not-is_open.ensures))
