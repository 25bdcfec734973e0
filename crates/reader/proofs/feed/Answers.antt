-- `reader::feed` meets its contract. Assumes nothing.
use mathlib.Core.Path.{sym, ap, ◌∙◌}
use Rattle.reader.specs.Reader.{passed_over, as_fed}
use Rattle.reader.proofs.Going.{bounds, feeds-open, feeds-closed}
use Rattle.reader.proofs.feed.Goals as goal

pub returns-then-is_open : goal.returns-then-is_open
returns-then-is_open c =
    let a = c.args in
    let x = feeds-open a.r a.piece.now a.answers.now (sym c.is_open.ensures ∙ c.if-is_open.true) c.go_on.ensures in
    record {
      value = x.0;
      answers_after = x.1;
      count_in_bounds = bounds a.r a.piece.now a.answers.now x.0;
    }

pub returns : goal.returns
returns c =
    let a = c.args in
    let x = feeds-closed a.r a.piece.now a.answers.now (sym c.is_open.ensures ∙ c.if-is_open.false)
    (c.pass.ensures ∙ ap (λ e. as_fed (passed_over a.r a.piece.now e)) c.later.ensures) in
    record {
      value = x.0;
      answers_after = x.1;
      count_in_bounds = bounds a.r a.piece.now a.answers.now x.0;
    }
