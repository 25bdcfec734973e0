-- `summing::begin_file` meets its contract. Assumes nothing.
use mathlib.Core.Path.{ap, ◌∙◌}
use Rattle.sheets.specs.declared.Sums.{Sums}
use Rattle.sheets.specs.Sheets.{plus, wrapped}
use Rattle.summing.specs.Summing.{next_file}
use Rattle.summing.proofs.begin_file.Goals as goal

pub returns : goal.returns
unfolding next_file
returns c =
    let s = c.args.s in
    let sums = ap (λ (x : Sums). x.figures) c.add-sums.ensures ∙ ap (λ l. wrapped (plus s.figures l)) c.one_file.ensures in
    λ i. record { reader = c.reader_at-reader.ensures i; figures = sums i; before = s.reader.number }
