-- `sheets::put_row` meets its contract: names, figures, and two of them as a ratio. Assumes nothing.
use Rattle.std.proofs.Common.{◌≡◌, ◌+◌, ◌-◌, ◌*◌, arith}
use Rattle.sheets.specs.Sheets.{row_in}
use Rattle.sheets.proofs.Rows.{row-line}
use Rattle.sheets.proofs.put_row.Goals as goal

pub returns-clause-put : goal.returns-clause-put
unfolding row_in
returns-clause-put c =
    let r = c.args.row in
    let size : r * 5 + 5 - r * 5 ≡ 5 = omega arith in
    row-line _ _ _ (rw c.planner_word.ensures.word at c.put_bytes-class_at.ensures.put) (rw c.class_word.ensures.word at c.put_bytes-figures_at.ensures.put)
    (rw size at c.put_figures-ratio_at.ensures.put) (rw size at c.put_ended-over_at.ensures.put) (rw size at c.put_ended.ensures.put)
