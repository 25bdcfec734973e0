-- `sheets::put_rows` meets its contract: one row more each turn. Assumes nothing.
use Rattle.std.proofs.Common.{◌≡◌, arith}
use Rattle.sheets.proofs.Rows.{rows_none, rows_more}
use Rattle.sheets.proofs.put_rows.Goals as goal

pub loop-row-init : goal.loop-row-init
loop-row-init c = (omega arith, rows_none c.args.figures.now _ _)

pub loop-row-preserved : goal.loop-row-preserved
loop-row-preserved c =
    let l = c.loop-row in
    let a = c.args in
    let p = c.put_row-place.ensures in
    (omega arith, rows_more a.figures.now l.row l.invariant.1 p.put)

pub returns : goal.returns
returns c =
    let l = c.loop-row in
    let e : l.row ≡ 16 = omega arith in
    record {
      put = rw e at l.invariant.1;
      upper_bound = omega arith;
    }
