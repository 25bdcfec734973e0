-- `stuffing::mark_held` meets its contract: the tasks are put into the row one by one. Assumes nothing.
use Rattle.std.proofs.Common.{arith}
use Rattle.stuffing.proofs.Marks.{mark-none, mark-one, mark-all, put-at}
use Rattle.stuffing.proofs.mark_held.Goals as goal

pub loop-i-init : goal.loop-i-init
loop-i-init c = mark-none _ _ _ c.requires.1

pub overflow_cast-at : goal.overflow_cast-at
overflow_cast-at c =
    omega (arith, put-at c.args.t c.requires.0 (omega arith) c.column_if-at.ensures)

pub overflow_cast-row : goal.overflow_cast-row
overflow_cast-row c =
    let d = c.requires.0 in
    omega (arith, d.past c.loop-i.i (omega arith))

pub offset_bounds-row-at : goal.offset_bounds-row-at
offset_bounds-row-at c =
    omega (arith, put-at c.args.t c.requires.0 (omega arith) c.column_if-at.ensures)

pub bounds-row-at : goal.bounds-row-at
bounds-row-at c =
    put-at c.args.t c.requires.0 (omega arith) c.column_if-at.ensures

pub loop-i-preserved : goal.loop-i-preserved
loop-i-preserved c =
    mark-one c.loop-i.invariant c.requires.0 (omega arith) c.column_if-at.ensures

pub returns : goal.returns
returns c = mark-all c.loop-i.invariant (omega arith)
