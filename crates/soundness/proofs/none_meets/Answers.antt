-- `soundness::none_meets` meets its contract: the tasks take their columns, the last to finish first. Assumes nothing.
use native.Mathlib.Omega.{arith}
use Rattle.soundness.proofs.Row.{row-none, row_more, row-clash}
use Rattle.soundness.proofs.none_meets.Goals as goal

pub loop-i-init : goal.loop-i-init
loop-i-init c = row-none _ _

pub returns-then-take-gt0 : goal.returns-then-take-gt0
returns-then-take-gt0 c =
    row-clash c.requires.0 c.requires.1 c.loop-i.invariant (omega arith) c.take.ensures c.if-take-gt0.true

pub loop-i-preserved : goal.loop-i-preserved
loop-i-preserved c =
    row_more c.requires.0 c.requires.1 c.loop-i.invariant (omega arith) c.take.ensures (omega arith)
