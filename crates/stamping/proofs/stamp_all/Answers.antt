-- `stamping::stamp_all` meets its contract: the records passed are stamped, the others as they were. Assumes nothing.
use Rattle.std.proofs.Common.{◌∙◌, arith}
use Rattle.lists.proofs.Append.{map-step, map-done}
use Rattle.tasks.specs.Tasks.{stamped, free_slot}
use Rattle.stamping.proofs.stamp_all.Goals as goal

pub loop-k-preserved : goal.loop-k-preserved
loop-k-preserved c =
    let l = c.loop-k in
    map-step (stamped c.args.instant) c.args.records.now l.records l.k-index free_slot l.invariant (omega arith) c.stamp.ensures

pub returns : goal.returns
returns c = let l = c.loop-k in l.invariant ∙ map-done (stamped c.args.instant) c.args.records.now l.k-index (omega arith)
