-- `stuffing::meets_any` meets its contract: what is left of the tasks decides. Assumes nothing.
use Rattle.std.proofs.Common.{arith}
use Rattle.stuffing.proofs.Steps.{meets-start, meets-hit, meets_on, meets-end}
use Rattle.stuffing.proofs.meets_any.Goals as goal

pub loop-i-init : goal.loop-i-init
loop-i-init c = let p = c.requires.on_device in meets-start _ _ _ _ _ p.0 p.2 (omega arith) (omega arith)

pub returns-then-c-live : goal.returns-then-c-live
returns-then-c-live c =
    let p = c.requires.on_device in
    meets-hit _ _ _ _ _ p.0 p.2 (omega arith) (omega arith) p.1 c.loop-i.invariant (omega arith) c.if-c-live.true

pub loop-i-preserved : goal.loop-i-preserved
loop-i-preserved c =
    let p = c.requires.on_device in
    meets_on _ _ _ _ _ p.0 p.2 (omega arith) (omega arith) p.1 c.loop-i.invariant (omega arith) c.if-c-live.false

pub returns : goal.returns
returns c = meets-end _ _ _ _ _ c.loop-i.invariant (omega arith)
