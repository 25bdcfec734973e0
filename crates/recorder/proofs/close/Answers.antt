-- `recorder::close` meets its contract: the held bytes are the last line, or the text was cut short, or it had stopped. Assumes nothing.
use native.Mathlib.Omega.{arith}
use Rattle.recorder.proofs.Feeding.{closes, cut, closed}
use Rattle.recorder.proofs.close.Goals as goal

pub returns-then-whole : goal.returns-then-whole
returns-then-whole c =
    let p = rw c.from-n.ensures at c.put_line-s.ensures in
    let a = c.args in
    let all = closes a.recorder a.held.now a.out.now a.err.now c.if-recorder.true c.if-whole.true (omega arith) p.value p.out_after p.err_after in
    record { value = all.0; out_after = all.1.0; err_after = all.1.1.0; used_in_bounds = all.1.1.1 }

pub returns-then-recorder : goal.returns-then-recorder
returns-then-recorder c =
    let a = c.args in
    let all = cut a.recorder a.held.now a.out.now a.err.now c.if-recorder.true c.if-whole.false (omega arith) c.put_bytes.ensures.put in
    record { value = all.0; out_after = all.1.0; err_after = all.1.1.0; used_in_bounds = all.1.1.1 }

pub returns : goal.returns
returns c =
    let a = c.args in
    let all = closed a.recorder a.held.now a.out.now a.err.now a.whole c.if-recorder.false in
    record { value = all.0; out_after = all.1.0; err_after = all.1.1.0; used_in_bounds = all.1.1.1 }
