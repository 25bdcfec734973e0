-- `recorder::feed_part` meets its contract: a part that is too long, the end of a line, a part that is kept. Assumes nothing.
use Prim.Native.Nat.{◌-◌, ◌<◌}
use lib.ListN.{length}
use native.Mathlib.Omega.{arith}
use Rattle.recorder.proofs.Feeding.{does-long, does-line, does-kept}
use Rattle.recorder.proofs.feed_part.Goals as goal

pub returns-then-from-size : goal.returns-then-from-size
returns-then-from-size c =
    let a = c.args in
    let too_long = rw c.from-from.ensures at c.if-from-size.true in
    let said = c.put_too_long-said.ensures in
    let all = does-long a.r a.held.now a.part.now a.used a.out.now a.err.now a.ends too_long said.value said.err_after in
    record { value = all.0; held_after = all.1.0; out_after = all.1.1.0; err_after = all.1.1.1 }

pub returns-then-ends : goal.returns-then-ends
returns-then-ends c =
    let h = rw c.from-from.ensures at c.if-from-size.false in
    let fits : length c.args.part.now < 65536 - c.args.r.held = omega (arith, h) in
    let q = rw c.from-from.ensures at c.put_bytes-end.ensures in
    let a = c.args in
    let p = c.put_line-s.ensures in
    let all = does-line a.r a.held.now a.part.now a.used a.out.now a.err.now c.if-ends.true fits
    q.value q.out_after p.value p.out_after p.err_after c.add.ensures c.add-then-ends.ensures in
    record { value = all.0; held_after = all.1.0; out_after = all.1.1.0; err_after = all.1.1.1 }

pub returns : goal.returns
returns c =
    let h = rw c.from-from.ensures at c.if-from-size.false in
    let fits : length c.args.part.now < 65536 - c.args.r.held = omega (arith, h) in
    let q = rw c.from-from.ensures at c.put_bytes-end.ensures in
    let a = c.args in
    let all = does-kept a.r a.held.now a.part.now a.used a.out.now a.err.now c.if-ends.false fits q.value q.out_after in
    record { value = all.0; held_after = all.1.0; out_after = all.1.1.0; err_after = all.1.1.1 }
