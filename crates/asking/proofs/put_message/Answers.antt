-- `asking::put_message` meets its contract: the message is short. Assumes nothing.
use Prim.Native.Nat.{◌-◌, ◌≤◌}
use native.Mathlib.Omega.{arith}
use lib.ListN.{length, length-take}
use mir.Syntax.{w8, w32}
use mir.Val.{Fits}
use Rattle.board_text.specs.BoardText.{halt_text}
use Rattle.asking.proofs.Copies.{copies, at_front, halt-short}
use borrow.Author.Rules.{rules}
use Rattle.asking.proofs.put_message.Goals as goal

pub put_bytes-requires : goal.put_bytes-requires
put_bytes-requires c =
    let event-fits : Fits w32 c.args.event = search rules in
    let kind_fits : Fits w8 c.args.kind = search rules in
    let short : length (halt_text c.args.event c.args.kind c.args.end) ≤ 512 = halt-short c.args.event c.args.kind c.args.end (omega (arith, event-fits)) (omega (arith, kind_fits)) in
    omega (arith, short, c.put_halt-n.ensures.value, length-take (c.put_halt-n.result - 0) c.put_halt-n.new.out, c.put_bytes-arg-1.given.0.1)

pub returns : goal.returns
returns c =
    let event-fits : Fits w32 c.args.event = search rules in
    let kind_fits : Fits w8 c.args.kind = search rules in
    let short : length (halt_text c.args.event c.args.kind c.args.end) ≤ 512 = halt-short c.args.event c.args.kind c.args.end (omega (arith, event-fits)) (omega (arith, kind_fits)) in
    let e = c.put_halt-n.ensures in
    let all = at_front (copies (halt_text c.args.event c.args.kind c.args.end) _ e.value e.out_after c.put_bytes.ensures.value c.put_bytes.ensures.out_after)
    (omega (arith, short, c.put_bytes-arg-1.given.0.1)) in
    record { value = all.0; err_after = all.1 }
