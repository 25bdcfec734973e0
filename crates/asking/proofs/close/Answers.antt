-- `asking::close` meets its contract. Assumes nothing.
use Rattle.asking.proofs.Steps.{closes}
use Rattle.asking.proofs.close.Goals as goal

pub returns : goal.returns
returns c =
    let a = c.args in
    let all = closes a.a a.err.now c.close-end.ensures c.next_event.ensures (c.put_end-said.ensures.value, c.put_end-said.ensures.err_after) c.begin_answer-part.ensures in
    record { value = all.0; out_after = all.1.0; err_after = all.1.1.0; used_in_bounds = all.1.1.1 }
