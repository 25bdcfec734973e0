-- `asking::next` meets its contract. Assumes nothing.
use Rattle.asking.proofs.Steps.{rests, goes}
use Rattle.asking.proofs.next.Goals as goal

pub returns-in_default : goal.returns-in_default
returns-in_default c =
    let a = c.args in
    let all = rests a.a c.in_default.is a.out.now in
    record { value = all.0; out_after = all.1.0; used_in_bounds = all.1.1 }

pub returns : goal.returns
returns c =
    let all = goes c.args.a c.in-Some.is c.turn-part.ensures in
    record { value = all.0; out_after = all.1.0; used_in_bounds = all.1.1 }
