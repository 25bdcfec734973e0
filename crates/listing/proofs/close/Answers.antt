-- `listing::close` meets its contract. Assumes nothing.
use Rattle.listing.proofs.Closing.{closes}
use Rattle.listing.proofs.close.Goals as goal

pub returns : goal.returns
returns c =
    let a = c.args in
    let all = closes a.l c.close-end.result c.close-end.ensures a.out.now a.err.now c.put_last-used.ensures.put c.put_end-said.ensures.put
    c.put_last-used.ensures.upper_bound c.put_end-said.ensures.upper_bound in
    record { value = all.0; out_after = all.1.0; err_after = all.1.1.0; used_in_bounds = all.1.1.1 }
