-- `summing::close` meets its contract. Assumes nothing.
use Rattle.batches.specs.Batches.{name_of}
use Rattle.summing.proofs.Feeding.{words_of, said_of, closes}
use Rattle.summing.proofs.close.Goals as goal

pub returns : goal.returns
returns c =
    let named = c.size_of.ensures.1 in
    let a = c.args in
    let all = closes a.s (name_of a.name) c.close-end.result c.events_in-events.result c.close-end.ensures c.events_in-events.ensures a.out.now a.err.now c.put_sheet-at.ensures.put
    (words_of c.events_in-events.result c.close-end.result named c.put_words-used.ensures.put)
    (said_of c.events_in-events.result c.close-end.result named c.put_said-said.ensures.put) c.put_words-used.ensures.upper_bound c.put_said-said.ensures.upper_bound in
    record { value = all.0; out_after = all.1.0; err_after = all.1.1.0; used_in_bounds = all.1.1.1 }
