-- `adding::take_byte` meets its contract: it has stopped; no room; a summary ends; it goes on. Assumes nothing.
use mathlib.Core.Path.{sym, ◌∙◌}
use native.Mathlib.Omega.{arith}
use Rattle.adding.proofs.Faults.{faultless-some}
use Rattle.adding.proofs.Feeding.{byte-stopped, byte_full, byte-judged, byte-kept}
use Rattle.adding.proofs.take_byte.Goals as goal

pub returns-then-is_some-clause-result_after : goal.returns-then-is_some-clause-result_after
returns-then-is_some-clause-result_after c =
    let a = c.args in
    byte-stopped a.total.now a.held.now a.at a.b (sym c.is_some.ensures ∙ c.if-is_some.true)

pub returns-then-size-ge4096-clause-result_after : goal.returns-then-size-ge4096-clause-result_after
returns-then-size-ge4096-clause-result_after c =
    let a = c.args in
    let on = faultless-some _ (sym c.is_some.ensures ∙ c.if-is_some.false) in
    byte_full a.total.now a.held.now a.at a.b on c.if-size-ge4096.true c.nothing_held.ensures

pub returns-then-is_end-clause-result_after : goal.returns-then-is_end-clause-result_after
returns-then-is_end-clause-result_after c =
    let a = c.args in
    let on = faultless-some _ (sym c.is_some.ensures ∙ c.if-is_some.false) in
    byte-judged a.total.now a.held.now a.at a.b on c.requires (omega arith) c.is_end.ensures c.if-is_end.true c.judge.ensures.value c.judge.ensures.total_after

pub returns-clause-result_after : goal.returns-clause-result_after
returns-clause-result_after c =
    let a = c.args in
    let on = faultless-some _ (sym c.is_some.ensures ∙ c.if-is_some.false) in
    byte-kept a.total.now a.held.now a.at a.b on c.requires (omega arith) c.is_end.ensures c.if-is_end.false c.count.ensures
