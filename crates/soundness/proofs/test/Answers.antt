-- `soundness::test` meets its contract: device, clock and slots, and then the pairs of the sorted table. Assumes nothing.
use mathlib.Core.Path.{sym, ap, ◌∙◌}
use mathlib.Core.Bool.{◌&&◌, not}
use lib.Dec.{leb}
use borrow.Author.Tests.{not-true, not-false}
use borrow.Author.Rules.{rules}
use Rattle.soundness.proofs.Pairs.{tested-err, tested-off, sorted-device, tested-sound, tested-clash}
use Rattle.tasks.specs.Numbers.{last_instant}
use Rattle.soundness.proofs.test.Goals as goal

pub returns-in_err-v : goal.returns-in_err-v
returns-in_err-v c = tested-err _ _ _ _ c.in_err-v.ensures (search rules) _ c.from_residual.ensures.1

pub returns-then-not-fits-clock : goal.returns-then-not-fits-clock
returns-then-not-fits-clock c =
    let a = c.args in
    tested-off _ _ _ _ _ c.in_ok-v.ensures (ap (λ b. b && leb a.clock last_instant) (sym c.device_fits-fits.ensures) ∙ not-true _ (ap not c.if-not-fits-clock.true)) (search rules)

pub none_meets-apart-requires : goal.none_meets-apart-requires
none_meets-apart-requires c =
    let a = c.args in
    let fits = ap (λ b. b && leb a.clock last_instant) (sym c.device_fits-fits.ensures) ∙ not-false _ (ap not c.if-not-fits-clock.false) in
    (sorted-device _ _ _ _ _ c.in_ok-v.ensures fits c.sort.ensures, c.sort.ensures.falling)

pub returns-then-differ-apart : goal.returns-then-differ-apart
returns-then-differ-apart c =
    let a = c.args in
    let fits = ap (λ b. b && leb a.clock last_instant) (sym c.device_fits-fits.ensures) ∙ not-false _ (ap not c.if-not-fits-clock.false) in
    tested-sound _ _ _ _ _ c.in_ok-v.ensures fits c.sort.ensures c.ids_differ-differ.ensures c.none_meets-apart.ensures c.if-differ-apart.true

pub returns-else-differ-apart : goal.returns-else-differ-apart
returns-else-differ-apart c =
    let a = c.args in
    let fits = ap (λ b. b && leb a.clock last_instant) (sym c.device_fits-fits.ensures) ∙ not-false _ (ap not c.if-not-fits-clock.false) in
    tested-clash _ _ _ _ _ c.in_ok-v.ensures fits c.sort.ensures c.ids_differ-differ.ensures c.none_meets-apart.ensures c.if-differ-apart.false
