-- `laxity::class_of` meets its contract. Assumes nothing.
use Rattle.laxity.proofs.Classes.{zero-other, past-classes}
use Rattle.laxity.proofs.class_of.Goals as goal

pub returns-then-laxity-eq0 : goal.returns-then-laxity-eq0
returns-then-laxity-eq0 c = zero-other _ c.if-laxity-eq0.true

pub returns : goal.returns
returns c =
    past-classes _ c.if-laxity-eq0.false c.one_if-past_a.ensures.value c.one_if-past_b.ensures.value c.one_if-past_c.ensures.value
