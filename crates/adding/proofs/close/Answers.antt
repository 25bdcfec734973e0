-- `adding::close` meets its contract: nothing where it has stopped. Assumes nothing.
use mathlib.Core.Path.{refl, sym, ◌∙◌}
use Rattle.adding.specs.Machine.{closing}
use Rattle.adding.proofs.Faults.{faultless-some}
use Rattle.adding.proofs.close.Goals as goal

pub returns-then-is_some-clause-put : goal.returns-then-is_some-clause-put
unfolding closing
returns-then-is_some-clause-put c = rw (sym c.is_some.ensures ∙ c.if-is_some.true) (record { stored = refl; place = refl })

pub returns-clause-put : goal.returns-clause-put
unfolding closing
returns-clause-put c = rw (faultless-some _ (sym c.is_some.ensures ∙ c.if-is_some.false)) c.put_whole.ensures.put
