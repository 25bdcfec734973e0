-- `survey::used_with` meets its contract: the slot too, where it is live. Assumes nothing.
use mathlib.Core.Path.{◌≡◌, refl}
use mathlib.Core.Bool.{Bool, true, false, ◌||◌}
use Rattle.survey.proofs.used_with.Goals as goal

pub returns-then-on : goal.returns-then-on
returns-then-on c = λ j h. rw c.if-on.true (c.with_slot.ensures j h)

pub returns : goal.returns
returns c = λ j h. rw c.if-on.false (none _)
  where
    none : (b : Bool) → b ≡ (b || false)
    none true = refl
    none false = refl
