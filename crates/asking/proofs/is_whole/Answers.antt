-- `asking::is_whole` meets its contract. Assumes nothing.
use mathlib.Core.Path.{◌≡◌, refl}
use mathlib.Core.Bool.{false}
use borrow.Author.Rules.{rules}
use Rattle.session.specs.declared.Ending.{Ending}
use Rattle.session.specs.declared.Ending.TheVariants.{NotYet, AtEnd, In15, In16, AtLast, PastLast}
use Rattle.asking.specs.Asking.{whole?}
use Rattle.asking.proofs.is_whole.Goals as goal

pub returns-in-AtEnd : goal.returns-in-AtEnd
unfolding whole?
returns-in-AtEnd c = search rules

-- no other is whole
other : (end : Ending) → (end ≡ AtEnd → ⊥) → (end ≡ AtLast → ⊥) → false ≡ whole? end
unfolding whole?
other NotYet h k = refl
other AtEnd h k = absurd (h refl)
other (In15 b) h k = refl
other (In16 b) h k = refl
other AtLast h k = absurd (k refl)
other PastLast h k = refl

pub returns-in_default : goal.returns-in_default
returns-in_default c = other _ c.in_default.not-AtEnd c.in_default.not-AtLast
