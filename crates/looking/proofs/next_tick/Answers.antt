-- `looking::next_tick` meets its contract: after a column the next tick, before every column a finish. Assumes nothing.
use mathlib.Core.Path.{refl}
use native.Mathlib.Omega.{arith}
use Rattle.looking.proofs.next_tick.Goals as goal

pub returns-then-column-gt0 : goal.returns-then-column-gt0
returns-then-column-gt0 c = λ count f a. record { tick = λ h. refl; finish = λ h. absurd (omega arith) }

pub returns-else-column-gt0 : goal.returns-else-column-gt0
returns-else-column-gt0 c = λ count f a. record { tick = λ h. absurd (omega arith); finish = λ h. c.next_finish.ensures count _ f a (omega arith) }
