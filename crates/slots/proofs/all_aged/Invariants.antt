-- `slots::all_aged` meets its contract: the slots passed are aged, the others as they were. Assumes nothing.
use mathlib.Core.Path.{◌≡◌}
use mathlib.Core.List.{map, ◌++◌}
use lib.ListN.{take, drop}
use Rattle.slots.specs.Slots.{aged_to}
use Rattle.slots.proofs.all_aged.Given as goal

abbrev pub invariant-loop-k : goal.invariant-loop-k
invariant-loop-k l = l.k-items ≡ map (aged_to l.instant) (take l.k-index l.initial.k-items) ++ drop l.k-index l.initial.k-items
