-- `held::held_word` meets its contract: the columns of the tasks passed are set. Assumes nothing.
use Rattle.std.proofs.Common.{◌-◌, ◌≤◌}
use Rattle.held.specs.Held.{HeldWord}
use Rattle.held.proofs.held_word.Given as goal

abbrev pub invariant-loop-i : goal.invariant-loop-i
invariant-loop-i l = (l.i ≤ l.n) × HeldWord l.live l.masks l.end 0 l.i l.word l.held

abbrev pub decreases-loop-i : goal.decreases-loop-i
decreases-loop-i l = l.n - l.i
