-- `held::held_four` meets its contract: in each word the columns of the tasks passed are set. Assumes nothing.
use Rattle.std.proofs.Common.{◌-◌, ◌≤◌}
use Rattle.held.specs.Held.{HeldWord}
use Rattle.held.proofs.held_four.Given as goal

abbrev pub invariant-loop-i : goal.invariant-loop-i
invariant-loop-i l =
    (l.i ≤ l.n) × HeldWord l.live l.masks l.end 0 l.i l.initial.a l.a × HeldWord l.live l.masks l.end 1 l.i l.initial.b l.b × HeldWord l.live l.masks l.end 2 l.i l.initial.c l.c × HeldWord l.live l.masks l.end 3 l.i l.initial.d l.d

abbrev pub decreases-loop-i : goal.decreases-loop-i
decreases-loop-i l = l.n - l.i
