-- `stuffing::find` meets its contract: the tries at a time give its first candidate, the visits give the answer. Assumes nothing.
use Rattle.std.proofs.Common.{◌≡◌, ◌+◌, ◌-◌, ◌≤◌, length}
use Rattle.lists.specs.Lists.{never}
use Rattle.live.specs.Live.{tasks_of, After}
use Rattle.stuffing.proofs.Tries.{Tried, Stuffs}
use Rattle.stuffing.proofs.find.Given as goal

abbrev pub invariant-tries : goal.invariant-tries
invariant-tries l = Tried l.q.width (tasks_of l.count l.live) l.q.w l.q.e l.t l.after

abbrev pub decreases-tries : goal.decreases-tries
decreases-tries l = never - l.after

abbrev pub invariant-visits : goal.invariant-visits
invariant-visits l =
    Stuffs l.q.width l.q.clock (tasks_of l.count l.live) l.q.w l.q.e l.q.d l.t × (l.t + l.q.e ≤ l.q.d) × After l.live l.count l.t l.n × (length l.keys ≡ 129)

abbrev pub decreases-visits : goal.decreases-visits
decreases-visits l = l.q.d - l.t
