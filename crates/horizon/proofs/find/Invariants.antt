-- `horizon::find` meets its contract: the loop goes along the visited times, and each break answers. Assumes nothing.
use Prim.Native.Nat.{◌-◌}
use Rattle.planners.specs.Planners.{release}
use Rattle.live.specs.Live.{tasks_of}
use Rattle.planners.specs.Lent.{wanted}
use Rattle.releases.specs.Steps.{Pressed}
use Rattle.horizon.proofs.Walking.{Releases}
use Rattle.horizon.proofs.find.Given as goal

abbrev pub invariant-walk : goal.invariant-walk
invariant-walk l =
    Pressed (release l.q.clock (tasks_of l.count l.live)) l.q.width l.ends l.at l.n × Releases l.q.width l.q.clock (tasks_of l.count l.live) (wanted l.q) l.t

abbrev pub decreases-walk : goal.decreases-walk
decreases-walk l = l.q.d - l.q.e - l.t
