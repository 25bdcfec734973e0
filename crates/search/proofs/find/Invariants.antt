-- `search::find` meets its contract: what is left from t on, openings or times visited, gives the answer. Assumes nothing.
use Prim.Native.Nat.{◌-◌}
use Rattle.live.specs.Live.{tasks_of, After}
use Rattle.search.proofs.Walk.{Stands}
use Rattle.search.proofs.find.Given as goal

abbrev pub invariant-walk : goal.invariant-walk
invariant-walk l = Stands l.q (tasks_of l.count l.live) l.whole l.t × After l.live l.count l.t l.n

abbrev pub decreases-walk : goal.decreases-walk
decreases-walk l = l.q.d - l.t
