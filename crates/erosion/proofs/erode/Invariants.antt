-- `erosion::erode` meets its contract. The loop's invariant: y has the columns that begin `have` set ones. Assumes nothing.
use Prim.Native.Nat.{◌-◌, ◌≤◌}
use Rattle.erosion.proofs.Runs.{Eroded}
use Rattle.erosion.proofs.erode.Given as goal

abbrev pub invariant-loop-have : goal.invariant-loop-have
invariant-loop-have l = (1 ≤ l.have) × (l.have ≤ l.w) × Eroded l.have l.initial.y l.y

abbrev pub decreases-loop-have : goal.decreases-loop-have
decreases-loop-have l = l.w - l.have
