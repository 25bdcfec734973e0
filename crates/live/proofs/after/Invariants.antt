-- `live::after` meets its contract. The loop's invariant: the tasks from place k on have finished by t. Assumes nothing.
use Prim.Native.Nat.{ℕ, ◌≤◌, ◌<◌}
use Rattle.live.specs.Live.{finish_at}
use Rattle.live.proofs.after.Given as goal

abbrev pub invariant-loop-k : goal.invariant-loop-k
invariant-loop-k l = (i : ℕ) → l.k ≤ i → i < l.n → finish_at l.live i ≤ l.t
