-- `stuffing::first_held` meets its contract: the columns passed are free. Assumes nothing.
use Rattle.std.proofs.Common.{◌≡◌, ℕ, ◌<◌, ◌≤◌, get_or}
use Rattle.stuffing.proofs.first_held.Given as goal

abbrev pub invariant-loop-c : goal.invariant-loop-c
invariant-loop-c l = ((k : ℕ) → l.from ≤ k → k < l.c → get_or l.row k 0 ≡ 0)
