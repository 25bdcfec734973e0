-- `looking::put_steps` meets its contract: one opening more each turn, a step further. Assumes nothing.
use Prim.Native.Nat.{ℕ, ◌+◌, ◌-◌, ◌*◌, ◌≤◌}
use mathlib.Core.Path.{◌≡◌}
use lib.ListN.{length}
use lib.Seq.{sets}
use Rattle.planners.specs.Lent.{run_at}
use Rattle.planners.specs.Openings.{pair_numbers}
use Rattle.looking.proofs.put_steps.Given as goal

abbrev pub invariant-loop-c : goal.invariant-loop-c
invariant-loop-c l =
    (n : ℕ) × (l.i ≡ l.at + 2 * n) × (l.c ≡ l.from + n * l.step) × (l.c ≤ l.to) × (length l.buffer ≡ length l.initial.buffer) × (l.buffer ≡ sets l.initial.buffer l.at (pair_numbers (run_at l.t l.step l.from n)))

abbrev pub decreases-loop-c : goal.decreases-loop-c
decreases-loop-c l = l.to - l.c
