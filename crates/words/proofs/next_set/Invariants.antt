-- `words::next_set` meets its contract: the columns passed are clear. Assumes nothing.
use Prim.Native.Nat.{ℕ, ◌+◌, ◌*◌, ◌<◌, ◌≤◌}
use mathlib.Core.Path.{◌≡◌}
use mathlib.Core.Bool.{false}
use Rattle.words.specs.Words.{column}
use Rattle.words.proofs.next_set.Given as goal

abbrev pub invariant-loop-i : goal.invariant-loop-i
invariant-loop-i l =
    (l.i * 64 + l.k ≤ 256) × (l.k < 64) × (l.from ≤ l.i * 64 + l.k + 1) × ((c : ℕ) → l.from ≤ c → c < l.i * 64 + l.k + 1 → column l.words c ≡ false)
