-- `held::next_change` meets its contract: of the tasks passed none comes into the stay before it, and the next finish bounds it. Assumes nothing.
use Rattle.std.proofs.Common.{ℕ, ◌+◌, ◌<◌, ◌≤◌, List}
use Rattle.lists.specs.Lists.{never}
use Rattle.live.specs.Live.{from_at}
use Rattle.held.proofs.next_change.Given as goal

-- none of the first i tasks comes into the stay before r
unfoldable pub Comes : (live : List ℕ) (i t e r : ℕ) → Type 0
Comes live i t e r = (j : ℕ) → j < i → t + e ≤ from_at live j → r + e ≤ from_at live j + 1

abbrev pub invariant-loop-i : goal.invariant-loop-i
invariant-loop-i l = (l.from + l.best ≤ never) × Comes l.live l.i l.t l.e (l.from + l.best)
