-- Where a run of openings stops, and where to look next: code-level definitions; no promise of a public call cites them. Assumes nothing.
use Rattle.std.specs.Prelude.{ℕ, ◌+◌, ◌*◌, ◌≤◌, ◌<◌, ◌≡◌, List}
use Rattle.live.specs.Live.{NextFinish}

-- r is where a run from `from` up to `to` stops: k of its openings, a step apart, and there is room for them
pub record Stopped (from to room step r : ℕ) : Type 0 where
  pub count : ℕ
  pub is : r ≡ from + count * step
  pub fits : count ≤ room
  pub some : 1 ≤ count
  pub high : r ≤ to

-- r is where to look next when nothing more is open at t after a column: the next tick, or a finish where nothing was open at all
pub record NextTick (live : List ℕ) (n t column r : ℕ) : Type 0 where
  pub tick : 0 < column → r ≡ t + 1
  pub finish : column ≡ 0 → NextFinish live n t r
