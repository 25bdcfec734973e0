-- `openings::list` meets its contract: at each pair of the walk, all that comes after it is still to be written. Assumes nothing.
use Prim.Native.Nat.{◌+◌, ◌-◌, ◌*◌, ◌/◌}
use mathlib.Core.Path.{◌≡◌}
use lib.ListN.{length}
use Rattle.openings.proofs.Listing.{At}
use Rattle.openings.proofs.list.Given as goal

abbrev pub invariant-walk : goal.invariant-walk
invariant-walk l =
    (l.room ≡ length l.initial.buffer / 2) × At l.q l.grid l.count l.live l.s l.c l.initial.buffer l.t l.column l.live_now l.words l.until l.buffer l.n

abbrev pub decreases-walk : goal.decreases-walk
decreases-walk l =
    (l.q.d - l.t) * 257 + (256 - l.column)
