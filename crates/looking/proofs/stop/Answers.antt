-- `looking::stop` meets its contract: as many steps as there is room for, or all. Assumes nothing.
use Rattle.std.proofs.Common.{◌≡◌, ℕ, ◌+◌, ◌*◌, ◌<◌, ◌≤◌, min, zero, suc, arith}
use native.Mathlib.Nat.{le_of_mul-le-mul_right}
use native.Mathlib.Decide.{dec_lt}
use Rattle.looking.specs.Looking.{Stopped}
use Rattle.looking.proofs.stop.Goals as goal

-- with n steps of room, or more than there are
stopped : (from to room step k n : ℕ) → 1 ≤ step → from < to → to ≤ from + 256 → 1 ≤ room → to ≡ from + k * step → n ≡ min room 256 → Stopped from to room step (min (from + n * step) to)
stopped from to room step k n s l h r e m = go (dec_lt (from + n * step) to)
  where
    some : (j : ℕ) → to ≡ from + j * step → 1 ≤ j
    some zero z = absurd (omega arith)
    some (suc j) z = omega arith

    -- 256 steps are enough
    all : to ≤ from + n * step → k ≤ room
    all z = omega (arith, le_of_mul-le-mul_right {m = k} {n = n} {k = step} (omega arith) s)

    go : Dec (from + n * step < to) → Stopped from to room step (min (from + n * step) to)
    go (yes z) = record { count = n; is = omega arith; fits = omega arith; some = omega arith; high = omega arith }
    go (no z) = record { count = k; is = omega arith; fits = all (omega arith); some = some k e; high = omega arith }

pub returns : goal.returns
returns c k e =
    let a = c.args in
    rw c.min-2.ensures (stopped a.from a.to a.room a.step k c.min.result c.requires.0 (omega arith) (omega arith) (omega arith) e c.min.ensures)
