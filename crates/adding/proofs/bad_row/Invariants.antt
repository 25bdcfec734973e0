-- `adding::bad_row` meets its contract: one row more each turn. Assumes nothing.
use Prim.Native.Nat.{◌-◌}
use mathlib.Core.Path.{◌≡◌}
use Rattle.adding.specs.Machine.{bad_row}
use Rattle.adding.proofs.bad_row.Given as goal

abbrev pub invariant-loop-row : goal.invariant-loop-row
invariant-loop-row l = bad_row l.figures l.row (16 - l.row) ≡ bad_row l.figures 0 16
