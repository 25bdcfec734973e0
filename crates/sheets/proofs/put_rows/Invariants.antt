-- `sheets::put_rows` meets its contract: one row more each turn. Assumes nothing.
use Rattle.std.proofs.Common.{◌+◌, ◌*◌, ◌≤◌}
use Rattle.lists.specs.Lists.{each, range}
use Rattle.text.specs.Digits.{Put}
use Rattle.sheets.specs.Sheets.{row_in}
use Rattle.sheets.proofs.put_rows.Given as goal

abbrev pub invariant-loop-row : goal.invariant-loop-row
invariant-loop-row l =
    (l.place ≤ l.at + l.row * 170) × Put l.initial.out l.at (each (range 0 l.row) (row_in l.figures)) l.out l.place
