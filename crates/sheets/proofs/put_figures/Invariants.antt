-- `sheets::put_figures` meets its contract: one figure more each turn. Assumes nothing.
use Rattle.std.proofs.Common.{◌+◌, ◌*◌, ◌≤◌, take}
use Rattle.text.specs.Digits.{spaced, Put}
use Rattle.sheets.proofs.put_figures.Given as goal

abbrev pub invariant-loop-figure : goal.invariant-loop-figure
invariant-loop-figure l =
    (l.place ≤ l.at + l.figure-index * 21) × Put l.initial.out l.at (spaced (take l.figure-index l.figures)) l.out l.place
