-- `text::put_table` meets its contract: one row more each turn. Assumes nothing.
use Prim.Native.Nat.{◌*◌, ◌≤◌}
use Rattle.text.specs.Text.{rows_text, rows_of}
use Rattle.text.specs.Digits.{Put}
use Rattle.text.proofs.put_table.Given as goal

abbrev pub invariant-loop-i : goal.invariant-loop-i
invariant-loop-i l =
    (l.at ≤ l.i * (l.n * 11)) × Put l.initial.out 0 (rows_text (rows_of l.n l.i l.words)) l.out l.at
