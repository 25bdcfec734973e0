-- `figures::count_rows` meets its contract: one line more each turn. Assumes nothing.
use Rattle.figures.proofs.Rows.{Counted}
use Rattle.figures.proofs.count_rows.Given as goal

abbrev pub invariant-loop-i : goal.invariant-loop-i
invariant-loop-i l = Counted l.count l.clock l.numbers l.bytes l.figures l.then l.at l.i
