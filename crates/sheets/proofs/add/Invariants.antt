-- `sheets::add` meets its contract: one figure more each turn. Assumes nothing.
use Rattle.sheets.proofs.Laws.{Added}
use Rattle.sheets.proofs.add.Given as goal

abbrev pub invariant-loop-i : goal.invariant-loop-i
invariant-loop-i l = Added l.a l.b l.i l.figures l.fit
