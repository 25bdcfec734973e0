-- `adding::read_figures` meets its contract: one byte more each turn. Assumes nothing.
use Rattle.adding.proofs.Numbers.{Read}
use Rattle.adding.proofs.read_figures.Given as goal

abbrev pub invariant-loop-b : goal.invariant-loop-b
invariant-loop-b l = Read l.text l.figures l.n l.r l.b-index
