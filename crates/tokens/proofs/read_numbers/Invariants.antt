-- `tokens::read_numbers` meets its contract. Assumes nothing.
use Rattle.tokens.specs.Tokens.{words}
use Rattle.tokens.proofs.Counting.{Sofar}
use Rattle.tokens.proofs.read_numbers.Given as goal

abbrev pub invariant-loop-i : goal.invariant-loop-i
invariant-loop-i g l = Sofar (words l.text) l.mosts l.values (words l.rest) l.i
