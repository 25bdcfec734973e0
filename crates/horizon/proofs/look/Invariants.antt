-- `horizon::look` meets its contract: the loop passes the steps one by one. Assumes nothing.
use Rattle.horizon.proofs.Looking.{Walked}
use Rattle.horizon.proofs.look.Given as goal

abbrev pub invariant-loop-i : goal.invariant-loop-i
invariant-loop-i l = Walked l.past l.at l.n l.w l.t l.from l.to l.key l.next l.i
