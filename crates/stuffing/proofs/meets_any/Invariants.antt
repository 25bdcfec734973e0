-- `stuffing::meets_any` meets its contract: what is left of the tasks decides. Assumes nothing.
use Rattle.stuffing.proofs.Steps.{MeetsFrom}
use Rattle.stuffing.proofs.meets_any.Given as goal

abbrev pub invariant-loop-i : goal.invariant-loop-i
invariant-loop-i l = MeetsFrom l.live l.c l.w l.t l.e l.count l.n l.i
