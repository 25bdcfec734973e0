-- `survey::survey` meets its contract: the loop passes the slots one by one. Assumes nothing.
use Rattle.survey.proofs.Passed.{Passed}
use Rattle.survey.proofs.survey.Given as goal

abbrev pub invariant-loop-i : goal.invariant-loop-i
invariant-loop-i l =
    Passed l.on l.clock l.k-items l.live l.count l.used l.sound l.i
