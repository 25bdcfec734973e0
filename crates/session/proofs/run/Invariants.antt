-- `session::run` meets its contract: what is left of the recording gives what is left to do. Assumes nothing.
use Rattle.steps.specs.Standing.{state_of}
use Rattle.session.proofs.Running.{Running}
use Rattle.session.proofs.run.Given as goal

abbrev pub invariant-loop-n : goal.invariant-loop-n
invariant-loop-n l =
    Running (state_of l.initial.tasks l.initial.d) l.number l.most l.bytes l.initial.answers l.answers l.tasks l.live l.masks l.d l.at l.count l.n
