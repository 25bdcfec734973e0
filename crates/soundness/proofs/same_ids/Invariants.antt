-- `soundness::same_ids` meets its contract: none was counted exactly if every later task has another id. Assumes nothing.
use lib.Dec.{eqb}
use Rattle.live.specs.Live.{id_at}
use Rattle.soundness.proofs.Pairs.{CountedTo}
use Rattle.soundness.proofs.same_ids.Given as goal

abbrev pub invariant-loop-j : goal.invariant-loop-j
invariant-loop-j l = CountedTo (λ v. eqb (id_at l.live l.i) (id_at l.live v)) l.i l.n l.hits l.j
