-- `demo::is_held` meets its contract. Assumes nothing.
use Rattle.lists.proofs.Append.{and_assoc}
use Rattle.tasks.specs.Tasks.{holds, covers}
use Rattle.demo.proofs.is_held.Goals as goal

pub returns : goal.returns
unfolding holds covers
returns c = simp and_assoc
