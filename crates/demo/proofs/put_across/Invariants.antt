-- `demo::put_across` meets its contract: one mark more each turn. Assumes nothing.
use mathlib.Core.Path.{◌≡◌}
use mathlib.Core.List.{map}
use lib.ListN.{length}
use lib.Seq.{sets}
use Rattle.lists.specs.Lists.{index_of, range}
use Rattle.tasks.specs.Tasks.{holds}
use Rattle.demo.specs.Picture.{mark}
use Rattle.demo.proofs.put_across.Given as goal

abbrev pub invariant-loop-i : goal.invariant-loop-i
invariant-loop-i l =
    (length l.line ≡ length l.initial.line) × (l.line ≡ sets l.initial.line l.at (map (λ c. mark (index_of (holds l.tick c) l.tasks)) (range 1 l.i)))
