-- `stuffing::next_key` meets its contract: of the keys passed none lies between, and it is one of them or never. Assumes nothing.
use Rattle.std.proofs.Common.{◌+◌, ◌≤◌}
use Rattle.lists.specs.Lists.{never}
use Rattle.stuffing.specs.Fit.{NextKey}
use Rattle.stuffing.proofs.next_key.Given as goal

abbrev pub invariant-loop-key : goal.invariant-loop-key
invariant-loop-key l = (l.from + l.best ≤ never) × NextKey l.keys l.key-index l.after (l.from + l.best)
