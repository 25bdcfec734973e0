-- `stamping::stamp_all` meets its contract: the records passed are stamped, the others as they were. Assumes nothing.
use Rattle.std.proofs.Common.{◌≡◌, ◌++◌, take, drop}
use mathlib.Core.List.{map}
use Rattle.tasks.specs.Tasks.{stamped}
use Rattle.stamping.proofs.stamp_all.Given as goal

abbrev pub invariant-loop-k : goal.invariant-loop-k
invariant-loop-k l = l.records ≡ map (stamped l.instant) (take l.k-index l.initial.records) ++ drop l.k-index l.initial.records
