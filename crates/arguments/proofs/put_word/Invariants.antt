-- `arguments::put_word` meets its contract: one byte more each turn. Assumes nothing.
use mathlib.Core.Path.{◌≡◌}
use mathlib.Core.List.{map}
use lib.ListN.{take}
use lib.Seq.{sets}
use Rattle.arguments.specs.Arguments.{guarded}
use Rattle.arguments.proofs.put_word.Given as goal

abbrev pub invariant-loop-i : goal.invariant-loop-i
invariant-loop-i l = l.text ≡ sets l.initial.text l.at (take l.i (map guarded l.bytes))
