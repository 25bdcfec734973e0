-- `recorder::put_shown` meets its contract: one byte more each turn. Assumes nothing.
use mathlib.Core.Path.{◌≡◌}
use mathlib.Core.List.{map}
use lib.ListN.{take}
use lib.Seq.{sets}
use Rattle.recorder.specs.Recorder.{shown_byte}
use Rattle.recorder.proofs.put_shown.Given as goal

abbrev pub invariant-loop-i : goal.invariant-loop-i
invariant-loop-i l = l.err ≡ sets l.initial.err l.at (take l.i (map shown_byte l.word))
