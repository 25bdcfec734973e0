-- `recorder::nth_word` meets its contract: one word less is left each turn. Assumes nothing.
use Prim.Native.Nat.{◌-◌}
use mathlib.Core.Path.{◌≡◌}
use mathlib.Core.List.{[]}
use lib.ListN.{get_or}
use Rattle.tokens.specs.Tokens.{words}
use Rattle.recorder.proofs.nth_word.Given as goal

abbrev pub invariant-loop-i : goal.invariant-loop-i
invariant-loop-i l = get_or (words l.rest) (l.word - l.i) [] ≡ get_or (words l.text) (l.word - 1) []
