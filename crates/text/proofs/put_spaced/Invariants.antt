-- `text::put_spaced` meets its contract: one number more each turn. Assumes nothing.
use Prim.Native.Nat.{◌+◌, ◌*◌, ◌≤◌}
use lib.ListN.{take}
use Rattle.text.specs.Digits.{spaced, Put}
use Rattle.text.proofs.put_spaced.Given as goal

abbrev pub invariant-loop-word : goal.invariant-loop-word
invariant-loop-word l =
    (l.place ≤ l.at + l.word-index * 11) × Put l.initial.out l.at (spaced (take l.word-index l.words)) l.out l.place
