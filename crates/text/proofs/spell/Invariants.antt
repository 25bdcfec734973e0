-- `text::spell` meets its contract: what is left of the digits, put in front of those that stand, gives all of them. Assumes nothing.
use mathlib.Core.Path.{◌≡◌}
use lib.Seq.{sets}
use Rattle.text.specs.Digits.{last_digits}
use Rattle.text.proofs.spell.Given as goal

abbrev pub invariant-loop-i : goal.invariant-loop-i
invariant-loop-i l =
    sets l.out l.at (last_digits l.i l.rest) ≡ sets l.initial.out l.at (last_digits l.n l.x)
