-- `text::spell` meets its contract: what is left of the digits, put in front of those that stand, gives all of them. Assumes nothing.
use mathlib.Core.Path.{◌∙◌}
use native.Mathlib.Omega.{arith}
use Rattle.text.proofs.Spelling.{spell-none, spell_one}
use Rattle.text.proofs.spell.Goals as goal

pub loop-i-preserved : goal.loop-i-preserved
loop-i-preserved c =
    let l = c.loop-i in
    spell_one l.out c.args.at l.i l.rest (omega arith) ∙ l.invariant

pub returns : goal.returns
returns c =
    let l = c.loop-i in
    spell-none l.out c.args.at l.i l.rest (omega arith) ∙ l.invariant
