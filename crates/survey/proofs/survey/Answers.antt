-- `survey::survey` meets its contract: the loop passes the slots one by one. Assumes nothing.
use borrow.Author.Rules.{rules}
use native.Mathlib.Omega.{arith}
use Rattle.words.proofs.Digits.{bit-of-zero}
use Rattle.survey.proofs.Passed.{begin, pass, end-sound, end-unsound}
use Rattle.survey.proofs.survey.Goals as goal

pub loop-i-init : goal.loop-i-init
loop-i-init c = begin _ _ _ _ c.requires (search rules) (λ j h. bit-of-zero j)

pub overflow_add-count : goal.overflow_add-count
overflow_add-count c =
    let l = c.loop-i in
    omega (arith, l.invariant.below, c.one_if.ensures.upper_bound)

pub loop-i-preserved : goal.loop-i-preserved
loop-i-preserved c =
    let l = c.loop-i in
    rw (c.put.ensures, c.from.ensures, c.from-in-loop-i.ensures, c.from-in-loop-i-2.ensures)
    (pass _ _ _ l.invariant (omega arith) c.slot_sound-well.ensures c.is_live-lives.ensures c.one_if.ensures.value c.used_with-used.ensures)

pub returns-then-sound : goal.returns-then-sound
returns-then-sound c = end-sound _ _ _ c.loop-i.invariant (omega arith) c.if-sound.true

pub returns-else-sound : goal.returns-else-sound
returns-else-sound c = end-unsound _ _ _ c.loop-i.invariant (omega arith) c.if-sound.false
