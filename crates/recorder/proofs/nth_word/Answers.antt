-- `recorder::nth_word` meets its contract: one word less is left each turn. Assumes nothing.
use Prim.Native.Nat.{◌+◌, ◌-◌}
use mathlib.Core.Path.{◌≡◌, refl, ap, ◌∙◌}
use mathlib.Core.List.{[]}
use native.Mathlib.Omega.{arith}
use lib.ListN.{get_or}
use Rattle.tokens.specs.Tokens.{words}
use Rattle.recorder.proofs.Reading.{first-found, next-found}
use Rattle.recorder.proofs.nth_word.Goals as goal

pub loop-i-init : goal.loop-i-init
loop-i-init c = refl

pub loop-i-preserved : goal.loop-i-preserved
loop-i-preserved c =
    let l = c.loop-i in
    let word = c.args.word in
    let left : word - (l.i + 1) + 1 ≡ word - l.i = omega arith in
    ap (λ ws. get_or ws (word - (l.i + 1)) []) c.next.ensures.behind ∙ next-found _ _ ∙ ap (λ k. get_or (words l.rest.now) k []) left ∙ l.invariant

pub returns : goal.returns
returns c =
    let l = c.loop-i in
    let none : 0 ≡ c.args.word - l.i = omega arith in
    c.next-2.ensures.word ∙ first-found _ ∙ ap (λ k. get_or (words l.rest.now) k []) none ∙ l.invariant
