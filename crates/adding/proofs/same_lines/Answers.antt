-- `adding::same_lines` meets its contract: one byte more each turn. Assumes nothing.
use mathlib.Core.Logic.{inl, inr, ⊎_elim}
use Rattle.adding.proofs.Judging.{shared-all, shared-unlike, shared-more, shared-on}
use Rattle.adding.proofs.same_lines.Goals as goal

pub returns-then-x-y : goal.returns-then-x-y
returns-then-x-y c =
    let steps = c.in-Some.ensures.steps in
    let s = rw (steps.0, steps.1) at c.loop-x.invariant in
    shared-unlike _ _ s c.if-x-y.true

pub loop-x-preserved-then-x-eq10 : goal.loop-x-preserved-then-x-eq10
loop-x-preserved-then-x-eq10 c =
    let steps = c.in-Some.ensures.steps in
    let s = rw (steps.0, steps.1) at c.loop-x.invariant in
    shared-more _ _ s c.if-x-y.false c.if-x-eq10.true

pub loop-x-preserved : goal.loop-x-preserved
loop-x-preserved c =
    let steps = c.in-Some.ensures.steps in
    let s = rw (steps.0, steps.1) at c.loop-x.invariant in
    shared-on _ _ s c.if-x-y.false c.if-x-eq10.false

pub returns : goal.returns
returns c =
    shared-all _ _ c.loop-x.invariant (⊎_elim (λ p. inl p.1.0) (λ p. inr p.1.0) c.in-None.ensures.steps)
