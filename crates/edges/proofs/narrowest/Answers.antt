-- `edges::narrowest` meets its contract: the runs that begin before `at` are weighed. Assumes nothing.
use Prim.Native.Nat.{min}
use mathlib.Core.Path.{sym, ap, ◌∙◌}
use native.Mathlib.Omega.{arith}
use Rattle.edges.proofs.Weighed.{stands-first, stands-end, stands-edge, stands-over, stands-none, stands_one}
use Rattle.edges.proofs.narrowest.Goals as goal

pub loop-at-init : goal.loop-at-init
loop-at-init c = stands-first _ _

pub key-requires : goal.key-requires
key-requires c = let g = c.next_set-to.ensures in (omega (arith, g.low), omega (arith, g.high))

pub loop-at-smaller-then-is_edge : goal.loop-at-smaller-then-is_edge
loop-at-smaller-then-is_edge c =
    let g = c.next_set-to.ensures in
    let f = c.next_set-c.ensures in
    omega (arith, f.low, g.low, g.high)

pub loop-at-preserved-then-is_edge : goal.loop-at-preserved-then-is_edge
loop-at-preserved-then-is_edge c =
    let l = c.loop-at in
    stands-edge _ _ l.invariant c.next_set-c.ensures (omega arith) c.next_set-to.ensures
    (sym c.is_edge.ensures ∙ c.if-is_edge.true) (c.min-best.ensures ∙ ap (λ k. min k l.best) c.key.ensures)

pub loop-at-smaller-else-is_edge : goal.loop-at-smaller-else-is_edge
loop-at-smaller-else-is_edge c =
    let g = c.next_set-to.ensures in
    let f = c.next_set-c.ensures in
    omega (arith, f.low, g.low, g.high)

pub loop-at-preserved-else-is_edge : goal.loop-at-preserved-else-is_edge
loop-at-preserved-else-is_edge c =
    stands-over _ _ c.loop-at.invariant c.next_set-c.ensures (omega arith) c.next_set-to.ensures (sym c.is_edge.ensures ∙ c.if-is_edge.false)

pub loop-at-smaller : goal.loop-at-smaller
loop-at-smaller c = omega arith

pub loop-at-preserved : goal.loop-at-preserved
loop-at-preserved c = stands-end _ _ c.loop-at.invariant c.next_set-c.ensures (omega arith)

pub returns-then-best-lt-NONE : goal.returns-then-best-lt-NONE
returns-then-best-lt-NONE c = λ W w d. stands_one _ _ d c.loop-at.invariant (omega arith) (omega arith) c.left_of.ensures

pub returns-else-best-lt-NONE : goal.returns-else-best-lt-NONE
returns-else-best-lt-NONE c = λ W w d. stands-none _ _ d c.loop-at.invariant (omega arith) (omega arith)
