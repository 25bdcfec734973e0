-- `horizon::find` meets its contract: the loop goes along the visited times, and each break answers. Assumes nothing.
use mathlib.Core.Path.{refl}
use native.Mathlib.Omega.{arith}
use Rattle.releases.proofs.Pressing.{press-release}
use Rattle.planners.proofs.Walk.{visits-start}
use Rattle.horizon.proofs.Walking.{release-hit, release-none, release-on}
use Rattle.horizon.proofs.find.Goals as goal

pub gather-row-requires : goal.gather-row-requires
gather-row-requires c = (c.requires.0, c.requires.1)

pub press-n-requires : goal.press-n-requires
press-n-requires c = (refl, refl, omega arith, omega (arith, c.requires.0.wide))

pub walk-init : goal.walk-init
walk-init c =
    (press-release c.gather-row.result _ c.requires.0.wide c.gather-row.ensures c.press-n.ensures, visits-start _ _ _ _ _ _)

pub look-o-requires : goal.look-o-requires
look-o-requires c = (omega arith, c.walk.invariant.0.steps)

pub walk-smaller : goal.walk-smaller
walk-smaller c =
    let v = c.walk.invariant in
    let s = c.requires in
    omega (arith, (release-on _ _ _ _ s.0.wide (c.look-o.ensures _ _ v.0) v.1 c.if-o-lt-NONE.false c.if-last-o.false (omega arith) (omega arith)).0)

pub walk-preserved : goal.walk-preserved
walk-preserved c =
    let v = c.walk.invariant in
    let s = c.requires in
    (v.0, (release-on _ _ _ _ s.0.wide (c.look-o.ensures _ _ v.0) v.1 c.if-o-lt-NONE.false c.if-last-o.false (omega arith) (omega arith)).1)

pub returns-then-o-lt-NONE : goal.returns-then-o-lt-NONE
returns-then-o-lt-NONE c =
    let v = c.walk.invariant in
    let s = c.requires in
    release-hit _ _ _ _ s.0.wide (c.look-o.ensures _ _ v.0) v.1 c.if-o-lt-NONE.true c.left_of.ensures

pub returns-then-last-o : goal.returns-then-last-o
returns-then-last-o c =
    let v = c.walk.invariant in
    let s = c.requires in
    release-none _ _ _ _ s.0.wide (c.look-o.ensures _ _ v.0) v.1 c.if-o-lt-NONE.false c.if-last-o.true
