-- `stuffing::list_fits` meets its contract: the runs that begin before `from` are listed. Assumes nothing.
use Rattle.std.proofs.Common.{sym, ◌∙◌, arith, rules}
use Rattle.stuffing.proofs.Fits.{pass-first, pass-held, pass-room, pass-free, pass-last}
use Rattle.stuffing.proofs.list_fits.Goals as goal

pub loop-from-init : goal.loop-from-init
loop-from-init c = pass-first _ _ _ c.requires.4

pub first_held-to-requires : goal.first_held-to-requires
first_held-to-requires c = (omega arith, omega arith)

pub key-requires : goal.key-requires
key-requires c = (omega (arith, c.first_held-to.ensures.low), omega (arith, c.first_held-to.ensures.high))

pub bounds-keys-m : goal.bounds-keys-m
bounds-keys-m c =
    pass-room c.loop-from.invariant c.requires.3 (omega arith) (omega arith) (sym c.from-past.ensures ∙ c.if-past-eq0.true)

pub overflow_sub-to : goal.overflow_sub-to
overflow_sub-to c = omega (arith, c.first_held-to.ensures.low)

pub loop-from-smaller-then-past-eq0 : goal.loop-from-smaller-then-past-eq0
loop-from-smaller-then-past-eq0 c = omega (arith, c.first_held-to.ensures.low)

pub loop-from-preserved-then-past-eq0 : goal.loop-from-preserved-then-past-eq0
loop-from-preserved-then-past-eq0 c =
    let z = sym c.from-past.ensures ∙ c.if-past-eq0.true in
    pass-free c.loop-from.invariant c.requires.3 (omega arith) (omega arith) z c.first_held-to.ensures c.key.ensures
    (search rules) (search rules)

pub loop-from-smaller : goal.loop-from-smaller
loop-from-smaller c =
    let p = pass-held c.loop-from.invariant c.requires.3 (sym c.from-past.ensures) (omega (arith, c.if-past-eq0.false)) in
    omega (arith, p.0, p.1.high)

pub loop-from-preserved : goal.loop-from-preserved
loop-from-preserved c =
    (pass-held c.loop-from.invariant c.requires.3 (sym c.from-past.ensures) (omega (arith, c.if-past-eq0.false))).1

pub returns : goal.returns
returns c = pass-last c.loop-from.invariant (omega arith) (omega arith)
