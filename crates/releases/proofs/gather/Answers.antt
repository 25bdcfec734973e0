-- `releases::gather` meets its contract: the loop takes the tasks one by one. Assumes nothing.
use Prim.Native.Nat.{◌<◌, ◌-◌}
use mathlib.Core.Path.{◌≡◌, subst}
use native.Mathlib.Omega.{arith}
use lib.ListN.{length-replicate, get_or-replicate}
use Rattle.releases.proofs.Raising.{Released, release-none, release-one, release-all}
use Rattle.releases.proofs.gather.Goals as goal

pub loop-i-init : goal.loop-i-init
loop-i-init c =
    let x = c.args.clock in
    release-none _ c.requires.0 c.requires.1 c.after-n.ensures _ (length-replicate 256 x) (λ k h. get_or-replicate 256 k x 0 h)

pub raise-requires : goal.raise-requires
raise-requires c =
    let o = c.requires.0 in
    let i = c.loop-i.i - 1 in
    let h : i < c.args.count = omega (arith, c.after-n.ensures.few) in
    (c.loop-i.invariant.room, o.from i h, omega (arith, o.columns i h), omega (arith, o.past i h, o.wide))

pub loop-i-preserved : goal.loop-i-preserved
loop-i-preserved c =
    let p = c.requires in
    release-one _ p.0 p.1 c.loop-i.invariant (omega arith) (omega (arith, c.after-n.ensures.few)) c.raise.ensures.row_len c.raise.ensures.by_index

pub returns : goal.returns
returns c =
    let l = c.loop-i in
    let z : l.i ≡ 0 = omega arith in
    release-all _ (subst (Released _ _ _ _) z l.invariant)
