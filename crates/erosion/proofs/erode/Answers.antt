-- `erosion::erode` meets its contract. The loop's invariant: y has the columns that begin `have` set ones. Assumes nothing.
use Prim.Native.Nat.{◌≤◌, ◌<◌}
use native.Mathlib.Omega.{arith}
use Rattle.erosion.proofs.Runs.{eroded-one, eroded-more, goes_on, eroded-end}
use borrow.Author.Rules.{rules}
use Rattle.erosion.proofs.erode.Goals as goal

pub loop-have-init : goal.loop-have-init
loop-have-init c = (omega arith, omega arith, eroded-one _)

pub shifted-on-requires : goal.shifted-on-requires
shifted-on-requires c =
    let g : c.loop-have.have < c.args.w = goes_on _ _ _ c.loop-have-test.true in
    (omega arith, omega arith)

pub loop-have-smaller : goal.loop-have-smaller
loop-have-smaller c =
    let g : c.loop-have.have < c.args.w = goes_on _ _ _ c.loop-have-test.true in
    omega arith

pub loop-have-preserved : goal.loop-have-preserved
loop-have-preserved c =
    let l = c.loop-have in
    let s = c.min-s.result in
    let h : s ≤ l.have = search rules in
    (search rules, search rules, eroded-more l.have s _ l.y _ _ h l.invariant.0 l.invariant.2 c.shifted-on.ensures c.both-next.ensures)

pub returns : goal.returns
returns c =
    let l = c.loop-have in
    (eroded-end l.have _ _ _ l.y l.invariant.1 c.loop-have-test.false c.some.ensures l.invariant.2).is
