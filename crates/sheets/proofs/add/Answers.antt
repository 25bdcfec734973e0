-- `sheets::add` meets its contract: one figure more each turn. Assumes nothing.
use Rattle.std.proofs.Common.{◌≡◌, refl, length, arith, rules}
use Rattle.sheets.proofs.Laws.{added_none, added_more, added-all}
use Rattle.sheets.proofs.add.Goals as goal

pub loop-i-init : goal.loop-i-init
loop-i-init c =
    let a = c.args in
    let x : length a.a.now ≡ 83 = search rules in
    let y : length a.b.now ≡ 83 = search rules in
    added_none a.a.now a.b.now (cc) _ (cc)

pub loop-i-preserved : goal.loop-i-preserved
loop-i-preserved c =
    let l = c.loop-i in
    let a = c.args in
    let x : length a.a.now ≡ 83 = search rules in
    let y : length a.b.now ≡ 83 = search rules in
    added_more a.a.now a.b.now (cc) l.i (omega arith) l.invariant refl c.fits-fit.ensures

pub returns : goal.returns
returns c =
    let l = c.loop-i in
    let a = c.args in
    let x : length a.a.now ≡ 83 = search rules in
    let y : length a.b.now ≡ 83 = search rules in
    let all = added-all a.a.now a.b.now (cc) (omega arith) l.invariant in
    cc
