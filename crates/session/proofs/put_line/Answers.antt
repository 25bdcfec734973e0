-- `session::put_line` meets its contract: six stores. Assumes nothing.
use Prim.Native.Nat.{suc, ◌+◌}
use mathlib.Core.Path.{◌≡◌}
use native.Mathlib.Omega.{arith}
use lib.ListN.{length-set}
use Rattle.session.proofs.put_line.Goals as goal

pub bounds-answers-at-2 : goal.bounds-answers-at-2
bounds-answers-at-2 c = simp length-set (omega arith)

pub bounds-answers-at-3 : goal.bounds-answers-at-3
bounds-answers-at-3 c = simp length-set (omega arith)

pub bounds-answers-at-4 : goal.bounds-answers-at-4
bounds-answers-at-4 c = simp length-set (omega arith)

pub bounds-answers-at-5 : goal.bounds-answers-at-5
bounds-answers-at-5 c = simp length-set (omega arith)

pub bounds-answers-at-6 : goal.bounds-answers-at-6
bounds-answers-at-6 c = simp length-set (omega arith)

pub returns : goal.returns
returns c =
    let at = c.args.at in
    let e1 : at + 1 ≡ suc at = omega arith in
    let e2 : at + 2 ≡ suc (suc at) = omega arith in
    let e3 : at + 3 ≡ suc (suc (suc at)) = omega arith in
    let e4 : at + 4 ≡ suc (suc (suc (suc at))) = omega arith in
    let e5 : at + 5 ≡ suc (suc (suc (suc (suc at)))) = omega arith in
    rw (e1, e2, e3, e4, e5, c.from.ensures, c.from-2.ensures, c.from-3.ensures)
