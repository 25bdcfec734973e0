-- `words::next_set` meets its contract: the columns passed are clear. Assumes nothing.
use Prim.Native.Nat.{◌+◌, ◌*◌}
use mathlib.Core.Path.{◌≡◌, ap, ◌∙◌}
use native.Mathlib.Omega.{arith}
use Rattle.words.specs.Words.{column}
use Rattle.words.proofs.Columns.{passed, column-at}
use borrow.Author.Rules.{rules}
use Rattle.words.proofs.next_set.Goals as goal

pub loop-i-init : goal.loop-i-init
loop-i-init c = (search rules, search rules, search rules, λ d l m. absurd (omega arith))

pub returns-then-j-lt64 : goal.returns-then-j-lt64
returns-then-j-lt64 c =
    let l = c.loop-i in
    let a = c.args in
    let u = c.next_in-j.ensures in
    let r = c.next_in-j.result in
    let e : l.i * 64 + r + 1 ≡ l.i * 64 + 1 + r = omega arith in
    record {
      low = omega (arith, u.low);
      high = omega arith;
      before = passed a.words a.from l.i l.k r l.invariant.3 u;
      here = λ h. ap (column a.words) e ∙ column-at a.words l.i r (omega arith) ∙ u.here (omega arith);
    }

pub loop-i-preserved : goal.loop-i-preserved
loop-i-preserved c =
    let l = c.loop-i in
    let a = c.args in
    let u = c.next_in-j.ensures in (
      search rules,
      search rules,
      omega (arith, u.low, u.high),
      λ d p q. passed a.words a.from l.i l.k c.next_in-j.result l.invariant.3 u d p (omega (arith, u.high)),
    )

pub returns : goal.returns
returns c =
    let l = c.loop-i in
    record { low = search rules; high = search rules; before = λ d p q. l.invariant.3 d p (omega arith); here = λ h. absurd (omega arith) }
