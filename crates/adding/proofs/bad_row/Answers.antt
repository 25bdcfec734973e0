-- `adding::bad_row` meets its contract: one row more each turn. Assumes nothing.
use mathlib.Core.Path.{◌≡◌, sym, ◌∙◌}
use native.Mathlib.Omega.{arith}
use Rattle.adding.proofs.Judging.{rows_more, rows-bad, rows_all}
use Rattle.adding.proofs.bad_row.Goals as goal

pub returns-then-not-adds_up-clause-some : goal.returns-then-not-adds_up-clause-some
returns-then-not-adds_up-clause-some c =
    (omega arith, rows-bad _ (omega arith) (sym c.adds_up.ensures ∙ c.if-not-adds_up.true) c.loop-row.invariant)

pub loop-row-preserved : goal.loop-row-preserved
loop-row-preserved c = rows_more _ (omega arith) (sym c.adds_up.ensures ∙ c.if-not-adds_up.false) c.loop-row.invariant

pub returns-clause-none : goal.returns-clause-none
returns-clause-none c =
    let last : c.loop-row.row ≡ 16 = omega arith in
    sym (rows_all _ last c.loop-row.invariant) ∙ last
