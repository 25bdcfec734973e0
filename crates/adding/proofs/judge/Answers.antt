-- `adding::judge` meets its contract: four ways. Assumes nothing.
use mathlib.Core.Path.{refl, sym, ap}
use native.Mathlib.Omega.{arith}
use borrow.Author.Tests.{not-true, not-false}
use Rattle.adding.proofs.Judging.{judged-unlike, judged-row, judged-past, judged-added}
use Rattle.adding.proofs.judge.Goals as goal

pub returns-then-not-is_whole : goal.returns-then-not-is_whole
returns-then-not-is_whole c =
    let a = c.args in
    let all = judged-unlike a.total.now a.line a.some a.text.now c.read_figures-figures.result c.read_figures-figures.ensures c.is_whole.ensures
    c.if-not-is_whole.true c.wrong_line.ensures c.nothing_held.ensures in
    record { value = all.0; total_after = all.1 }

pub returns-in-Some : goal.returns-in-Some
returns-in-Some c =
    let a = c.args in
    let bad = c.in-Some.ensures.some in
    let all = judged-row a.total.now a.line a.some a.text.now c.read_figures-figures.result c.read_figures-figures.ensures c.is_whole.ensures
    c.if-not-is_whole.false bad.1 (λ e. omega (arith, bad.0)) c.later_line.ensures c.nothing_held-in-Some.ensures in
    record { value = all.0; total_after = all.1 }

pub returns-then-not-sums : goal.returns-then-not-sums
returns-then-not-sums c =
    let a = c.args in
    let all = judged-past a.total.now a.line a.some a.text.now c.read_figures-figures.result c.read_figures-figures.ensures c.is_whole.ensures
    c.if-not-is_whole.false (sym c.in_default.ensures.none) refl c.add-sums.result.fit c.add-sums.result.figures (ap (λ s. s.fit) c.add-sums.ensures)
    (ap (λ s. s.figures) c.add-sums.ensures) (not-true _ c.if-not-sums.true) c.nothing_held-then-not-sums.ensures in
    record { value = all.0; total_after = all.1 }

pub returns : goal.returns
returns c =
    let a = c.args in
    let all = judged-added a.total.now a.line a.some a.text.now c.read_figures-figures.result c.read_figures-figures.ensures c.is_whole.ensures
    c.if-not-is_whole.false (sym c.in_default.ensures.none) refl c.add-sums.result.fit c.add-sums.result.figures (ap (λ s. s.fit) c.add-sums.ensures)
    (ap (λ s. s.figures) c.add-sums.ensures) (not-false _ c.if-not-sums.false) c.later_line-2.ensures c.nothing_held-2.ensures in
    record { value = all.0; total_after = all.1 }
