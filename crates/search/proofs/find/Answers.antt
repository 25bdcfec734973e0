-- `search::find` meets its contract: what is left from t on, openings or times visited, gives the answer. Assumes nothing.
use mathlib.Core.Path.{◌≡◌}
use native.Mathlib.Omega.{arith}
use lib.ListN.{length}
use Rattle.live.specs.Live.{tasks_of, NextFinish}
use Rattle.live.proofs.Laws.{after_on}
use Rattle.search.proofs.Fit.{Fit, fit-eroded}
use Rattle.search.proofs.Walk.{Blocked, walk-begin, walk_first, walk-edge, walk-over, walk-on, blocked-none, blocked-edges}
use borrow.Author.Rules.{rules}
use Rattle.search.proofs.find.Goals as goal
use Rattle.search.proofs.find.Goals.{then-first-lt257+else-whole+in_default, else-first-lt257}

pub walk-init : goal.walk-init
walk-init c =
    (walk-begin _ _ _ c.requires.1, c.after-n.ensures)

pub walk-smaller : goal.walk-smaller
walk-smaller c =
    let next : let a = c.args in
    NextFinish a.live.now a.count c.walk.t c.next_finish-next.result = c.next_finish-next.ensures c.args.count c.walk.t c.requires.0.falling c.walk.invariant.1
    (omega (arith, c.requires.1.until, c.walk.invariant.0.in-time)) in
    omega (arith, next.after)

pub walk-preserved : goal.walk-preserved
walk-preserved c =
    let fits : Fit c.held_words-stay.result c.args.q.w c.erode-fit.result = let i = c.inverted in
    let four : length i.result ≡ 4 = search rules in
    fit-eroded i.result four c.requires.1.wide i.ensures c.erode-fit.ensures in
    let blocked : let a = c.args in
    Blocked a.q (tasks_of a.count a.live.now) a.whole c.walk.t c.held_words-stay.result = let a = c.args in
    let k = c.walk.invariant.0 in
    let f = c.walk.invariant.1 in
    let h = c.held_words-stay.ensures a.count c.requires.0 f in
    elim c.if-first-lt257.branch [
      | then-first-lt257+else-whole+in_default w ↦
          blocked-edges _ _ _ c.requires.0.device c.requires.1 k h fits w.if-whole.false w.held_words-now.result (w.held_words-now.ensures a.count c.requires.0 f)
          w.in_default.ensures
      | else-first-lt257 w ↦ blocked-none _ _ _ c.requires.0.device c.requires.1 k h fits c.next_set-first.ensures (omega (arith, w.if-first-lt257.false))
    ] in
    let next : let a = c.args in
    NextFinish a.live.now a.count c.walk.t c.next_finish-next.result = c.next_finish-next.ensures c.args.count c.walk.t c.requires.0.falling c.walk.invariant.1
    (omega (arith, c.requires.1.until, c.walk.invariant.0.in-time)) in
    let o = c.walk.invariant in (
      walk-on _ _ _ c.requires.0.device c.requires.1 o.0 blocked next (omega arith),
      after_on o.1 (omega (arith, next.after)) c.after-n-in-walk.ensures,
    )

pub returns-then-whole : goal.returns-then-whole
returns-then-whole c =
    let fits : Fit c.held_words-stay.result c.args.q.w c.erode-fit.result = let i = c.inverted in
    let four : length i.result ≡ 4 = search rules in
    fit-eroded i.result four c.requires.1.wide i.ensures c.erode-fit.ensures in
    let o = c.walk.invariant in
    let h = c.held_words-stay.ensures c.args.count c.requires.0 o.1 in
    walk_first _ _ _ c.requires.0.device c.requires.1 o.0 h fits c.if-whole.true c.next_set-first.ensures (omega arith)

pub returns-in-Some : goal.returns-in-Some
returns-in-Some c =
    let fits : Fit c.held_words-stay.result c.args.q.w c.erode-fit.result = let i = c.inverted in
    let four : length i.result ≡ 4 = search rules in
    fit-eroded i.result four c.requires.1.wide i.ensures c.erode-fit.ensures in
    let o = c.walk.invariant in
    let h = c.held_words-stay.ensures c.args.count c.requires.0 o.1 in
    let h₁ = c.held_words-now.ensures c.args.count c.requires.0 o.1 in
    walk-edge _ _ _ c.requires.0.device c.requires.1 o.0 h fits c.if-whole.false c.held_words-now.result h₁
    c.in-Some.ensures

pub returns-then-last-next : goal.returns-then-last-next
returns-then-last-next c =
    let fits : Fit c.held_words-stay.result c.args.q.w c.erode-fit.result = let i = c.inverted in
    let four : length i.result ≡ 4 = search rules in
    fit-eroded i.result four c.requires.1.wide i.ensures c.erode-fit.ensures in
    let blocked : let a = c.args in
    Blocked a.q (tasks_of a.count a.live.now) a.whole c.walk.t c.held_words-stay.result = let a = c.args in
    let k = c.walk.invariant.0 in
    let f = c.walk.invariant.1 in
    let h = c.held_words-stay.ensures a.count c.requires.0 f in
    elim c.if-first-lt257.branch [
      | then-first-lt257+else-whole+in_default w ↦
          blocked-edges _ _ _ c.requires.0.device c.requires.1 k h fits w.if-whole.false w.held_words-now.result (w.held_words-now.ensures a.count c.requires.0 f)
          w.in_default.ensures
      | else-first-lt257 w ↦ blocked-none _ _ _ c.requires.0.device c.requires.1 k h fits c.next_set-first.ensures (omega (arith, w.if-first-lt257.false))
    ] in
    let next : let a = c.args in
    NextFinish a.live.now a.count c.walk.t c.next_finish-next.result = c.next_finish-next.ensures c.args.count c.walk.t c.requires.0.falling c.walk.invariant.1
    (omega (arith, c.requires.1.until, c.walk.invariant.0.in-time)) in
    walk-over _ _ _ c.requires.0.device c.requires.1 c.walk.invariant.0 blocked next (omega arith)
