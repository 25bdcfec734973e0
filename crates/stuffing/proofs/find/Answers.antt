-- `stuffing::find` meets its contract: the tries at a time give its first candidate, the visits give the answer. Assumes nothing.
use Rattle.std.proofs.Common.{sym, refl, ◌∙◌, arith}
use Rattle.columns.proofs.BestFit.{left-small}
use Rattle.lists.specs.Lists.{never}
use Rattle.live.specs.Live.{tasks_of}
use Rattle.live.proofs.Laws.{after_on}
use Rattle.planners.specs.Planners.{free}
use Rattle.planners.proofs.Walk.{visits-start}
use Rattle.stuffing.specs.Fit.{NextFit}
use Rattle.stuffing.proofs.Fits.{next-listed}
use Rattle.stuffing.proofs.Marks.{fewer, stretches, fit_same}
use Rattle.stuffing.proofs.Tries.{tries-start, tries-none, tries-hit, tries-on, tries-past, stuffs-hit, stuffs-none, stuffs-on}
use Rattle.stuffing.proofs.find.Goals as goal

pub visits-init : goal.visits-init
visits-init c = (visits-start _ _ _ _ _ _, omega arith, c.after-n.ensures, refl)

pub mark_held-requires : goal.mark_held-requires
mark_held-requires c = (fewer c.requires.0 c.visits.invariant.2.few, refl)

pub list_fits-m-requires : goal.list_fits-m-requires
list_fits-m-requires c =
    (c.requires.0.wide, omega arith, omega (arith, c.requires.0.wide), stretches c.requires.0 c.requires.1 c.requires.2 c.visits.invariant.2 c.mark_held.ensures, c.visits.invariant.3)

pub tries-init : goal.tries-init
tries-init c =
    tries-start _ c.args.q.clock _ _ _ c.args.q.d c.requires.0.wide _

pub next_key-requires : goal.next_key-requires
next_key-requires c = (c.list_fits-m.ensures.few, c.tries.invariant.most)

pub meets_any-requires : goal.meets_any-requires
meets_any-requires c =
    record {
      on_device = (c.requires.0, c.requires.1, c.visits.invariant.2);
      le_w = (omega arith, omega arith, omega (arith, c.requires.0.wide, left-small c.in-Some.key c.left_of-column.ensures), omega (arith, c.visits.invariant.1));
    }

pub tries-smaller : goal.tries-smaller
tries-smaller c =
    let next-fit : let a = c.args in
    NextFit (free (tasks_of a.count a.live.now) c.visits.t) a.q.width a.q.w c.tries.after c.in-Some.key = fit_same c.requires.0 c.requires.1 c.requires.2 c.visits.invariant.2 c.mark_held.ensures
    (next-listed c.list_fits-m.ensures c.in-Some.ensures.1) in
    let n = next-fit in
    omega (arith, tries-past _ c.args.q.clock _ _ _ c.args.q.d c.requires.0.wide c.tries.invariant n (λ e. omega (arith, c.in-Some.ensures.0)))

pub tries-preserved : goal.tries-preserved
tries-preserved c =
    let next-fit : let a = c.args in
    NextFit (free (tasks_of a.count a.live.now) c.visits.t) a.q.width a.q.w c.tries.after c.in-Some.key = fit_same c.requires.0 c.requires.1 c.requires.2 c.visits.invariant.2 c.mark_held.ensures
    (next-listed c.list_fits-m.ensures c.in-Some.ensures.1) in
    let n = next-fit in
    tries-on _ c.args.q.clock _ _ _ c.args.q.d c.requires.0.wide c.tries.invariant n (λ e. omega (arith, c.in-Some.ensures.0))
    c.left_of-column.ensures (sym c.meets_any.ensures ∙ c.if-meets_any.true)

pub next_finish-next-requires : goal.next_finish-next-requires
next_finish-next-requires c =
    omega (arith, c.requires.0.few, c.visits.invariant.2.few)

pub after-n-requires-in-visits : goal.after-n-requires-in-visits
after-n-requires-in-visits c =
    omega (arith, c.requires.0.few, c.visits.invariant.2.few)

pub visits-smaller : goal.visits-smaller
visits-smaller c =
    omega (arith, (c.next_finish-next.ensures _ _ c.requires.1 c.visits.invariant.2 (omega arith)).after)

pub visits-preserved : goal.visits-preserved
visits-preserved c =
    let next-fit : let a = c.args in
    NextFit (free (tasks_of a.count a.live.now) c.visits.t) a.q.width a.q.w c.tries.after never = fit_same c.requires.0 c.requires.1 c.requires.2 c.visits.invariant.2 c.mark_held.ensures
    (next-listed c.list_fits-m.ensures c.in_default.ensures) in
    let n = next-fit in
    let x = c.next_finish-next.ensures _ _ c.requires.1 c.visits.invariant.2 (omega arith) in
    let none_here = tries-none _ _ _ _ _ _ c.requires.0.wide c.tries.invariant n refl in (
      stuffs-on _ _ _ _ c.requires.0 _ _ _ c.visits.invariant.0 none_here x (omega arith) (omega arith) (omega arith),
      omega arith,
      after_on c.visits.invariant.2 (omega (arith, x.after)) c.after-n-in-visits.ensures,
      c.list_fits-m.ensures.size,
    )

pub returns-else-meets_any : goal.returns-else-meets_any
returns-else-meets_any c =
    let next-fit : let a = c.args in
    NextFit (free (tasks_of a.count a.live.now) c.visits.t) a.q.width a.q.w c.tries.after c.in-Some.key = fit_same c.requires.0 c.requires.1 c.requires.2 c.visits.invariant.2 c.mark_held.ensures
    (next-listed c.list_fits-m.ensures c.in-Some.ensures.1) in
    let n = next-fit in
    stuffs-hit _ _ _ _ c.requires.0 _ _ _ c.visits.invariant.0
    (tries-hit _ _ _ _ _ _ c.requires.0.wide c.tries.invariant n (λ e. omega (arith, c.in-Some.ensures.0))
    c.left_of-column.ensures (sym c.meets_any.ensures ∙ c.if-meets_any.false))

pub returns-then-last-next : goal.returns-then-last-next
returns-then-last-next c =
    let next-fit : let a = c.args in
    NextFit (free (tasks_of a.count a.live.now) c.visits.t) a.q.width a.q.w c.tries.after never = fit_same c.requires.0 c.requires.1 c.requires.2 c.visits.invariant.2 c.mark_held.ensures
    (next-listed c.list_fits-m.ensures c.in_default.ensures) in
    let n = next-fit in
    let x = c.next_finish-next.ensures _ _ c.requires.1 c.visits.invariant.2 (omega arith) in
    let none_here = tries-none _ _ _ _ _ _ c.requires.0.wide c.tries.invariant n refl in
    stuffs-none _ _ _ _ c.requires.0 _ _ _ c.visits.invariant.0 none_here x (omega arith) (omega arith)
