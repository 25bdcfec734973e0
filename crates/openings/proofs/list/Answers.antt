-- `openings::list` meets its contract: at each pair of the walk, all that comes after it is still to be written. Assumes nothing.
use Prim.Native.Nat.{◌+◌, ◌-◌, ◌/◌, ◌≤◌}
use mathlib.Core.Path.{refl}
use mathlib.Core.List.{[]}
use native.Mathlib.Omega.{arith}
use lib.ListN.{length}
use Rattle.looking.specs.Looking.{Stopped}
use Rattle.held.proofs.Free.{run_end}
use Rattle.openings.proofs.Writing.{same-room}
use Rattle.openings.proofs.Listing.{further, steps_on, later-tick, next-later, grid-fits, run-steps}
use Rattle.openings.proofs.Listing.{list-late, list-begin, list-live, list-run, list_full, list_done, list-next, list-after, list-fresh}
use borrow.Author.Rules.{rules}
use mir.Syntax.{w64}
use mir.Val.{Fits}
use Rattle.openings.proofs.list.Goals as goal

pub from_column-column-requires : goal.from_column-column-requires
from_column-column-requires c =
    let step_fits : (1 ≤ c.args.grid) × (c.args.grid ≤ c.args.q.w) × (c.args.q.w ≤ 256) = (c.requires.2.step, grid-fits _ _ _ _ 0 0 [] c.requires.0.device c.requires.1 c.requires.2, omega (arith, c.requires.1.columns, c.requires.0.device.wide)) in
    let k = step_fits in
    (c.requires.0.device.wide, k.0, omega arith)

pub returns-then-last-t : goal.returns-then-last-t
returns-then-last-t c =
    let all = list-late _ _ _ _ _ _ _ c.requires.0.device c.requires.1 c.requires.2 (c.from_tick-t.ensures, c.from_column-column.ensures) (omega arith) in
    record { value = all.0; buffer_after = all.1 }

pub walk-init : goal.walk-init
walk-init c =
    let a = c.args in
    let f = c.after-live_now.ensures in
    let h = c.held_words-words.ensures a.count c.requires.0 f in
    let u = c.next_change-until.ensures a.count c.requires.0.falling f in
    (refl, list-begin _ _ _ _ _ _ _ c.requires.0.device c.requires.1 c.requires.2 (c.from_tick-t.ensures, c.from_column-column.ensures) (omega arith) _ _ h f u)

pub next_set-set-requires : goal.next_set-set-requires
next_set-set-requires c =
    let g = c.in-Some.ensures in
    (omega arith, omega (arith, g.clear.fits))

pub overflow_sub-set : goal.overflow_sub-set
overflow_sub-set c =
    let run_fits : c.in-Some.first + c.args.q.w ≤ c.next_set-set.result = run_end c.in-Some.ensures c.next_set-set.ensures in
    omega (arith, run_fits)

pub overflow_add-set : goal.overflow_add-set
overflow_add-set c =
    let step_fits : (1 ≤ c.args.grid) × (c.args.grid ≤ c.args.q.w) × (c.args.q.w ≤ 256) = (c.requires.2.step, grid-fits _ _ _ _ 0 0 [] c.requires.0.device c.requires.1 c.requires.2, omega (arith, c.requires.1.columns, c.requires.0.device.wide)) in
    let k = step_fits in search rules

pub stop-to-requires : goal.stop-to-requires
stop-to-requires c =
    let run_fits : c.in-Some.first + c.args.q.w ≤ c.next_set-set.result = run_end c.in-Some.ensures c.next_set-set.ensures in
    let step_fits : (1 ≤ c.args.grid) × (c.args.grid ≤ c.args.q.w) × (c.args.q.w ≤ 256) = (c.requires.2.step, grid-fits _ _ _ _ 0 0 [] c.requires.0.device c.requires.1 c.requires.2, omega (arith, c.requires.1.columns, c.requires.0.device.wide)) in
    let k = step_fits in
    let g = c.in-Some.ensures.after in
    let e = run_fits in
    let h = c.next_set-set.ensures.high in
    (k.0, omega arith, omega arith, omega arith, omega (arith, c.walk.invariant.1.within), omega arith)

pub overflow_mul-n : goal.overflow_mul-n
overflow_mul-n c =
    let buffer-fits : Fits w64 (length c.args.buffer.now) = search rules in
    omega (arith, c.walk.invariant.0, buffer-fits)

pub put_run-n-requires : goal.put_run-n-requires
put_run-n-requires c =
    let step_fits : (1 ≤ c.args.grid) × (c.args.grid ≤ c.args.q.w) × (c.args.q.w ≤ 256) = (c.requires.2.step, grid-fits _ _ _ _ 0 0 [] c.requires.0.device c.requires.1 c.requires.2, omega (arith, c.requires.1.columns, c.requires.0.device.wide)) in
    let run_fits : c.in-Some.first + c.args.q.w ≤ c.next_set-set.result = run_end c.in-Some.ensures c.next_set-set.ensures in
    let stopped : let a = c.args in
    Stopped c.in-Some.first (c.next_set-set.result - a.q.w + a.grid) (length a.buffer.now / 2 - c.walk.n) a.grid c.stop-to.result = c.stop-to.ensures _ (run-steps _ _ _ _ _ _ _ c.requires.0.device c.requires.1 c.requires.2 c.walk.invariant.1 c.in-Some.ensures c.next_set-set.ensures run_fits) in
    let k = step_fits in
    let r = stopped in
    ((r.count, r.is, omega (arith, r.fits, same-room c.walk.invariant.1.written)), k.0, omega (arith, r.high, c.next_set-set.ensures.high))

pub overflow_sub-column : goal.overflow_sub-column
overflow_sub-column c =
    let run_fits : c.in-Some.first + c.args.q.w ≤ c.next_set-set.result = run_end c.in-Some.ensures c.next_set-set.ensures in
    let stopped : let a = c.args in
    Stopped c.in-Some.first (c.next_set-set.result - a.q.w + a.grid) (length a.buffer.now / 2 - c.walk.n) a.grid c.stop-to.result = c.stop-to.ensures _ (run-steps _ _ _ _ _ _ _ c.requires.0.device c.requires.1 c.requires.2 c.walk.invariant.1 c.in-Some.ensures c.next_set-set.ensures run_fits) in
    let r = stopped in omega (arith, r.is, c.in-Some.ensures.after)

pub walk-smaller-in-Some : goal.walk-smaller-in-Some
walk-smaller-in-Some c =
    let step_fits : (1 ≤ c.args.grid) × (c.args.grid ≤ c.args.q.w) × (c.args.q.w ≤ 256) = (c.requires.2.step, grid-fits _ _ _ _ 0 0 [] c.requires.0.device c.requires.1 c.requires.2, omega (arith, c.requires.1.columns, c.requires.0.device.wide)) in
    let run_fits : c.in-Some.first + c.args.q.w ≤ c.next_set-set.result = run_end c.in-Some.ensures c.next_set-set.ensures in
    let stopped : let a = c.args in
    Stopped c.in-Some.first (c.next_set-set.result - a.q.w + a.grid) (length a.buffer.now / 2 - c.walk.n) a.grid c.stop-to.result = c.stop-to.ensures _ (run-steps _ _ _ _ _ _ _ c.requires.0.device c.requires.1 c.requires.2 c.walk.invariant.1 c.in-Some.ensures c.next_set-set.ensures run_fits) in
    let k = step_fits in
    let r = stopped in
    let g = c.in-Some.ensures in
    further _ _ _ _ (omega (arith, steps_on r.some k.0, r.is, g.after)) (omega (arith, r.high, c.next_set-set.ensures.high))

pub walk-preserved-in-Some : goal.walk-preserved-in-Some
walk-preserved-in-Some c =
    let run_fits : c.in-Some.first + c.args.q.w ≤ c.next_set-set.result = run_end c.in-Some.ensures c.next_set-set.ensures in
    let stopped : let a = c.args in
    Stopped c.in-Some.first (c.next_set-set.result - a.q.w + a.grid) (length a.buffer.now / 2 - c.walk.n) a.grid c.stop-to.result = c.stop-to.ensures _ (run-steps _ _ _ _ _ _ _ c.requires.0.device c.requires.1 c.requires.2 c.walk.invariant.1 c.in-Some.ensures c.next_set-set.ensures run_fits) in
    let r = stopped in
    let put = c.put_run-n.ensures r.count r.is in (
      c.walk.invariant.0,
      list-run _ _ _ _ _ _ _ c.requires.0.device c.requires.1 c.requires.2 c.walk.invariant.1 c.in-Some.ensures c.next_set-set.ensures run_fits r
          put.1 (omega (arith, put.0)) (omega (arith, put.0, r.fits)),
    )

pub held_words-words-requires-then-until-t : goal.held_words-words-requires-then-until-t
held_words-words-requires-then-until-t c =
    (omega (arith, c.after-live_now-then-until-t.ensures.few), c.requires.0.device.wide, c.requires.1.long, omega (arith, c.requires.1.until, c.if-last-next.false), c.edge-edge.ensures)

pub next_change-until-requires-then-until-t : goal.next_change-until-requires-then-until-t
next_change-until-requires-then-until-t c =
    (omega (arith, c.after-live_now-then-until-t.ensures.few), c.requires.1.long, omega (arith, c.requires.1.until, c.if-last-next.false))

pub walk-smaller-then-until-t : goal.walk-smaller-then-until-t
walk-smaller-then-until-t c =
    let a = c.args in
    let f = list-live _ _ _ _ _ _ _ c.requires.0.device c.requires.1 c.requires.2 c.walk.invariant.1 in
    later-tick _ _ _ _ (next-later (c.next_tick-next.ensures a.count c.requires.0.falling f)) (omega arith)

pub walk-preserved-then-until-t : goal.walk-preserved-then-until-t
walk-preserved-then-until-t c =
    let a = c.args in
    let m = c.walk.invariant.1 in
    let f = list-live _ _ _ _ _ _ _ c.requires.0.device c.requires.1 c.requires.2 m in
    let u = c.next_tick-next.ensures a.count c.requires.0.falling f in
    let g = c.in_default.ensures in
    let k = list-after _ _ _ _ _ _ _ c.requires.0.device c.requires.1 c.requires.2 m u c.after-live_now-then-until-t.ensures in
    let h = c.held_words-words-then-until-t.ensures a.count c.requires.0 k in
    let v = c.next_change-until-then-until-t.ensures a.count c.requires.0.falling k in
    let end = c.if-last-next.false in
    (c.walk.invariant.0, list-fresh _ _ _ _ _ _ _ c.requires.0.device c.requires.1 c.requires.2 m g u (omega (arith, c.requires.1.in-time, end)) k _ _ h v)

pub walk-smaller : goal.walk-smaller
walk-smaller c =
    let a = c.args in
    let f = list-live _ _ _ _ _ _ _ c.requires.0.device c.requires.1 c.requires.2 c.walk.invariant.1 in
    later-tick _ _ _ _ (next-later (c.next_tick-next.ensures a.count c.requires.0.falling f)) (omega arith)

pub walk-preserved : goal.walk-preserved
walk-preserved c =
    let a = c.args in
    let m = c.walk.invariant.1 in
    let f = list-live _ _ _ _ _ _ _ c.requires.0.device c.requires.1 c.requires.2 m in
    let u = c.next_tick-next.ensures a.count c.requires.0.falling f in
    (c.walk.invariant.0, list-next _ _ _ _ _ _ _ c.requires.0.device c.requires.1 c.requires.2 m c.in_default.ensures u (omega (arith, c.requires.1.in-time)) (omega arith))

pub shape_of-buffer-then-room-n : goal.shape_of-buffer-then-room-n
shape_of-buffer-then-room-n c = same-room c.walk.invariant.1.written

pub returns-then-room-n : goal.returns-then-room-n
returns-then-room-n c =
    let all = list_full _ _ _ _ _ _ _ c.requires.0.device c.requires.1 c.requires.2 c.walk.invariant.1 c.in-Some.ensures (omega (arith, c.walk.invariant.0)) in
    record { value = all.0; buffer_after = all.1 }

pub shape_of-buffer-then-last-next : goal.shape_of-buffer-then-last-next
shape_of-buffer-then-last-next c = same-room c.walk.invariant.1.written

pub returns-then-last-next : goal.returns-then-last-next
returns-then-last-next c =
    let a = c.args in
    let m = c.walk.invariant.1 in
    let f = list-live _ _ _ _ _ _ _ c.requires.0.device c.requires.1 c.requires.2 m in
    let u = c.next_tick-next.ensures a.count c.requires.0.falling f in
    let all = list_done _ _ _ _ _ _ _ c.requires.0.device c.requires.1 c.requires.2 m c.in_default.ensures u (omega arith) in
    record { value = all.0; buffer_after = all.1 }
