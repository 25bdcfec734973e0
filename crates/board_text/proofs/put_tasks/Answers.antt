-- `board_text::put_tasks` meets its contract: one slot more each turn. Assumes nothing.
use mathlib.Core.Path.{◌≡◌}
use native.Mathlib.Omega.{arith}
use lib.ListN.{length}
use lib.Seq.{take_all}
use Rattle.board_text.proofs.Slots.{slots-none, slots-more}
use borrow.Author.Rules.{rules}
use Rattle.board_text.proofs.put_tasks.Goals as goal

pub loop-i-init : goal.loop-i-init
loop-i-init c =
    let tasks-size : length c.args.tasks ≡ 64 = search rules in
    let shown-size : length c.args.shown ≡ 64 = search rules in
    (tasks-size, shown-size, omega arith, slots-none _ _ 1 c.args.tasks c.args.shown)

pub loop-i-preserved : goal.loop-i-preserved
loop-i-preserved c =
    let l = c.loop-i in
    let a = c.args in
    let p = c.put_slot-place.ensures in
    (l.invariant.0, l.invariant.1, omega arith, slots-more a.tasks a.shown l.i (omega arith) (omega arith) l.invariant.3 p.put)

pub returns : goal.returns
returns c =
    let l = c.loop-i in
    let a = c.args in
    record {
      put = rw (take_all l.i a.tasks (omega arith), take_all l.i a.shown (omega arith)) at l.invariant.3;
      upper_bound = omega arith;
    }
