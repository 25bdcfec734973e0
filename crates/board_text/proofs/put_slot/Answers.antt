-- `board_text::put_slot` meets its contract: a slot that is not live has no row. Assumes nothing.
use Prim.Native.Nat.{◌+◌}
use mathlib.Core.Path.{◌≡◌, refl, sym, ◌∙◌}
use mathlib.Core.Bool.{true, false}
use native.Mathlib.Omega.{arith}
use Rattle.tasks.specs.Tasks.{live}
use Rattle.board_text.proofs.put_slot.Goals as goal

pub returns-then-is_live : goal.returns-then-is_live
returns-then-is_live c =
    let p = c.put_task.ensures in
    let yes : live c.args.k ≡ true = sym c.is_live.ensures ∙ c.if-is_live.true in
    record {
      put = rw yes p.put;
      upper_bound = p.upper_bound;
    }

pub returns-else-is_live : goal.returns-else-is_live
returns-else-is_live c =
    let a = c.args in
    let z : a.at ≡ a.at + 0 = omega arith in
    let no : live a.k ≡ false = sym c.is_live.ensures ∙ c.if-is_live.false in
    record {
      put = rw no (record { stored = refl; place = z });
      upper_bound = omega arith;
    }
