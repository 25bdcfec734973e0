-- `demo::put_across` meets its contract: one mark more each turn. Assumes nothing.
use Prim.Native.Nat.{ℕ, ◌+◌}
use mathlib.Core.Path.{◌≡◌, refl, ap, ◌∙◌}
use native.Mathlib.Omega.{arith}
use lib.ListN.{length-set}
use Rattle.lists.specs.Lists.{index_of}
use Rattle.tasks.specs.Tasks.{holds}
use Rattle.demo.specs.Picture.{mark}
use Rattle.demo.proofs.Drawing.{draw-none, draw-one}
use Rattle.demo.proofs.put_across.Goals as goal

pub loop-i-init : goal.loop-i-init
loop-i-init c = (refl, draw-none _ _ _)

pub loop-i-preserved : goal.loop-i-preserved
loop-i-preserved c =
    let l = c.loop-i in
    let a = c.args in
    let square : ℕ → ℕ = λ k. mark (index_of (holds a.tick k) a.tasks.now) in
    let next : l.i + 1 ≡ 1 + l.i = omega arith in
    (simp length-set l.invariant.0, draw-one square a.line.now l.line a.at l.i l.invariant.1 (c.mark_at.ensures ∙ ap square next))
