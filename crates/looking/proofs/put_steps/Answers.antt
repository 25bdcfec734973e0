-- `looking::put_steps` meets its contract: one opening more each turn, a step further. Assumes nothing.
use Prim.Native.Nat.{◌+◌, ◌≤◌}
use mathlib.Core.Path.{◌≡◌, refl, sym, ap, ap₂, ◌∙◌}
use native.Mathlib.Nat.{add-mul, one-mul}
use native.Mathlib.Omega.{arith}
use lib.ListN.{length, set, length-set}
use lib.Seq.{sets}
use Rattle.planners.specs.Lent.{run_at}
use Rattle.planners.specs.Openings.{pair_numbers}
use Rattle.looking.proofs.Runs.{put-none, put_one, same-steps, fewer-steps, step_fits}
use borrow.Author.Rules.{rules}
use Rattle.looking.proofs.put_steps.Goals as goal

pub loop-c-init : goal.loop-c-init
loop-c-init c = (0, omega arith, omega arith, omega (arith, c.requires.0.1), refl, put-none _ _ _ _ _)

pub offset_bounds-buffer-i : goal.offset_bounds-buffer-i
offset_bounds-buffer-i c =
    let more : let l = c.loop-c in let a = c.args in (l.i + 2 ≤ length l.buffer) × (l.c + a.step ≤ a.to) = let l = c.loop-c in
    let a = c.args in
    let n = l.invariant.0 in
    let k = c.requires.0.0 in
    let h = fewer-steps a.step a.from n k (omega (arith, l.invariant.2, c.requires.0.1)) in
    (omega (arith, l.invariant.1, l.invariant.4, c.requires.0.2), omega (arith, l.invariant.2, c.requires.0.1, step_fits a.step a.from n k h)) in
    let m = more.0 in search rules

pub bounds-buffer-i : goal.bounds-buffer-i
bounds-buffer-i c =
    let more : let l = c.loop-c in let a = c.args in (l.i + 2 ≤ length l.buffer) × (l.c + a.step ≤ a.to) = let l = c.loop-c in
    let a = c.args in
    let n = l.invariant.0 in
    let k = c.requires.0.0 in
    let h = fewer-steps a.step a.from n k (omega (arith, l.invariant.2, c.requires.0.1)) in
    (omega (arith, l.invariant.1, l.invariant.4, c.requires.0.2), omega (arith, l.invariant.2, c.requires.0.1, step_fits a.step a.from n k h)) in
    omega (arith, more.0)

pub overflow_add-buffer : goal.overflow_add-buffer
overflow_add-buffer c =
    let more : let l = c.loop-c in let a = c.args in (l.i + 2 ≤ length l.buffer) × (l.c + a.step ≤ a.to) = let l = c.loop-c in
    let a = c.args in
    let n = l.invariant.0 in
    let k = c.requires.0.0 in
    let h = fewer-steps a.step a.from n k (omega (arith, l.invariant.2, c.requires.0.1)) in
    (omega (arith, l.invariant.1, l.invariant.4, c.requires.0.2), omega (arith, l.invariant.2, c.requires.0.1, step_fits a.step a.from n k h)) in
    let m = more.0 in search rules

pub offset_bounds-buffer-i-in-loop-c : goal.offset_bounds-buffer-i-in-loop-c
offset_bounds-buffer-i-in-loop-c c =
    let more : let l = c.loop-c in let a = c.args in (l.i + 2 ≤ length l.buffer) × (l.c + a.step ≤ a.to) = let l = c.loop-c in
    let a = c.args in
    let n = l.invariant.0 in
    let k = c.requires.0.0 in
    let h = fewer-steps a.step a.from n k (omega (arith, l.invariant.2, c.requires.0.1)) in
    (omega (arith, l.invariant.1, l.invariant.4, c.requires.0.2), omega (arith, l.invariant.2, c.requires.0.1, step_fits a.step a.from n k h)) in
    let m = more.0 in search rules

pub bounds-buffer-i-in-loop-c : goal.bounds-buffer-i-in-loop-c
bounds-buffer-i-in-loop-c c =
    let more : let l = c.loop-c in let a = c.args in (l.i + 2 ≤ length l.buffer) × (l.c + a.step ≤ a.to) = let l = c.loop-c in
    let a = c.args in
    let n = l.invariant.0 in
    let k = c.requires.0.0 in
    let h = fewer-steps a.step a.from n k (omega (arith, l.invariant.2, c.requires.0.1)) in
    (omega (arith, l.invariant.1, l.invariant.4, c.requires.0.2), omega (arith, l.invariant.2, c.requires.0.1, step_fits a.step a.from n k h)) in
    simp length-set (omega (arith, more.0))

pub overflow_add-i : goal.overflow_add-i
overflow_add-i c =
    let more : let l = c.loop-c in let a = c.args in (l.i + 2 ≤ length l.buffer) × (l.c + a.step ≤ a.to) = let l = c.loop-c in
    let a = c.args in
    let n = l.invariant.0 in
    let k = c.requires.0.0 in
    let h = fewer-steps a.step a.from n k (omega (arith, l.invariant.2, c.requires.0.1)) in
    (omega (arith, l.invariant.1, l.invariant.4, c.requires.0.2), omega (arith, l.invariant.2, c.requires.0.1, step_fits a.step a.from n k h)) in
    let m = more.0 in search rules

pub overflow_add-c : goal.overflow_add-c
overflow_add-c c =
    let more : let l = c.loop-c in let a = c.args in (l.i + 2 ≤ length l.buffer) × (l.c + a.step ≤ a.to) = let l = c.loop-c in
    let a = c.args in
    let n = l.invariant.0 in
    let k = c.requires.0.0 in
    let h = fewer-steps a.step a.from n k (omega (arith, l.invariant.2, c.requires.0.1)) in
    (omega (arith, l.invariant.1, l.invariant.4, c.requires.0.2), omega (arith, l.invariant.2, c.requires.0.1, step_fits a.step a.from n k h)) in
    let m = more.1 in search rules

pub loop-c-smaller : goal.loop-c-smaller
loop-c-smaller c =
    let more : let l = c.loop-c in let a = c.args in (l.i + 2 ≤ length l.buffer) × (l.c + a.step ≤ a.to) = let l = c.loop-c in
    let a = c.args in
    let n = l.invariant.0 in
    let k = c.requires.0.0 in
    let h = fewer-steps a.step a.from n k (omega (arith, l.invariant.2, c.requires.0.1)) in
    (omega (arith, l.invariant.1, l.invariant.4, c.requires.0.2), omega (arith, l.invariant.2, c.requires.0.1, step_fits a.step a.from n k h)) in
    omega (arith, more.1, c.requires.1)

pub loop-c-preserved : goal.loop-c-preserved
loop-c-preserved c =
    let more : let l = c.loop-c in let a = c.args in (l.i + 2 ≤ length l.buffer) × (l.c + a.step ≤ a.to) = let l = c.loop-c in
    let a = c.args in
    let n = l.invariant.0 in
    let k = c.requires.0.0 in
    let h = fewer-steps a.step a.from n k (omega (arith, l.invariant.2, c.requires.0.1)) in
    (omega (arith, l.invariant.1, l.invariant.4, c.requires.0.2), omega (arith, l.invariant.2, c.requires.0.1, step_fits a.step a.from n k h)) in
    let l = c.loop-c in
    let a = c.args in
    let n = l.invariant.0 in (
      n + 1,
      omega (arith, l.invariant.1),
      omega (arith, l.invariant.2, add-mul n 1 a.step, one-mul a.step),
      more.1,
      simp length-set l.invariant.4,
      ap₂ (λ k x. set (set l.buffer k a.t) (k + 1) x) l.invariant.1 l.invariant.2 ∙ put_one a.buffer.now l.buffer a.at a.t a.step a.from n l.invariant.5,
    )

pub returns : goal.returns
returns c k e =
    let l = c.loop-c in
    let a = c.args in
    let n = l.invariant.0 in
    let z : n ≡ k = same-steps a.step a.from n k c.requires.1 (let t : l.c ≡ a.to = omega (arith, l.invariant.3) in sym l.invariant.2 ∙ t ∙ e) in
    (omega (arith, l.invariant.1, z), l.invariant.5 ∙ ap (λ m. sets a.buffer.now a.at (pair_numbers (run_at a.t a.step a.from m))) z)
