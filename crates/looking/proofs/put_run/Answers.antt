-- `looking::put_run` meets its contract: a loop for a step of one column, and one for others. Assumes nothing.
use Prim.Native.Nat.{◌+◌, ◌*◌}
use mathlib.Core.Path.{◌≡◌, sym, ap, ◌∙◌}
use native.Mathlib.Omega.{arith}
use lib.Seq.{sets}
use Rattle.planners.specs.Lent.{run_at}
use Rattle.planners.specs.Openings.{pair_numbers}
use Rattle.looking.proofs.put_run.Goals as goal

pub put_steps-requires : goal.put_steps-requires
put_steps-requires c =
    let a = c.args in
    let k = c.requires.0 in
    let z : a.step ≡ 1 = omega (arith, c.if-step-eq1.true) in
    ((k.0, k.1 ∙ ap (λ s. a.from + k.0 * s) z, k.2), omega arith, c.requires.2)

pub returns-then-step-eq1 : goal.returns-then-step-eq1
returns-then-step-eq1 c n e =
    let a = c.args in
    let z : a.step ≡ 1 = omega (arith, c.if-step-eq1.true) in
    let put = c.put_steps.ensures n (e ∙ ap (λ s. a.from + n * s) z) in
    (put.0, put.1 ∙ ap (λ s. sets a.buffer.now a.at (pair_numbers (run_at a.t s a.from n))) (sym z))

pub put_steps-requires-2 : goal.put_steps-requires-2
put_steps-requires-2 c = c.requires

pub returns : goal.returns
returns c = c.put_steps-2.ensures
