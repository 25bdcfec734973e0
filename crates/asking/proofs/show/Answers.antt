-- `asking::show` meets its contract. Assumes nothing.
use Prim.Native.Nat.{◌-◌}
use mathlib.Core.Path.{◌≡◌, ap, ap₂}
use native.Mathlib.Omega.{arith}
use lib.ListN.{take}
use Rattle.asking.specs.Asking.{replied}
use Rattle.asking.proofs.Copies.{said-as}
use Rattle.asking.proofs.show.Goals as goal

pub returns : goal.returns
returns c =
    let n : c.args.n - 0 ≡ c.args.n = omega arith in
    let all = said-as c.args.out.now (ap₂ replied c.unsound-number.ensures (ap (λ k. take k c.args.rows) n)) (c.reply.ensures.value, c.reply.ensures.out_after) in
    record { value = all.0; out_after = all.1 }
