-- `live::next_finish` meets its contract: the last of the first n tasks, or none. Assumes nothing.
use mathlib.Core.Path.{◌≡◌, subst}
use native.Mathlib.Omega.{arith}
use Prim.Native.Nat.{ℕ}
use Rattle.live.specs.Live.{After}
use Rattle.live.proofs.Laws.{next-none, next_last}
use Rattle.live.proofs.next_finish.Goals as goal

pub returns-then-n-eq0 : goal.returns-then-n-eq0
returns-then-n-eq0 c = λ count t f a h.
    let z : c.args.n ≡ 0 = omega arith in
    next-none f (subst (λ (m : ℕ). After c.args.live.now count t m) z a) h

pub returns : goal.returns
returns c = λ count t f a h. next_last f a (omega arith)
