-- `held::next_change` meets its contract: of the tasks passed none comes into the stay before it, and the next finish bounds it. Assumes nothing.
use Rattle.std.proofs.Common.{◌≡◌, ℕ, ◌+◌, ◌-◌, ◌%◌, ◌<◌, ◌≤◌, min, List, arith}
use native.Mathlib.Decide.{dec_lt, ℕ_discrete as dec_eq}
use Rattle.lists.specs.Lists.{never}
use Rattle.live.specs.Live.{from_at, finish_at, Falling, After, NextFinish}
use Rattle.held.specs.Held.{Unchanged}
use Rattle.held.proofs.next_change.Invariants.{Comes}
use Rattle.held.proofs.next_change.Goals as goal

-- `comes` is what the start lies past t + e, where it comes after
one_more : (live : List ℕ) (n t e best comes r : ℕ) → Comes live n t e (t + 1 + best)
    → comes < 4294967296 → (comes + (t + e)) % 4294967296 ≡ from_at live n → t + e ≤ 4000000000 → r ≡ min comes best → Comes live (n + 1) t e (t + 1 + r)
unfolding Comes
one_more live n t e best comes r o u v b h = λ i l k. come i l k (dec_eq i n)
  where
    come : (i : ℕ) → i < n + 1 → t + e ≤ from_at live i → Dec (i ≡ n) → t + 1 + r + e ≤ from_at live i + 1
    come i l k (yes z) = let y : t + e ≤ from_at live n = rw z at k in rw z (omega arith)
    come i l k (no z) = omega (arith, o i (omega arith) k)

-- a task that has finished is not asked
all-tasks : (live : List ℕ) (n t e before next r : ℕ) → Comes live n t e before → t < before → t < never → r ≡ min before next
    → ((count u : ℕ) → Falling count live → After live count u n → u < never → NextFinish live count u next)
    → (count : ℕ) → Falling count live → After live count t n → Unchanged live count t e r
unfolding Comes
all-tasks live n t e before next r c p b m f count g a =
    let x : NextFinish live count t next = f count t g a b in
    record { after = omega (arith, x.after); finishes = λ i h k. omega (arith, x.least i h k); starts = λ i h y k. go i h y k (dec_lt i n) }
  where
    go : (i : ℕ) → i < count → t < finish_at live i → t + e ≤ from_at live i → Dec (i < n) → r + e ≤ from_at live i + 1
    go i h y k (yes z) = omega (arith, c i z k)
    go i h y k (no z) = absurd (omega (arith, a.ended i (omega arith) h))

pub loop-i-init : goal.loop-i-init
unfolding Comes
loop-i-init c = (omega arith, λ j h. absurd (omega arith))

pub loop-i-preserved : goal.loop-i-preserved
loop-i-preserved c =
    let l = c.loop-i in
    let start : from_at c.args.live.now l.i < 4294967296 = c.fits-live _ in
    let comes = (from_at c.args.live.now l.i + (4294967296 - (c.args.t + c.args.e))) % 4294967296 in
    (omega arith, one_more _ l.i _ _ l.best comes c.min-best.result l.invariant.1 (omega arith) (omega arith) (omega arith) (omega arith))

pub returns : goal.returns
returns c =
    let l = c.loop-i in
    let a = c.args in
    let e : l.i ≡ a.n = omega arith in
    all-tasks _ _ _ _ _ _ _ (rw e at l.invariant.1) (omega arith) (omega arith) c.min.ensures c.next_finish.ensures
