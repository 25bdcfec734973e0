-- `stuffing::next_key` meets its contract: of the keys passed none lies between, and it is one of them or never. Assumes nothing.
use Rattle.std.proofs.Common.{◌≡◌, ℕ, ◌+◌, ◌-◌, ◌%◌, ◌<◌, ◌≤◌, min, ◌⊎◌, List, get_or, inl, inr, arith, take}
use Rattle.std.proofs.lemmas.List.{get_or-take}
use native.Mathlib.Decide.{dec_lt, ℕ_discrete as dec_eq}
use Rattle.lists.specs.Lists.{never}
use Rattle.stuffing.specs.Fit.{NextKey}
use Rattle.stuffing.proofs.next_key.Goals as goal

-- `over` is what key m lies past after + 1, where it lies past after
one_more : (keys : List ℕ) (m after best over r : ℕ) → NextKey keys m after (after + 1 + best) → after + 1 + best ≤ never → over < 4294967296
    → (over + (after + 1)) % 4294967296 ≡ get_or keys m 0 → r ≡ min over best → NextKey keys (m + 1) after (after + 1 + r)
one_more keys m after best over r o h p q e = record { past = omega arith; least = λ i l k. at i l k (dec_eq i m); one = is (dec_lt over best) o.one }
  where
    at : (i : ℕ) → i < m + 1 → after < get_or keys i 0 → Dec (i ≡ m) → after + 1 + r ≤ get_or keys i 0
    at i l k (yes z) = let y : after < get_or keys m 0 = rw z at k in rw z (omega arith)
    at i l k (no z) = omega (arith, o.least i (omega arith) k)

    is : Dec (over < best) → (after + 1 + best ≡ never) ⊎ ((i : ℕ) × (i < m) × (get_or keys i 0 ≡ after + 1 + best))
        → (after + 1 + r ≡ never) ⊎ ((i : ℕ) × (i < m + 1) × (get_or keys i 0 ≡ after + 1 + r))
    is (yes l) b = inr (m, omega arith, omega arith)
    is (no l) (inl b) = inl (omega arith)
    is (no l) (inr b) = inr (b.0, omega (arith, b.1), omega (arith, b.2))

pub loop-key-init : goal.loop-key-init
loop-key-init c = (omega arith, record { past = omega arith; least = λ i h. absurd (omega arith); one = inl (omega arith) })

pub loop-key-preserved : goal.loop-key-preserved
loop-key-preserved c =
    let l = c.loop-key in
    let over = (get_or (take c.args.m c.args.keys.now) l.key-index 0 + (4294967296 - (c.args.after + 1))) % 4294967296 in
    let h : get_or c.args.keys.now l.key-index 0 < 4294967296 = c.fits-keys l.key-index in
    let same : get_or (take c.args.m c.args.keys.now) l.key-index 0 ≡ get_or c.args.keys.now l.key-index 0 = get_or-take c.args.m _ l.key-index 0 (omega arith) in
    (omega arith, one_more _ l.key-index _ l.best over c.min-best.result l.invariant.1 l.invariant.0 (omega arith) (omega arith) (omega arith))

pub returns-then-best-from : goal.returns-then-best-from
returns-then-best-from c =
    let e : c.loop-key.key-index ≡ c.args.m = omega arith in
    (omega arith, rw (← e) c.loop-key.invariant.1)

pub returns-else-best-from : goal.returns-else-best-from
returns-else-best-from c =
    let e : c.loop-key.key-index ≡ c.args.m = omega arith in
    let z : c.args.after + 1 + c.loop-key.best ≡ never = omega arith in
    rw (← e, ← z) c.loop-key.invariant.1
