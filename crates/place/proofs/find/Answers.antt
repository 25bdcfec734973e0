-- `place::find` meets its contract: each number asks its planner. Assumes nothing.
use Prim.Native.Nat.{ℕ, zero, suc, ◌≤◌}
use mathlib.Core.Path.{◌≡◌, refl, sym, ap, ◌∙◌}
use native.Mathlib.Omega.{arith}
use Rattle.tasks.specs.Numbers.{last_planner}
use Rattle.planners.specs.Planners.{planned}
use Rattle.planners.specs.Lent.{found_of}
use Rattle.planners.proofs.Bare.{reference-is}
use borrow.Author.Rules.{rules}
use Rattle.place.proofs.find.Goals as goal

is-three : (n : ℕ) → n ≤ last_planner → (n ≡ 0 → ⊥) → (n ≡ 1 → ⊥) → (n ≡ 2 → ⊥) → n ≡ 3
is-three zero h a b c = absurd (a refl)
is-three (suc zero) h a b c = absurd (b refl)
is-three (suc (suc zero)) h a b c = absurd (c refl)
is-three (suc (suc (suc zero))) h a b c = refl
is-three (suc (suc (suc (suc n)))) h a b c = absurd (omega arith)

pub find-requires : goal.find-requires
find-requires c =
    let l = c.requires.1 in
    (record { device = l.device; falling = l.falling; apart = l.apart; masked = l.masked (λ e. omega (arith, c.in-0.is)) (λ e. omega (arith, c.in-0.is)) }, search rules)

pub returns-in-0 : goal.returns-in-0
unfolding planned
returns-in-0 c = rw c.in-0.is (c.find.ensures ∙ ap found_of (sym (reference-is _ _ _ _ _ _ c.args.q.d)))

pub returns-in-1 : goal.returns-in-1
unfolding planned
returns-in-1 c = rw c.in-1.is c.find-in-1.ensures

pub returns-in-2 : goal.returns-in-2
unfolding planned
returns-in-2 c = rw c.in-2.is c.find-in-2.ensures

pub find-requires-in_default : goal.find-requires-in_default
find-requires-in_default c =
    let l = c.requires.1 in
    (record { device = l.device; falling = l.falling; apart = l.apart; masked = l.masked (λ e. omega arith) (λ e. omega arith) }, c.requires.2)

pub returns-in_default : goal.returns-in_default
unfolding planned
returns-in_default c =
    rw (is-three c.args.planner c.requires.0 (λ e. omega arith) (λ e. omega arith) (λ e. omega arith)) c.find-in_default.ensures
