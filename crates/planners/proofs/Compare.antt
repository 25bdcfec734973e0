-- How the planners compare: what Reference takes, Stuffing takes at the same place; whatever one takes, Full takes with no later start. Assumes nothing.
use Prim.Native.Nat.{ℕ, ◌+◌, ◌≤◌}
use mathlib.Core.Path.{◌≡◌, ap}
use mathlib.Core.Logic.{◌⊎◌, inl, inr}
use mathlib.Core.Option.{some}
use mathlib.Core.List.{List, map}
use native.Mathlib.Omega.{arith}
use Rattle.tasks.specs.declared.Task.{Task}
use Rattle.tasks.specs.declared.Submission.{Submission}
use Rattle.tasks.specs.Tasks.{finish}
use Rattle.planners.specs.Openings.{Place, full}
use Rattle.planners.specs.Planners.{candidates, reference, stuffing, planned}
use Rattle.planners.proofs.Openings.{Before, earlier, lower, full-takes-one, full-first}
use Rattle.planners.proofs.Planners.{planned-opens}
use Rattle.planners.proofs.Walk.{visits-start, visits-hit}

module _ (g W now : ℕ) (ts : List Task) (a : Submission) where
  -- WHAT REFERENCE TAKES, STUFFING TAKES AT THE SAME PLACE
  pub reference-stuffing : {p : Place} → reference g W now ts a ≡ some p → stuffing g W now ts a ≡ some p
  unfolding reference stuffing
  reference-stuffing e = visits-hit W now ts a (candidates g W now ts a) (map finish ts) (visits-start W now ts a (candidates g W now ts a) (map finish ts)) e

  -- WHATEVER A PLANNER TAKES, FULL TAKES WITH NO LATER START
  pub full-no-later : now + a.e ≤ a.d → (n : ℕ) {p : Place} → planned g W now ts a n ≡ some p → (q : Place) × (full g W now ts a ≡ some q) × (q.start ≤ p.start)
  full-no-later h n {p} e =
      let o = planned-opens g W now ts a h n e in
      let f = full-takes-one g W now ts a p o in
      (f.0, f.1, le f.0 (full-first g W now ts a f.0 p f.1 o))
    where
      le : (q : Place) → (p ≡ q) ⊎ Before q p → q.start ≤ p.start
      le q (inl z) = let k : p.start ≡ q.start = ap (λ x. x.start) z in omega arith
      le q (inr (earlier k)) = omega arith
      le q (inr (lower k l)) = omega arith
