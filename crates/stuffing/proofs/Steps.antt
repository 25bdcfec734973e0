-- The walk over the tasks: whether a stay meets one. Assumes nothing.
use Rattle.std.proofs.Common.{◌≡◌, ℕ, ◌+◌, ◌-◌, ◌<◌, ◌≤◌, Bool, true, false, ◌&&◌, ◌||◌, ltb, List, sym, ap, ◌∙◌, arith, le-ltb, lt-ltb}
use mathlib.Core.Bool.{and-false}
use Rattle.lists.specs.Lists.{some?, range}
use Rattle.live.specs.Live.{from_at, finish_at, left_at, past_at, task_at, tasks_of, OnDevice, Falling, After}
use Rattle.live.proofs.Laws.{after-stays, some_after}
use Rattle.planners.proofs.Lent.{some-tasks, some_first, some_end, meets_at_lem}
use Rattle.stuffing.specs.Fit.{meets_at}

module _ (live : List ℕ) (c w t e : ℕ) where
  -- whether a stay meets task i
  abbrev meet : ℕ → Bool
  meet i = meets_at c w t e (task_at live i)

  -- the first n tasks, what is left of them, decide for all
  pub record MeetsFrom (count n i : ℕ) : Type 0 where
    pub upto : i ≤ n
    pub rest : some? (meets_at c w t e) (tasks_of count live) ≡ some? meet (range i (n - i))

  module _ {W count n : ℕ} (o : OnDevice W count live) (a : After live count t n) (p : 1 ≤ w) (q : 1 ≤ e) where
    -- a task that has finished meets no stay
    pub meets-start : MeetsFrom count n 0
    meets-start = record { upto = omega arith; rest = some_after live (meets_at c w t e) count n a.few ended ∙ some-tasks live (meets_at c w t e) n }
      where
        ended : (i : ℕ) → n ≤ i → i < count → meet i ≡ false
        ended i l h =
            meets_at_lem o i h c w t e p q
            ∙ ap (λ b. (ltb c (past_at live i) && ltb (left_at live i) (c + w)) && (b && ltb (from_at live i) (t + e))) (le-ltb t (finish_at live i) (a.ended i l h))
            ∙ and-false (ltb c (past_at live i) && ltb (left_at live i) (c + w))

    -- the test of task i, by the table: it has not finished
    abbrev test : ℕ → Bool
    test i = (ltb c (past_at live i) && ltb (left_at live i) (c + w)) && ltb (from_at live i) (t + e)

    module _ (f : Falling count live) {i : ℕ} (m : MeetsFrom count n i) (h : i < n) where
      here : some? (meets_at c w t e) (tasks_of count live) ≡ (test i || some? meet (range (i + 1) (n - (i + 1))))
      here =
          m.rest ∙ some_first meet i n h
          ∙ ap (λ b. b || some? meet (range (i + 1) (n - (i + 1))))
          (meets_at_lem o i (omega (arith, a.few)) c w t e p q
          ∙ ap (λ b. (ltb c (past_at live i) && ltb (left_at live i) (c + w)) && (b && ltb (from_at live i) (t + e))) (lt-ltb t (finish_at live i) (after-stays f a i h)))

      pub meets-hit : test i ≡ true → true ≡ some? (meets_at c w t e) (tasks_of count live)
      meets-hit z = sym (here ∙ ap (λ b. b || some? meet (range (i + 1) (n - (i + 1)))) z)

      pub meets_on : test i ≡ false → MeetsFrom count n (i + 1)
      meets_on z = record { upto = omega arith; rest = here ∙ ap (λ b. b || some? meet (range (i + 1) (n - (i + 1)))) z }

  pub meets-end : {count n i : ℕ} → MeetsFrom count n i → n ≤ i → false ≡ some? (meets_at c w t e) (tasks_of count live)
  meets-end {count} {n} {i} m h = sym (m.rest ∙ some_end meet i n h)
