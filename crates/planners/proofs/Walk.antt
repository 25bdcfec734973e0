-- The walk through the visited times: where it stands, what ends it, and the next time. Assumes nothing.
use Prim.Native.Nat.{ℕ, ◌+◌, ◌≤◌, ◌<◌}
use mathlib.Core.Path.{◌≡◌, refl, sym, ap, ◌∙◌, subst}
use mathlib.Core.Logic.{◌⊎◌, inl, inr}
use mathlib.Core.Option.{Option, none, some}
use mathlib.Core.List.Memᴰ.{cases_cons as cases}
use mathlib.Core.List.Memᴰ.{head as here}
use mathlib.Core.List.Memᴰ.{not-nil as nowhere}
use mathlib.Core.List.Memᴰ.{tail as there}
use mathlib.Core.List.{List, [], map}
use native.Mathlib.Omega.{arith}
use native.Mathlib.Decide.{dec_lt, ℕ_discrete as dec_eq}
use Rattle.lists.specs.Lists.{◌∈◌, head?, or_else, first_answer, never}
use Rattle.lists.proofs.Members.{map-in, in_map}
use Rattle.lists.proofs.Order.{Sorted, empty, next, none_first}
use Rattle.tasks.specs.declared.Task.{Task}
use Rattle.tasks.specs.declared.Submission.{Submission}
use Rattle.tasks.specs.Tasks.{finish}
use Rattle.live.specs.Live.{finish_at, tasks_of, OnDevice, NextFinish}
use Rattle.planners.specs.Openings.{Place}
use Rattle.planners.specs.Planners.{visited}
use Rattle.planners.proofs.Lent.{task-in, in-tasks, finish-at}
use Rattle.planners.proofs.Planners.{visited-in, in-visited, now-visited, visited-rising}

-- the answer at the least number that has one is the first along a rising list
pub first-is : {B : Type 0} (f : ℕ → Option B) {xs : List ℕ} → Sorted ◌<◌ xs → {t : ℕ} → t ∈ xs → {b : B} → f t ≡ some b
    → ((i : ℕ) → i ∈ xs → i < t → f i ≡ none) → first_answer f xs ≡ some b
unfolding first_answer or_else
first-is f empty m e g = absurd (nowhere m)
first-is {B} f (next {x} {xs} h s) {t} m {b} e g = step (λ n. first-is f s n e (λ i k l. g i (there k) l)) (cases m)
  where
    step : (t ∈ xs → first_answer f xs ≡ some b) → (t ≡ x) ⊎ (t ∈ xs) → or_else (f x) (first_answer f xs) ≡ some b
    step below (inl z) = ap (λ o. or_else o (first_answer f xs)) (sym (ap f z) ∙ e)
    step below (inr n) = ap (λ o. or_else o (first_answer f xs)) (g x (here refl) (h t n)) ∙ below n

module _ (W now : ℕ) (ts : List Task) (a : Submission) (tried : ℕ → List Place) (times : List ℕ) where
  -- t is visited, and no time visited before it has a candidate
  pub record Visits (t : ℕ) : Type 0 where
    pub among : t ∈ visited W now ts a times
    pub none_before : (i : ℕ) → i ∈ visited W now ts a times → i < t → tried i ≡ []

  abbrev answer : Option Place
  answer = first_answer (λ i. head? (tried i)) (visited W now ts a times)

  pub visits-start : Visits now
  visits-start = record { among = now-visited W now ts a times; none_before = λ i m l. absurd (omega (arith, (visited-in W now ts a times m).from-now)) }

  pub visits-from : {t : ℕ} → Visits t → now ≤ t
  visits-from v = (visited-in W now ts a times v.among).from-now

  headless : (i : ℕ) → tried i ≡ [] → head? (tried i) ≡ none
  headless i e = unfold head? in ap head? e

  -- a candidate at t is the answer
  pub visits-hit : {t : ℕ} {p : Place} → Visits t → head? (tried t) ≡ some p → answer ≡ some p
  visits-hit {t} v e = first-is (λ i. head? (tried i)) (visited-rising W now ts a times) v.among e (λ i m l. headless i (v.none_before i m l))

  -- there is none at t, and no time of the list lies between t and u
  module _ {t u : ℕ} (v : Visits t) (e : tried t ≡ []) (f : (x : ℕ) → x ∈ times → (x ≤ t) ⊎ (u ≤ x)) where
    -- a visited time that was not yet tried is not before u
    later : (i : ℕ) → i ∈ visited W now ts a times → t < i → u ≤ i
    later i m l = step (visited-in W now ts a times m).listed
      where
        far : (i ≤ t) ⊎ (u ≤ i) → u ≤ i
        far (inl z) = absurd (omega arith)
        far (inr z) = z

        step : (i ≡ now) ⊎ (i ∈ times) → u ≤ i
        step (inl z) = absurd (omega (arith, visits-from v))
        step (inr n) = far (f i n)

    upto : (i : ℕ) → i ∈ visited W now ts a times → i ≤ t → tried i ≡ []
    upto i m l = step (dec_eq i t)
      where
        step : Dec (i ≡ t) → tried i ≡ []
        step (yes q) = ap tried q ∙ e
        step (no q) = v.none_before i m (omega arith)

    -- u comes too late: none is left
    pub visits-none : a.d < u + a.e → answer ≡ none
    visits-none h = none_first (λ i. head? (tried i)) (visited W now ts a times) (λ i m. headless i (each i m (dec_lt t i)))
      where
        each : (i : ℕ) → i ∈ visited W now ts a times → Dec (t < i) → tried i ≡ []
        each i m (no l) = upto i m (omega arith)
        each i m (yes l) = absurd (let z = later i m l in let y = (visited-in W now ts a times m).in-time (omega (arith, visits-from v)) in omega arith)

    -- u is the next time
    pub visits-on : u ∈ times → t < u → u + a.e ≤ a.d → Visits u
    visits-on m l h = record { among = in-visited W now ts a times m (omega (arith, visits-from v)) h; none_before = λ i n k. each i n k (dec_lt t i) }
      where
        each : (i : ℕ) → i ∈ visited W now ts a times → i < u → Dec (t < i) → tried i ≡ []
        each i n k (no p) = upto i n (omega arith)
        each i n k (yes p) = absurd (let z = later i n p in omega arith)

-- The times are the finishes of the live tasks
module _ {W n : ℕ} {live : List ℕ} (o : OnDevice W n live) where
  time-at : (x : ℕ) → x ∈ map finish (tasks_of n live) → (i : ℕ) × (i < n) × (x ≡ finish_at live i)
  time-at x m =
      let k = map-in finish (tasks_of n live) m in
      let j = task-in live n k.1 in
      (j.0, j.1, k.2 ∙ ap finish j.2 ∙ finish-at o j.0 j.1)

  at-time : (i : ℕ) → i < n → finish_at live i ∈ map finish (tasks_of n live)
  at-time i h = subst (λ x. x ∈ map finish (tasks_of n live)) (finish-at o i h) (in_map finish (in-tasks live n i h))

  module _ {t u : ℕ} (x : NextFinish live n t u) where
    -- a finish past t is not before the next one
    pub not-before : (y : ℕ) → y ∈ map finish (tasks_of n live) → (y ≤ t) ⊎ (u ≤ y)
    not-before y m = let k = time-at y m in pick k.0 k.1 k.2 (dec_lt t y)
      where
        pick : (i : ℕ) → i < n → y ≡ finish_at live i → Dec (t < y) → (y ≤ t) ⊎ (u ≤ y)
        pick i h z (yes p) = inr (omega (arith, x.least i h (omega arith)))
        pick i h z (no p) = inl (omega arith)

    -- the next one is a time, where there is one
    pub next-time : u < never → u ∈ map finish (tasks_of n live)
    next-time h = go x.one
      where
        go : (u ≡ never) ⊎ ((i : ℕ) × (i < n) × (finish_at live i ≡ u)) → u ∈ map finish (tasks_of n live)
        go (inl z) = absurd (omega arith)
        go (inr z) = subst (λ y. y ∈ map finish (tasks_of n live)) z.2 (at-time z.0 z.1)
