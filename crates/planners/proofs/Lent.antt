-- The live tasks of a table: one task more, what task i holds, and a walk over all of them. Assumes nothing.
use Prim.Native.Nat.{ℕ, ◌+◌, ◌-◌, ◌≤◌, ◌<◌}
use mathlib.Core.Path.{◌≡◌, refl, sym, ap, ◌∙◌}
use mathlib.Core.Bool.{Bool, false, ◌&&◌, ◌||◌}
use mathlib.Core.List.{List, [], ◌∷◌, ◌++◌, map, map-append}
use native.Mathlib.Omega.{arith}
use lib.Dec.{leb, ltb}
use Rattle.lists.specs.Lists.{◌∈◌, some?, range}
use Rattle.lists.proofs.Members.{map-in, in_map, range-in, in-range}
use Rattle.lists.proofs.Append.{range-more, range-first, some-map}
use Rattle.tasks.specs.declared.Task.{Task}
use Rattle.tasks.specs.Tasks.{from, finish, past, holds, covers, overlap}
use Rattle.tasks.proofs.Laws.{overlap-either}
use Rattle.live.specs.Live.{from_at, finish_at, left_at, past_at, task_at, tasks_of, OnDevice}

module _ (live : List ℕ) where
  pub tasks-more : (i : ℕ) → tasks_of (i + 1) live ≡ tasks_of i live ++ (task_at live i ∷ [])
  unfolding tasks_of
  tasks-more i =
      let z : 0 + i ≡ i = omega arith in
      ap (map (task_at live)) (range-more 0 i) ∙ map-append (task_at live) (range 0 i) ((0 + i) ∷ []) ∙ ap (λ x. map (task_at live) (range 0 i) ++ (task_at live x ∷ [])) z

  -- the tasks are those at the indices below n
  pub task-in : (n : ℕ) {u : Task} → u ∈ tasks_of n live → (i : ℕ) × (i < n) × (u ≡ task_at live i)
  unfolding tasks_of
  task-in n m =
      let k = map-in (task_at live) (range 0 n) m in
      let z = range-in 0 n k.1 in
      (k.0, omega (arith, z.high), k.2)

  pub in-tasks : (n i : ℕ) → i < n → task_at live i ∈ tasks_of n live
  unfolding tasks_of
  in-tasks n i h = in_map (task_at live) (in-range 0 n i (omega arith) (omega arith))

  -- a test over the tasks, from task i on
  pub some-tasks : (p : Task → Bool) (n : ℕ) → some? p (tasks_of n live) ≡ some? (λ i. p (task_at live i)) (range 0 (n - 0))
  unfolding tasks_of
  some-tasks p n = let z : n - 0 ≡ n = omega arith in some-map p (task_at live) (range 0 n) ∙ ap (λ m. some? (λ i. p (task_at live i)) (range 0 m)) (sym z)

-- a walk over a test of numbers
pub some_first : (p : ℕ → Bool) (i n : ℕ) → i < n → some? p (range i (n - i)) ≡ (p i || some? p (range (i + 1) (n - (i + 1))))
some_first p i n h = ap (some? p) (range-first i n h) ∙ (unfold some? in refl)

pub some_end : (p : ℕ → Bool) (i n : ℕ) → n ≤ i → some? p (range i (n - i)) ≡ false
some_end p i n h = let z : n - i ≡ 0 = omega arith in rw z (unfold some? range in refl)

module _ {W n : ℕ} {live : List ℕ} (o : OnDevice W n live) (i : ℕ) (h : i < n) where
  -- what task i holds, by the arrays
  pub holds_at : (t c : ℕ) → holds t c (task_at live i) ≡ ((leb (from_at live i) t && ltb t (finish_at live i)) && (leb (left_at live i) c && ltb c (past_at live i)))
  unfolding holds covers
  holds_at t c =
      let x : from_at live i + (finish_at live i - from_at live i) ≡ finish_at live i = omega (arith, o.ticks i h) in
      let y : left_at live i + (past_at live i - left_at live i) ≡ past_at live i = omega (arith, o.columns i h) in
      rw (x, y)

  pub finish-at : finish (task_at live i) ≡ finish_at live i
  finish-at = omega (arith, o.ticks i h)

  -- whether task i meets a stay, by the arrays
  pub meets_at_lem : (c w t e : ℕ) → 1 ≤ w → 1 ≤ e
      → (overlap c (c + w) (task_at live i).column (past (task_at live i)) && overlap t (t + e) (from (task_at live i)) (finish (task_at live i)))
      ≡ ((ltb c (past_at live i) && ltb (left_at live i) (c + w)) && (ltb t (finish_at live i) && ltb (from_at live i) (t + e)))
  meets_at_lem c w t e p q =
      let x : from_at live i + (finish_at live i - from_at live i) ≡ finish_at live i = omega (arith, o.ticks i h) in
      let y : left_at live i + (past_at live i - left_at live i) ≡ past_at live i = omega (arith, o.columns i h) in
      let across = overlap-either c (c + w) (left_at live i) (left_at live i + (past_at live i - left_at live i)) (omega arith) (omega (arith, o.columns i h)) in
      let along = overlap-either t (t + e) (from_at live i) (from_at live i + (finish_at live i - from_at live i)) (omega arith) (omega (arith, o.ticks i h)) in
      rw (across, along, x, y)
