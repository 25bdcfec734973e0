-- The live tasks as one table of numbers, and their columns in words: code-level definitions; no promise of a public call cites them. Assumes nothing.
use Rattle.std.specs.Prelude.{ℕ, zero, suc, ◌+◌, ◌-◌, ◌*◌, ◌≤◌, ◌<◌, ◌≡◌, ◌⊎◌, false, ◌&&◌, List, [], ◌∷◌, map, leb, ltb, length, get_or, set}
use Rattle.lists.specs.Lists.{range, never}
use Rattle.tasks.specs.declared.Phase.TheVariants.{Ended}
use Rattle.tasks.specs.declared.Task.{Task}
use Rattle.tasks.specs.Tasks.{from, finish, past, meets}
use Rattle.tasks.specs.Numbers.{last_instant}
use Rattle.words.specs.Words.{bit}

-- the number of task i in row r: 64 numbers a row
abbrev pub at : ℕ → List ℕ → ℕ → ℕ
at r table i = get_or table (r * 64 + i) 0

module _ (live : List ℕ) (i : ℕ) where
  -- the first tick that it holds, and its finish
  abbrev pub from_at : ℕ
  from_at = at 0 live i

  abbrev pub finish_at : ℕ
  finish_at = at 1 live i

  -- its first column, and the first one past it
  abbrev pub left_at : ℕ
  left_at = at 2 live i

  abbrev pub past_at : ℕ
  past_at = at 3 live i

  abbrev pub id_at : ℕ
  id_at = at 4 live i

  abbrev pub slot_at : ℕ
  slot_at = at 5 live i

  -- task i of the table. What a planner does not read is 0
  abbrev pub task_at : Task
  task_at = record {
    id = 0;
    e = finish_at - from_at;
    d = 0;
    start = from_at;
    w = past_at - left_at;
    h = 0;
    column = left_at;
    phase = Ended;
  }

-- a task by what a planner reads of it
abbrev pub bare : Task → Task
bare u = record { id = 0; e = u.e; d = 0; start = u.start; w = u.w; h = 0; column = u.column; phase = Ended }

-- the first n tasks of the table
unfoldable pub tasks_of : ℕ → List ℕ → List Task
tasks_of n live = map (task_at live) (range 0 n)

-- they lie on a device of W columns, and each has a column and a tick
pub record OnDevice (W n : ℕ) (live : List ℕ) : Type 0 where
  pub wide : W ≤ 256
  pub few : n ≤ 64
  pub from : (i : ℕ) → i < n → 1 ≤ left_at live i
  pub columns : (i : ℕ) → i < n → left_at live i < past_at live i
  pub past : (i : ℕ) → i < n → past_at live i ≤ suc W
  pub ticks : (i : ℕ) → i < n → from_at live i < finish_at live i
  pub until : (i : ℕ) → i < n → finish_at live i ≤ last_instant

-- the last to finish stands first
abbrev pub Falling : ℕ → List ℕ → Type 0
Falling n live = (i j : ℕ) → i ≤ j → j < n → finish_at live j ≤ finish_at live i

-- no two share a column at a tick
abbrev pub Apart : ℕ → List ℕ → Type 0
Apart n live = (i j : ℕ) → i < j → j < n → meets (task_at live i) (task_at live j) ≡ false

-- the columns of each task in four words
pub record Masked (n : ℕ) (live masks : List ℕ) : Type 0 where
  pub share : (k i j : ℕ) → k < 4 → i < n → j < 64
      → bit (at k masks i) j ≡ (leb (left_at live i) (k * 64 + 1 + j) && ltb (k * 64 + 1 + j) (past_at live i))

-- THE TABLE that a planner is lent: n tasks on a device of W columns, the last to finish first, none in another's way, with their words
pub record Lent (W n : ℕ) (live masks : List ℕ) : Type 0 where
  pub device : OnDevice W n live
  pub falling : Falling n live
  pub apart : Apart n live
  pub masked : Masked n live masks

-- and as planner number p is lent it: Horizon (1) and Stuffing (2) read no words
pub record LentTo (p W n : ℕ) (live masks : List ℕ) : Type 0 where
  pub device : OnDevice W n live
  pub falling : Falling n live
  pub apart : Apart n live
  pub masked : (p ≡ 1 → ⊥) → (p ≡ 2 → ⊥) → Masked n live masks

-- r of the first n tasks are the first ones, up to one that has not finished by t; those from there on have
pub record After (live : List ℕ) (n t r : ℕ) : Type 0 where
  pub few : r ≤ n
  pub stays : (i : ℕ) → suc i ≡ r → t < finish_at live i
  pub ended : (i : ℕ) → r ≤ i → i < n → finish_at live i ≤ t

-- r comes after t, no finish of the first n tasks lies between, and r is one of them or never
pub record NextFinish (live : List ℕ) (n t r : ℕ) : Type 0 where
  pub after : t < r
  pub least : (i : ℕ) → i < n → t < finish_at live i → r ≤ finish_at live i
  pub one : (r ≡ never) ⊎ ((i : ℕ) × (i < n) × (finish_at live i ≡ r))

-- the number of row r for a task that stands in a slot
unfoldable pub number : ℕ → ℕ → Task → ℕ
number zero slot k = from k
number (suc zero) slot k = finish k
number (suc (suc zero)) slot k = k.column
number (suc (suc (suc zero))) slot k = past k
number (suc (suc (suc (suc zero)))) slot k = k.id
number (suc (suc (suc (suc (suc r))))) slot k = slot

-- numbers put at place i, one into each row from row r on
unfoldable pub put_from : ℕ → List ℕ → ℕ → List ℕ → List ℕ
put_from r table i [] = table
put_from r table i (x ∷ xs) = put_from (suc r) (set table (r * 64 + i) x) i xs

-- a task's words put at place i: those of the columns from `left` up to, not including, `past`
pub record WordsPut (masks : List ℕ) (i left past : ℕ) (next : List ℕ) : Type 0 where
  pub size : length next ≡ length masks
  pub other : (q j : ℕ) → j < 64 → (j ≡ i → ⊥) → at q next j ≡ at q masks j
  pub share : (q j : ℕ) → q < 4 → j < 64 → bit (at q next i) j ≡ (leb left (q * 64 + 1 + j) && ltb (q * 64 + 1 + j) past)
