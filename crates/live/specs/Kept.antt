-- The table that stands for the slots of a board: code-level definitions; no promise of a public call cites them. Assumes nothing.
use Rattle.std.specs.Prelude.{ℕ, ◌+◌, ◌-◌, ◌*◌, ◌≤◌, ◌<◌, ◌≡◌, true, not, ◌&&◌, List, T, leb, ltb, length, get_or}
use Rattle.lists.specs.Lists.{index_of}
use Rattle.tasks.specs.declared.Device.{Device}
use Rattle.tasks.specs.declared.Task.{Task}
use Rattle.tasks.specs.Tasks.{finish, live, free_slot}
use Rattle.slots.specs.Slots.{sound}
use Rattle.words.specs.Words.{bit}
use Rattle.live.specs.Live.{at, finish_at, slot_at, number, Falling}

-- place i has the numbers of the live task in its slot
pub record Entry (ks : List Task) (rows : List ℕ) (i : ℕ) : Type 0 where
  pub inside : slot_at rows i < 64
  pub there : T (live (get_or ks (slot_at rows i) free_slot))
  pub numbers : (r : ℕ) → r < 6 → at r rows i ≡ number r (slot_at rows i) (get_or ks (slot_at rows i) free_slot)

-- the first n places are those of the live tasks in the first m slots, each once
pub record Stands (m : ℕ) (ks : List Task) (n : ℕ) (rows : List ℕ) : Type 0 where
  pub slots : length ks ≡ 64
  pub few : n ≤ 64
  pub each : (i : ℕ) → i < n → Entry ks rows i
  pub below : (i : ℕ) → i < n → slot_at rows i < m
  pub once : (i j : ℕ) → i < j → j < n → slot_at rows i ≡ slot_at rows j → ⊥
  pub every : (s : ℕ) → s < m → T (live (get_or ks s free_slot)) → (i : ℕ) × (i < n) × (slot_at rows i ≡ s)

-- THE LIVE TABLE of a sound board with the slots ks: its n live tasks, the last to finish first
pub record Kept (D : Device) (clock : ℕ) (ks : List Task) (n : ℕ) (rows : List ℕ) : Type 0 where
  pub good : sound D clock ks ≡ true
  pub stands : Stands 64 ks n rows
  pub falling : Falling n rows

-- the set digits are the live ones of the first m slots
pub record InUse (m : ℕ) (ks : List Task) (used : ℕ) : Type 0 where
  pub is : (s : ℕ) → s < 64 → bit used s ≡ (ltb s m && live (get_or ks s free_slot))

-- the lowest free slot, 64 where all are taken
abbrev pub lowest_free : List Task → ℕ
lowest_free ks = index_of (λ k. not (live k)) ks

-- a place more among n in the first rows of a table: what stood from k on has gone one place on
pub record Opened (rows n k : ℕ) (table next : List ℕ) : Type 0 where
  pub size : length next ≡ length table
  pub place : k ≤ n
  pub before : (r i : ℕ) → r < rows → i < k → at r next i ≡ at r table i
  pub after : (r i : ℕ) → r < rows → k < i → i ≤ n → at r next i ≡ at r table (i - 1)

-- a place less: what stood after k has gone one place back
pub record Closed (rows n k : ℕ) (table next : List ℕ) : Type 0 where
  pub size : length next ≡ length table
  pub before : (r i : ℕ) → r < rows → i < k → at r next i ≡ at r table i
  pub after : (r i : ℕ) → r < rows → k ≤ i → i + 1 < n → at r next i ≡ at r table (i + 1)

-- a task that stands in a slot put among the first n of the table: behind those that finish later, before the others
pub record Inserted (n slot : ℕ) (x : Task) (rows masks next words : List ℕ) : Type 0 where
  pub k : ℕ
  pub numbers : Opened 6 n k rows next
  pub columns : Opened 4 n k masks words
  pub here : (r : ℕ) → r < 6 → at r next k ≡ number r slot x
  pub share : (q j : ℕ) → q < 4 → j < 64 → bit (at q words k) j ≡ (leb x.column (q * 64 + 1 + j) && ltb (q * 64 + 1 + j) (x.column + x.w))
  pub later : (i : ℕ) → i < k → finish x < finish_at rows i
  pub sooner : (i : ℕ) → k ≤ i → i < n → finish_at rows i ≤ finish x

-- each of the n tasks at another place of the table, and each place taken
pub record Exchanged (n : ℕ) (place : ℕ → ℕ) (rows next : List ℕ) : Type 0 where
  pub inside : (i : ℕ) → i < n → place i < n
  pub once : (i j : ℕ) → i < j → j < n → place i ≡ place j → ⊥
  pub taken : (q : ℕ) → q < n → (i : ℕ) × (i < n) × (place i ≡ q)
  pub same : (r i : ℕ) → r < 6 → i < n → at r next (place i) ≡ at r rows i
