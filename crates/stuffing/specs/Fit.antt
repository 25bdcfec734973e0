-- What the steps of Stuffing's two walks find: code-level definitions; no promise of a public call cites them. Assumes nothing.
use Rattle.std.specs.Prelude.{◌≡◌, ℕ, suc, ◌+◌, ◌<◌, ◌≤◌, Bool, ◌&&◌, ◌⊎◌, List, length, nat_le, slice_index}
use Rattle.lists.specs.Lists.{◌∈◌, all?, range, never}
use Rattle.tasks.specs.declared.Task.{Task}
use Rattle.tasks.specs.Tasks.{from, finish, past, overlap}
use Rattle.columns.specs.Columns.{columns, Run, runs, key}
use Rattle.live.specs.Live.{from_at, left_at, past_at}

-- a stay on w columns from c on, e ticks from t on, shares a column with the task at a tick
abbrev pub meets_at : ℕ → ℕ → ℕ → ℕ → Task → Bool
meets_at c w t e u = overlap c (c + w) u.column (past u) && overlap t (t + e) (from u) (finish u)

-- a row in which each of the first n tasks that has started by t stands at its first column, with the first one past it: what it says at 0
-- means nothing
pub record Marked (live : List ℕ) (n t : ℕ) (row : List ℕ) : Type 0 where
  pub each : (i : ℕ) → i < n → from_at live i ≤ t → 0 < slice_index row (left_at live i)
  pub one : (c : ℕ) → 1 ≤ c → 0 < slice_index row c → (i : ℕ) × (i < n) × (from_at live i ≤ t) × (left_at live i ≡ c) × (past_at live i ≡ slice_index row c)

-- a number p at column k of a row is a stretch, the columns from k up to p: column c lies in none
unfoldable pub unheld : List ℕ → ℕ → Bool
unheld row c = all? (λ k. nat_le (slice_index row k) c) (range 1 c)

-- the stretches of a row lie on the device, and none begins before the one to its left has ended
pub record Stretches (W : ℕ) (row : List ℕ) : Type 0 where
  pub up : (c : ℕ) → 1 ≤ c → 0 < slice_index row c → c < slice_index row c
  pub most : (c : ℕ) → 1 ≤ c → slice_index row c ≤ suc W
  pub apart : (c k : ℕ) → 1 ≤ c → c < k → 0 < slice_index row k → slice_index row c ≤ k

-- r is the first column from `from` on that a stretch begins at, or the one past the W of the device
pub record FirstHeld (row : List ℕ) (from W r : ℕ) : Type 0 where
  pub low : from ≤ r
  pub high : r ≤ suc W
  pub free : (k : ℕ) → from ≤ k → k < r → slice_index row k ≡ 0
  pub held : r ≤ W → 0 < slice_index row r

-- the first m of the keys are those of the runs of at least w columns
pub record Listed (passes : ℕ → Bool) (W w : ℕ) (keys : List ℕ) (m : ℕ) : Type 0 where
  pub size : length keys ≡ 129
  pub few : m ≤ 129
  pub each : (i : ℕ) → i < m → (q : Run) × (q ∈ runs passes (columns W)) × (w ≤ q.size) × (key q ≡ slice_index keys i)
  pub all : (q : Run) → q ∈ runs passes (columns W) → w ≤ q.size → (i : ℕ) × (i < m) × (slice_index keys i ≡ key q)

-- r is the least past `after` of the first m keys, or never
pub record NextKey (keys : List ℕ) (m after r : ℕ) : Type 0 where
  pub past : after < r
  pub least : (i : ℕ) → i < m → after < slice_index keys i → r ≤ slice_index keys i
  pub one : (r ≡ never) ⊎ ((i : ℕ) × (i < m) × (slice_index keys i ≡ r))

-- r is the least key past `after` of a run of at least w columns, or never
pub record NextFit (passes : ℕ → Bool) (W w after r : ℕ) : Type 0 where
  pub least : (q : Run) → q ∈ runs passes (columns W) → w ≤ q.size → after < key q → r ≤ key q
  pub one : (r ≡ never) ⊎ ((q : Run) × (q ∈ runs passes (columns W)) × (w ≤ q.size) × (after < key q) × (key q ≡ r))
