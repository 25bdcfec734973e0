-- What the leaves of Full promise of the columns of an instant: code-level definitions; no promise of a public call cites them. Assumes nothing.
use Rattle.std.specs.Prelude.{◌≡◌, ℕ, ◌+◌, ◌<◌, ◌≤◌, Bool, false, ◌&&◌, ◌||◌, List, nat_lt, Option as Answer, Some, None}
use Rattle.lists.specs.Lists.{some?, range}
use Rattle.tasks.specs.declared.Task.{Task}
use Rattle.tasks.specs.Tasks.{from, finish, overlap, covers}
use Rattle.live.specs.Live.{at, from_at, finish_at}
use Rattle.words.specs.Words.{bit, column}

-- the task holds column c at one of the e ticks from t on
unfoldable pub in_stay : ℕ → ℕ → ℕ → Task → Bool
in_stay t e c u = overlap t (t + e) (from u) (finish u) && covers c u

-- task i starts before `end`, and has digit j of word k
abbrev pub in_word : List ℕ → List ℕ → ℕ → ℕ → ℕ → ℕ → Bool
in_word live masks end k j i = nat_lt (from_at live i) end && bit (at k masks i) j

-- r is `word` with the columns of word k of the first n tasks that start before `end`
pub record HeldWord (live masks : List ℕ) (end k n word r : ℕ) : Type 0 where
  pub digits : (j : ℕ) → j < 64 → bit r j ≡ (bit word j || some? (in_word live masks end k j) (range 0 n))

-- the set columns are those past the W of the device
abbrev pub Edge : ℕ → List ℕ → Type 0
Edge W words = (c : ℕ) → 1 ≤ c → c ≤ 256 → column words c ≡ nat_lt W c

-- the set columns are those that a task holds at one of the e ticks from t on, and those past the W of the device
abbrev pub Held : ℕ → ℕ → ℕ → List Task → List ℕ → Type 0
Held W t e ts words = (c : ℕ) → 1 ≤ c → c ≤ 256 → column words c ≡ (some? (in_stay t e c) ts || nat_lt W c)

-- the w columns from c on are there and clear
pub record Clear (words : List ℕ) (w c : ℕ) : Type 0 where
  pub fits : c + w ≤ 257
  pub clear : (x : ℕ) → c ≤ x → x < c + w → column words x ≡ false

-- r is the least column after `from` that begins w clear columns
pub record FirstAt (words : List ℕ) (from w r : ℕ) : Type 0 where
  pub after : from < r
  pub clear : Clear words w r
  pub least : (c : ℕ) → from < c → c < r → Clear words w c → ⊥

-- the answer is that column, and None where there is none
abbrev pub FirstFree : List ℕ → ℕ → ℕ → Answer ℕ → Type 0
FirstFree words from w None = (c : ℕ) → from < c → Clear words w c → ⊥
FirstFree words from w (Some r) = FirstAt words from w r

-- until r, r not included, a stay of e ticks meets the tasks that it meets from t on: none of the first n finishes, none comes into it
pub record Unchanged (live : List ℕ) (n t e r : ℕ) : Type 0 where
  pub after : t < r
  pub finishes : (i : ℕ) → i < n → t < finish_at live i → r ≤ finish_at live i
  pub starts : (i : ℕ) → i < n → t < finish_at live i → t + e ≤ from_at live i → r + e ≤ from_at live i + 1
