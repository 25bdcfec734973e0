-- The row of release times and its steps: code-level definitions; no promise of a public call cites them. Assumes nothing.
use Rattle.std.specs.Prelude.{ℕ, zero, suc, ◌-◌, ◌≤◌, ◌<◌, ◌≡◌, cond, ◌&&◌, List, leb, ltb, get_or}

-- what a row has for column suc k once the columns from l up to, not including, r are raised to f
abbrev pub raised_to : ℕ → ℕ → ℕ → ℕ → ℕ → ℕ
raised_to f l r k x = cond (leb l (suc k) && ltb (suc k) r) f x

-- the release of column c in a row, where column 1 stands first
abbrev pub in_row : List ℕ → ℕ → ℕ
in_row row c = get_or row (c - 1) 0

-- the first column of step j, where the first column past each step is listed
unfoldable pub edge : List ℕ → ℕ → ℕ
edge past zero = 1
edge past (suc j) = get_or past j 0

-- n steps of at least one column each
pub record Rises (past : List ℕ) (n : ℕ) : Type 0 where
  pub few : n ≤ 256
  pub rises : (j : ℕ) → j < n → edge past j < get_or past j 0
  pub within : (j : ℕ) → j < n → get_or past j 0 ≤ 257

-- and these are the columns of a device of W columns, each step at one release
pub record Pressed (rel : ℕ → ℕ) (W : ℕ) (past at : List ℕ) (n : ℕ) : Type 0 where
  pub steps : Rises past n
  pub level : (j : ℕ) → j < n → (c : ℕ) → edge past j ≤ c → c < get_or past j 0 → rel c ≡ get_or at j 0
  pub inside : (j : ℕ) → j < n → get_or past j 0 ≤ suc W
  pub all : edge past n ≡ suc W
  -- the column past a step has another release
  pub ends : (j : ℕ) → j < n → get_or past j 0 ≤ W → rel (get_or past j 0) ≡ get_or at j 0 → ⊥
