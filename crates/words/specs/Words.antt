-- The columns of an instant in four words of 64 digits: code-level definitions; no promise of a public call cites them. Assumes nothing.
use Rattle.std.specs.Prelude.{ℕ, zero, suc, ◌/◌, ◌%◌, ◌^◌, ◌≤◌, ◌<◌, ◌≡◌, Bool, true, false, List, eqb, get_or}

-- digit k of a word is set
unfoldable pub bit : ℕ → ℕ → Bool
bit n k = eqb (n / 2 ^ k % 2) 1

-- column c is set: "columns count from 1", so column i + 1 is digit i % 64 of word i / 64
unfoldable pub column : List ℕ → ℕ → Bool
column words zero = false
column words (suc i) = bit (get_or words (i / 64) 0) (i % 64)

-- r is the least number from `from` on that passes, or `end` where none before it does
pub record Least (passes : ℕ → Bool) (from end r : ℕ) : Type 0 where
  pub low : from ≤ r
  pub high : r ≤ end
  pub before : (c : ℕ) → from ≤ c → c < r → passes c ≡ false
  pub here : r < end → passes r ≡ true
