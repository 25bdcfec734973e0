-- The run whose left edge is taken: code-level definitions; no promise of a public call cites them. Assumes nothing.
use Rattle.std.specs.Prelude.{ℕ, ◌+◌, ◌≤◌, ◌<◌, ◌≡◌, Bool, true, false, List, [], Option as Answer, Some, None}
use Rattle.std.proofs.Math.Option.{some}
use Rattle.lists.specs.Lists.{keep, head?}
use Rattle.columns.specs.Columns.{Run, best_fit}
use Rattle.words.specs.Words.{column}

-- fit is of a device of W columns, with those past it held: from each of its columns w are clear
pub record Fitting (held fit : List ℕ) (W w : ℕ) : Type 0 where
  pub small : W ≤ 256
  pub wide : 1 ≤ w
  pub beyond : (c : ℕ) → W < c → c ≤ 256 → column held c ≡ true
  pub high : (c : ℕ) → column fit c ≡ true → c + w ≤ 257
  pub clear : (c : ℕ) → column fit c ≡ true → (x : ℕ) → c ≤ x → x < c + w → column held x ≡ false

-- the answer is the left edge of the first run in best-fit order whose left edge passes, and None where none does
abbrev pub Picked : (ℕ → Bool) → ℕ → List Run → Answer ℕ → Type 0
Picked passes w rs None = keep (λ x. passes x.left) (best_fit w rs) ≡ []
Picked passes w rs (Some c) = (x : Run) × (x.left ≡ c) × (head? (keep (λ x. passes x.left) (best_fit w rs)) ≡ some x)
