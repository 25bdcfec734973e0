-- What the code of this crate finds in a text: code-level records; no promise of a public call cites them. Assumes nothing.
use Rattle.std.specs.Prelude.{ℕ, ◌+◌, ◌≤◌, ◌<◌, ◌≡◌, List, length, get_or}
use Rattle.tokens.specs.Tokens.{wrong, nth}

-- the numbers of some words, one for each limit, and none above its limit
pub record Numbers (ws : List (List ℕ)) (mosts values : List ℕ) : Type 0 where
  pub right : wrong 1 mosts ws ≡ 0
  pub read : (i : ℕ) → i < length mosts → get_or values i 0 ≡ nth i ws
  pub small : (i : ℕ) → i < length mosts → get_or values i 0 ≤ get_or mosts i 0

-- the word that is wrong, counted from 1
pub record FirstWrong (ws : List (List ℕ)) (mosts : List ℕ) (n : ℕ) : Type 0 where
  pub told : n ≡ wrong 1 mosts ws
  pub some : 1 ≤ n
  pub few : n ≤ length mosts + 1
