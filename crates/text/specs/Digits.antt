-- Digits and words as code puts them: code-level definitions; no promise of a public call cites them. Assumes nothing.
use Rattle.std.specs.Prelude.{ℕ, zero, suc, ◌+◌, ◌/◌, ◌%◌, ◌≡◌, List, [], ◌∷◌, ◌++◌, length}
use Rattle.std.proofs.lemmas.List.Edits.{sets}
use Rattle.lists.specs.Lists.{each}
use Rattle.text.specs.Text.{decimal}

-- the last n digits of a number, zeros in front where it has fewer
unfoldable pub last_digits : ℕ → ℕ → List ℕ
last_digits zero x = []
last_digits (suc n) x = last_digits n (x / 10) ++ ((48 + x % 10) ∷ [])

-- numbers, each with a space (32) behind it: the front of a line
unfoldable pub spaced : List ℕ → List ℕ
spaced ns = each ns (λ x. decimal x ++ (32 ∷ []))

-- a text was put into a buffer from a place on, which left `after`, and `past` is the place behind it
pub record Put (before : List ℕ) (at : ℕ) (text after : List ℕ) (past : ℕ) : Type 0 where
  pub stored : after ≡ sets before at text
  pub place : past ≡ at + length text
