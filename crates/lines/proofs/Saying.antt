-- A line word by word: which of the definition's cases the tests of the code come to. Assumes nothing.
use Prim.Native.Nat.{ℕ, suc, ◌+◌, ◌-◌}
use mathlib.Core.Path.{◌≡◌, refl, sym, ◌∙◌}
use mathlib.Core.Bool.{Bool, true, false, cond, ◌&&◌}
use mathlib.Core.List.{List, [], ◌∷◌}
use native.Mathlib.Omega.{arith}
use borrow.Author.Tests.{lt-ltb, ne_eqb}
use lib.Dec.{eqb}
use lib.ListN.{length, take, drop}
use lib.Pointwise.{pointwise}
use Rattle.std.proofs.Common.{Some, Ok}
use Rattle.lists.specs.Lists.{last_or}
use Rattle.events.specs.declared.Event.{Event}
use Rattle.tokens.specs.Tokens.{fits, wrong}
use Rattle.lines.specs.declared.Kind.{Kind}
use Rattle.lines.specs.declared.Kind.TheVariants.{Board}
use Rattle.lines.specs.Lines.{Line, wrong_line, less_return, said_or, plain_line, grid_line, board_line}

-- a word that is wrong, and none
pub said-wrong : (kind : Kind) (n : ℕ) (event : Event) (w : ℕ) → (w ≡ 0 → ⊥) → wrong_line kind (w + n) ≡ said_or kind n w event
unfolding said_or
said-wrong kind n event w h = rw (ne_eqb w 0 h)

pub said-right : (kind : Kind) (n : ℕ) {event said : Event} {w : ℕ} → w ≡ 0 → said ≡ event → ◌≡◌ {A = Line} (Ok (Some said)) (said_or kind n w event)
unfolding said_or
said-right kind n {event} {said} {w} h k = rw (h, k)

-- A BOARD: a third word behind two right ones is its grid
pub board-grid : (ws : List (List ℕ)) → wrong 1 (65535 ∷ 65535 ∷ []) ws ≡ 3 → grid_line ws ≡ board_line ws
unfolding board_line wrong
board-grid [] e = absurd (omega arith)
board-grid (a ∷ []) e = on (fits 65535 a) e
  where
    on : (f : Bool) → ◌≡◌ {A = ℕ} (cond f 2 1) 3 → grid_line (a ∷ []) ≡ plain_line (a ∷ [])
    on true e = absurd (omega arith)
    on false e = absurd (omega arith)
board-grid (a ∷ b ∷ []) e = on (fits 65535 a) (fits 65535 b) e
  where
    on : (f g : Bool) → ◌≡◌ {A = ℕ} (cond f (cond g 0 2) 1) 3 → grid_line (a ∷ b ∷ []) ≡ plain_line (a ∷ b ∷ [])
    on true true e = absurd (omega arith)
    on true false e = absurd (omega arith)
    on false g e = absurd (omega arith)
board-grid (a ∷ b ∷ c ∷ cs) e = rw (lt-ltb 2 (length (a ∷ b ∷ c ∷ cs)) (omega arith))

-- where one of the first two is wrong, it is so with a third word and without
pub board-plain : (ws : List (List ℕ)) {line : Line} → (wrong 1 (65535 ∷ 65535 ∷ []) ws ≡ 3 → ⊥) → line ≡ plain_line ws → line ≡ board_line ws
unfolding board_line plain_line grid_line said_or wrong
board-plain [] n e = e
board-plain (a ∷ []) n e = e
board-plain (a ∷ b ∷ []) n e = e
board-plain (a ∷ b ∷ c ∷ cs) {line} n e =
    rw (lt-ltb 2 (length (a ∷ b ∷ c ∷ cs)) (omega arith)) (on (fits 65535 a) (fits 65535 b) _ _ n e)
  where
    on : (f g : Bool) (plain grid : Event) → (◌≡◌ {A = ℕ} (cond f (cond g 3 2) 1) 3 → ⊥) → line ≡ said_or Board 1 (cond f (cond g 3 2) 1) plain
        → line ≡ said_or Board 1 (cond f (cond g (wrong 3 (255 ∷ []) (c ∷ cs)) 2) 1) grid
    on true true plain grid n e = absurd (n refl)
    on true false plain grid n e = e
    on false g plain grid n e = e

-- A CARRIAGE RETURN at the end
ends-by : (x : ℕ) (xs : List ℕ) → pointwise eqb (drop (length xs) (x ∷ xs)) (13 ∷ []) ≡ eqb (last_or x xs) 13
unfolding last_or
ends-by x [] = go (eqb x 13)
  where
    go : (t : Bool) → (t && true) ≡ t
    go true = refl
    go false = refl
ends-by x (y ∷ ys) = ends-by y ys

last-is : (l : List ℕ) → pointwise eqb (drop (length l - 1) l) (13 ∷ []) ≡ eqb (last_or 0 l) 13
unfolding last_or
last-is [] = refl
last-is (x ∷ xs) = let z : suc (length xs) - 1 ≡ length xs = omega arith in rw z (ends-by x xs)

pub less_one : (l : List ℕ) → pointwise eqb (drop (length l - 1) l) (13 ∷ []) ≡ true → take (length l - 1) l ≡ less_return l
unfolding less_return
less_one l e = rw (sym (last-is l) ∙ e)

pub less-same : (l : List ℕ) → pointwise eqb (drop (length l - 1) l) (13 ∷ []) ≡ false → l ≡ less_return l
unfolding less_return
less-same l e = rw (sym (last-is l) ∙ e)
