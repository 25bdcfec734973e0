-- The bytes that should be a summary, judged: lines compared, rows that add up, and what comes of it. Assumes nothing.
use Prim.Native.Nat.{ℕ, suc, ◌+◌, ◌-◌, ◌≤◌, ◌<◌}
use mathlib.Core.Path.{◌≡◌, refl, sym, ap, ◌∙◌}
use mathlib.Core.Bool.{Bool, true, false}
use mathlib.Core.List.{List, [], ◌∷◌}
use mathlib.Core.Logic.{◌⊎◌, ⊎_elim}
use native.Mathlib.Omega.{arith}
use borrow.Author.Tests.{ne_eqb, eq-eqb}
use lib.Dec.{eqb}
use lib.ListN.{length}
use Rattle.std.proofs.Common.{Some, None}
use Rattle.tokens.specs.Tokens.{same}
use Rattle.sheets.specs.Sheets.{plus, wrapped, fits?}
use Rattle.sheets.proofs.Laws.{fits-wrapped}
use Rattle.adding.specs.Adding.{whole_text}
use Rattle.adding.specs.declared.Fault.TheVariants.{Line, Sum}
use Rattle.adding.specs.declared.Standing.{Standing}
use Rattle.adding.specs.Machine.{figures_in, same_lines, later, wrong_line, adds_up, bad_row, nothing_held, judged}

-- LINES SHARED SO FAR, and those of what is left of both texts
module _ (a b : List ℕ) where
  pub record Shared (n : ℕ) (xs ys : List ℕ) : Type 0 where
    pub few : n + length xs ≤ length a
    pub rest : n + same_lines xs ys ≡ same_lines a b

  pub shared-all : {n : ℕ} {xs ys : List ℕ} → Shared n xs ys → (length xs ≡ 0) ⊎ (length ys ≡ 0) → n ≡ same_lines a b
  unfolding same_lines
  shared-all {n} {xs} {ys} s h =
      let none : same_lines xs ys ≡ 0 = ⊎_elim (no_left xs ys) (no_right xs ys) h in
      omega (arith, s.rest)
    where
      no_left : (l m : List ℕ) → length l ≡ 0 → same_lines l m ≡ 0
      no_left [] m e = refl
      no_left (x ∷ l) m e = absurd (omega arith)

      no_right : (l m : List ℕ) → length m ≡ 0 → same_lines l m ≡ 0
      no_right [] m e = refl
      no_right (x ∷ l) [] e = refl
      no_right (x ∷ l) (y ∷ m) e = absurd (omega arith)

  pub shared-unlike : {n x y : ℕ} {xs ys : List ℕ} → Shared n (x ∷ xs) (y ∷ ys) → (x ≡ y → ⊥) → n ≡ same_lines a b
  unfolding same_lines
  shared-unlike {n} {x} {y} {xs} {ys} s u =
      let none : same_lines (x ∷ xs) (y ∷ ys) ≡ 0 = rw (ne_eqb x y u) refl in
      omega (arith, s.rest)

  -- a line more, or none
  pub shared-more : {n x y : ℕ} {xs ys : List ℕ} → Shared n (x ∷ xs) (y ∷ ys) → x ≡ y → x ≡ 10 → Shared (n + 1) xs ys
  unfolding same_lines
  shared-more {n} {x} {y} {xs} {ys} s e t =
      let left : same_lines (x ∷ xs) (y ∷ ys) ≡ 1 + same_lines xs ys = rw (eq-eqb x y e, t) refl in
      record { few = omega (arith, s.few); rest = omega (arith, s.rest, left) }

  pub shared-on : {n x y : ℕ} {xs ys : List ℕ} → Shared n (x ∷ xs) (y ∷ ys) → x ≡ y → (x ≡ 10 → ⊥) → Shared n xs ys
  unfolding same_lines
  shared-on {n} {x} {y} {xs} {ys} s e u =
      let left : same_lines (x ∷ xs) (y ∷ ys) ≡ same_lines xs ys = rw (eq-eqb x y e, ne_eqb x 10 u) (let z : 0 + same_lines xs ys ≡ same_lines xs ys = omega arith in z) in
      record { few = omega (arith, s.few); rest = omega (arith, s.rest, left) }

-- ROWS THAT ADD UP, so far
module _ (ns : List ℕ) where
  pub rows_more : {row : ℕ} → row < 16 → adds_up ns row ≡ true → bad_row ns row (16 - row) ≡ bad_row ns 0 16 → bad_row ns (row + 1) (16 - (row + 1)) ≡ bad_row ns 0 16
  unfolding bad_row
  rows_more {row} h e s =
      let less : 16 - row ≡ suc (16 - (row + 1)) = omega arith in
      sym (ap (bad_row ns row) less ∙ rw e refl) ∙ s

  pub rows-bad : {row : ℕ} → row < 16 → adds_up ns row ≡ false → bad_row ns row (16 - row) ≡ bad_row ns 0 16 → row ≡ bad_row ns 0 16
  unfolding bad_row
  rows-bad {row} h e s =
      let less : 16 - row ≡ suc (16 - (row + 1)) = omega arith in
      sym (ap (bad_row ns row) less ∙ rw e refl) ∙ s

  pub rows_all : {row : ℕ} → row ≡ 16 → bad_row ns row (16 - row) ≡ bad_row ns 0 16 → row ≡ bad_row ns 0 16
  unfolding bad_row
  rows_all {row} e s = e ∙ rw e at s

-- WHAT COMES OF THE BYTES: other bytes than a summary of their numbers has; a row that does not add up; a sum past 64 bits; a sheet more
module _ (total : List ℕ) (line : ℕ) (some : Bool) (text figures : List ℕ) (read : figures ≡ figures_in text) where
  abbrev Judged : Standing → List ℕ → Type 0
  Judged r after = (r ≡ (judged total line some text).at) × (after ≡ (judged total line some text).total)

  pub judged-unlike : {t : Bool} {w : ℕ} {r : Standing} → t ≡ same text (whole_text figures) → t ≡ false → w ≡ wrong_line line text → r ≡ nothing_held w some (Some Line) → Judged r total
  unfolding judged
  judged-unlike {t} {w} {r} e f g h =
      let like : same text (whole_text (figures_in text)) ≡ false = ap (λ l. same text (whole_text l)) (sym read) ∙ sym e ∙ f in
      rw like (h ∙ rw g refl, refl)

  module _ {t : Bool} {row : ℕ} (like : t ≡ same text (whole_text figures)) (on : t ≡ true) (rows : row ≡ bad_row figures 0 16) where
    like-true : same text (whole_text (figures_in text)) ≡ true
    like-true = ap (λ l. same text (whole_text l)) (sym read) ∙ sym like ∙ on

    rows_true : row ≡ bad_row (figures_in text) 0 16
    rows_true = rows ∙ ap (λ l. bad_row l 0 16) read

    pub judged-row : {w : ℕ} {r : Standing} → (row ≡ 16 → ⊥) → w ≡ later line (row + 1) → r ≡ nothing_held w some (Some Line) → Judged r total
    unfolding judged
    judged-row {w} {r} u g h =
        let bad : eqb (bad_row (figures_in text) 0 16) 16 ≡ false = ap (λ k. eqb k 16) (sym rows_true) ∙ ne_eqb row 16 u in
        rw (like-true, bad) (h ∙ rw (g, rows_true) refl, refl)

    module _ (all : row ≡ 16) (fit : Bool) (sum : List ℕ) (fitting : fit ≡ fits? (plus total figures)) (summed : sum ≡ wrapped (plus total figures)) where
      all_true : eqb (bad_row (figures_in text) 0 16) 16 ≡ true
      all_true = ap (λ k. eqb k 16) (sym rows_true ∙ all)

      fits-true : fits? (plus total (figures_in text)) ≡ fit
      fits-true = ap (λ l. fits? (plus total l)) (sym read) ∙ sym fitting

      pub judged-past : {r : Standing} → fit ≡ false → r ≡ nothing_held line some (Some Sum) → Judged r total
      unfolding judged
      judged-past {r} f h = rw (like-true, all_true, fits-true ∙ f) (h, refl)

      pub judged-added : {w : ℕ} {r : Standing} → fit ≡ true → w ≡ later line 19 → r ≡ nothing_held w true None → Judged r sum
      unfolding judged
      judged-added {w} {r} f g h =
          let unwrapped : sum ≡ plus total (figures_in text) = summed ∙ fits-wrapped (plus total figures) (sym fitting ∙ f) ∙ ap (plus total) read in
          rw (like-true, all_true, fits-true ∙ f) (h ∙ rw g refl, unwrapped)
