-- The machine's calls as code makes them: a byte more, a text's begin and its end. Assumes nothing.
use Prim.Native.Nat.{ℕ, ◌+◌, ◌≤◌, ◌<◌, min}
use mathlib.Core.Path.{◌≡◌, refl, sym, ap, ap₂, ◌∙◌}
use mathlib.Core.Bool.{Bool, true, false, ◌&&◌}
use mathlib.Core.List.{List, [], ◌∷◌, ◌++◌}
use native.Mathlib.Omega.{arith}
use native.Mathlib.Numerals.{add-one}
use borrow.Author.Tests.{le-leb, lt-leb, leb-true, leb-false}
use lib.Dec.{eqb, leb}
use lib.ListN.{length, get_or, set, take, drop, drop_of_length-le}
use lib.Seq.{take_all, take-suc-set, drop-cons}
use Rattle.std.proofs.Common.{Some, None}
use Rattle.std.specs.Option.{is_some}
use Rattle.tokens.specs.Tokens.{same}
use Rattle.sheets.specs.Sheets.{plus, fits?}
use Rattle.adding.specs.Adding.{whole_text}
use Rattle.adding.specs.declared.Fault.TheVariants.{Line}
use Rattle.adding.specs.declared.Standing.{Standing}
use Rattle.adding.specs.Machine.{figures_in, bad_row, wrong_line, State, nothing_held, verdict, judged, ends, counted, byte_on, fed_on, text_begun, text_ended, state_of}

-- after a judgement nothing is held
module _ (total : List ℕ) (line : ℕ) (some : Bool) (text held : List ℕ) where
  none-held : (a b c : Bool) → state_of (verdict total line some text a b c).total held (verdict total line some text a b c).at ≡ verdict total line some text a b c
  none-held true true true = refl
  none-held true true false = refl
  none-held true false c = refl
  none-held false b c = refl

  pub judged-state : state_of (judged total line some text).total held (judged total line some text).at ≡ judged total line some text
  unfolding judged
  judged-state = none-held (same text (whole_text (figures_in text))) (eqb (bad_row (figures_in text) 0 16) 16) (fits? (plus total (figures_in text)))

-- ONE BYTE MORE: the machine has stopped; there is no room; a summary ends; it goes on
module _ (total held : List ℕ) (at : Standing) (b : ℕ) where
  abbrev next : State
  next = byte_on (state_of total held at) b

  pub byte-stopped : is_some at.fault ≡ true → state_of total held at ≡ next
  unfolding byte_on
  byte-stopped u = rw u refl

  module _ (on : at.fault ≡ None) where
    pub byte_full : {r : Standing} → 4096 ≤ at.size → r ≡ nothing_held at.line at.some (Some Line) → state_of total held r ≡ next
    unfolding byte_on
    byte_full {r} h e = ap (state_of total held) e ∙ rw (on, le-leb 4096 at.size h) refl

    module _ (size : length held ≡ 4096) (room : at.size < 4096) where
      stored : take (at.size + 1) (set held at.size b) ≡ take at.size held ++ (b ∷ [])
      stored = ap (λ n. take n (set held at.size b)) (add-one at.size) ∙ take-suc-set held at.size b (omega arith)

      pub byte-judged : {t : Bool} {r : Standing} {after : List ℕ} → t ≡ ends at.lines at.size b → t ≡ true
          → let j = judged total at.line at.some (take (at.size + 1) (set held at.size b)) in
          r ≡ j.at → after ≡ j.total → state_of after (set held at.size b) r ≡ next
      unfolding byte_on
      byte-judged {t} {r} {after} e f g h =
          let l = set held at.size b in
          ap₂ (λ (a : List ℕ) (s : Standing). state_of a l s) h g
          ∙ judged-state total at.line at.some (take (at.size + 1) l) l
          ∙ ap (judged total at.line at.some) stored
          ∙ rw (on, lt-leb 4096 at.size room, sym e ∙ f) refl

      pub byte-kept : {t : Bool} {n : ℕ} → t ≡ ends at.lines at.size b → t ≡ false → n ≡ counted at.lines b
          → state_of total (set held at.size b) (record { size = at.size + 1; lines = n; line = at.line; some = at.some; fault = at.fault }) ≡ next
      unfolding byte_on
      byte-kept {t} {n} e f g =
          ap₂ (λ (l : List ℕ) (k : ℕ). record { total = total; begun = l; at = record { size = at.size + 1; lines = k; line = at.line; some = at.some; fault = at.fault } }) stored g
          ∙ rw (on, lt-leb 4096 at.size room, sym e ∙ f) refl

-- BYTES OF A PIECE, one more
module _ (s : State) (piece : List ℕ) where
  pub record Fed (r : State) (i : ℕ) : Type 0 where
    pub within : i ≤ length piece
    pub rest : fed_on r (drop i piece) ≡ fed_on s piece

  pub fed-more : {r q : State} {i : ℕ} → i < length piece → Fed r i → q ≡ byte_on r (get_or piece i 0) → Fed q (i + 1)
  unfolding fed_on
  fed-more {r} {q} {i} h f e = record {
    within = omega arith;
    rest = ap (λ p. fed_on p (drop (i + 1) piece)) e ∙ ap (λ n. fed_on (byte_on r (get_or piece i 0)) (drop n piece)) (add-one i)
        ∙ sym (ap (fed_on r) (drop-cons piece i 0 h)) ∙ f.rest;
  }

  pub fed-all : {r : State} {i : ℕ} → length piece ≤ i → Fed r i → r ≡ fed_on s piece
  unfolding fed_on
  fed-all {r} {i} h f = sym (ap (fed_on r) (drop_of_length-le piece h)) ∙ f.rest

-- A TEXT BEGINS, AND ENDS
module _ (total held : List ℕ) (at : Standing) where
  pub begun-stopped : is_some at.fault ≡ true → state_of total held at ≡ text_begun (state_of total held at)
  unfolding text_begun
  begun-stopped u = rw u refl

  pub begun-on : {r : Standing} → at.fault ≡ None → r ≡ nothing_held 1 false None → state_of total held r ≡ text_begun (state_of total held at)
  unfolding text_begun
  begun-on {r} on e = ap (state_of total held) e ∙ rw on refl

  pub ended-stopped : is_some at.fault ≡ true → state_of total held at ≡ text_ended (state_of total held at)
  unfolding text_ended
  ended-stopped u = rw u refl

  pub ended-behind : at.fault ≡ None → (eqb at.size 0 && at.some) ≡ true → state_of total held at ≡ text_ended (state_of total held at)
  unfolding text_ended
  ended-behind on e = rw (on, e) refl

  pub ended-inside : {r : Standing} {n w : ℕ} → at.fault ≡ None → (eqb at.size 0 && at.some) ≡ false → length held ≡ 4096 → n ≡ min at.size 4096
      → w ≡ wrong_line at.line (take n held) → r ≡ nothing_held w at.some (Some Line) → state_of total held r ≡ text_ended (state_of total held at)
  unfolding text_ended
  ended-inside {r} {n} {w} on e size m f g =
      ap (state_of total held) (g ∙ ap (λ k. nothing_held k at.some (Some Line)) (f ∙ ap (wrong_line at.line) (short (leb at.size 4096) refl)))
      ∙ rw (on, e) refl
    where
      short : (t : Bool) → leb at.size 4096 ≡ t → take n held ≡ take at.size held
      short true h = ap (λ j. take j held) (let z : n ≡ at.size = omega (arith, m, leb-true at.size 4096 h) in z)
      short false h =
          take_all n held (omega (arith, m, leb-false at.size 4096 h)) ∙ sym (take_all at.size held (omega (arith, leb-false at.size 4096 h)))
