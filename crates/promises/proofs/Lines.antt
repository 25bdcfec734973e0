-- What a line says: the line that is written for an event says that event. Assumes nothing.
use Prim.Native.Nat.{ℕ, ◌≤◌, ◌<◌}
use mathlib.Core.Path.{◌≡◌, refl, sym, ap, ◌∙◌}
use mathlib.Core.Bool.{false}
use mathlib.Core.List.{List, [], ◌∷◌, ◌++◌, append-nil, append_assoc}
use native.Mathlib.Omega.{arith}
use native.Mathlib.Numerals.{add-one}
use borrow.Author.Tests.{ne_eqb}
use lib.Dec.{eqb}
use lib.ListN.{length}
use lib.Seq.{take-length}
use Rattle.lists.specs.Lists.{index_of, last_or}
use Rattle.events.specs.declared.Event.{Event}
use Rattle.events.specs.declared.Event.TheVariants.{NewBoard, Submit, Clock, Withdraw, GridBoard}
use Rattle.text.specs.Text.{ascii, decimal}
use Rattle.text.proofs.Meaning.{Digits, decimal-value, decimal-digits}
use Rattle.tokens.specs.declared.Sort.TheVariants.{Hash}
use Rattle.tokens.specs.Tokens.{blank, stops_at, ended, words_on, words, first_word, other_words, same, empty, wrong, nth}
use Rattle.tokens.proofs.Judged.{fits-decimal, some-digit}
use Rattle.std.proofs.Common.{Option, Some, Ok}
use Rattle.lines.specs.Lines.{Line, less_return, bare, planner_of, said_or, plain_line, grid_line, board_line}
use Rattle.lines.specs.Lines.{clock_line, withdraw_line, asks, submit_numbers, submit_behind, submit_line, said_by, says}
use Rattle.promises.specs.Said.{joined, words_of, Wide}

-- no comment and no carriage return among some bytes; no blank besides
Clear : List ℕ → Type 0
Clear [] = Unit {0}
Clear (b ∷ bs) = (eqb b 35 ≡ false) × (eqb b 13 ≡ false) × Clear bs

Solid : List ℕ → Type 0
Solid [] = Unit {0}
Solid (b ∷ bs) = (blank b ≡ false) × Solid bs

record Worded (w : List ℕ) : Type 0 where
  some : 0 < length w
  clear : Clear w
  solid : Solid w

data Every : List (List ℕ) → Type 0 where
  none : Every []
  more : {w : List ℕ} {ws : List (List ℕ)} → Worded w → Every ws → Every (w ∷ ws)

-- a word that ends
ended_some : (w : List ℕ) (ws : List (List ℕ)) → 0 < length w → ended w ws ≡ w ∷ ws
unfolding ended
ended_some [] ws h = absurd (omega arith)
ended_some (b ∷ bs) ws h = refl

-- bytes of a word behind one that has begun
on : (begun w rest : List ℕ) → Solid w → words_on begun (w ++ rest) ≡ words_on (begun ++ w) rest
unfolding words_on Solid
on begun [] rest p = ap (λ t. words_on t rest) (sym (append-nil begun))
on begun (b ∷ bs) rest p = rw p.0 (on (begun ++ (b ∷ [])) bs rest p.1 ∙ ap (λ t. words_on t rest) (append_assoc begun (b ∷ []) bs))

-- THE WORDS of words that are joined
parted : (ws : List (List ℕ)) → Every ws → words (joined ws) ≡ ws
unfolding words words_on joined
parted [] none = unfold ended in refl
parted (w ∷ []) (more x none) = ap (words_on []) (sym (append-nil w)) ∙ on [] w [] x.solid ∙ ended_some w [] x.some
parted (w ∷ v ∷ ws) (more x e) = on [] w (32 ∷ joined (v ∷ ws)) x.solid ∙ ap (ended w) (parted (v ∷ ws) e) ∙ ended_some w (v ∷ ws) x.some

clear_both : (xs ys : List ℕ) → Clear xs → Clear ys → Clear (xs ++ ys)
unfolding Clear
clear_both [] ys p q = q
clear_both (x ∷ xs) ys p q = (p.0, p.1, clear_both xs ys p.2 q)

clear-joined : (ws : List (List ℕ)) → Every ws → Clear (joined ws)
unfolding Clear joined
clear-joined [] none = tt
clear-joined (w ∷ []) (more x none) = x.clear
clear-joined (w ∷ v ∷ ws) (more x e) = clear_both w (32 ∷ joined (v ∷ ws)) x.clear (refl, refl, clear-joined (v ∷ ws) e)

no-comment : (l : List ℕ) → Clear l → index_of (stops_at Hash) l ≡ length l
unfolding Clear index_of stops_at
no-comment [] p = refl
no-comment (b ∷ bs) p = rw (p.0, no-comment bs p.2, add-one (length bs))

no_return : (d : ℕ) (l : List ℕ) → eqb d 13 ≡ false → Clear l → eqb (last_or d l) 13 ≡ false
unfolding Clear last_or
no_return d [] h p = h
no_return d (b ∷ bs) h p = no_return b bs p.1 p.2

bare-clear : (l : List ℕ) → Clear l → bare l ≡ l
unfolding bare less_return
bare-clear l p = rw (no_return 0 l refl p, no-comment l p) (take-length l)

-- WHAT JOINED WORDS SAY
says-words : (ws : List (List ℕ)) → Every ws → says (joined ws) ≡ said_by (first_word ws) (other_words ws)
unfolding says
says-words ws e = ap (λ t. said_by (first_word t) (other_words t)) (ap words (bare-clear (joined ws) (clear-joined ws e)) ∙ parted ws e)

-- digits are no blanks, begin no comment and no name
digits-clear : (ds : List ℕ) → Digits ds → Clear ds
unfolding Digits Clear
digits-clear [] p = tt
digits-clear (d ∷ ds) p = let low : 48 ≤ d = p.0.least in (ne_eqb d 35 (λ e. omega arith), ne_eqb d 13 (λ e. omega arith), digits-clear ds p.1)

digits-solid : (ds : List ℕ) → Digits ds → Solid ds
unfolding Digits Solid
digits-solid [] p = tt
digits-solid (d ∷ ds) p = let low : 48 ≤ d = p.0.least in (rw (ne_eqb d 32 (λ e. omega arith), ne_eqb d 9 (λ e. omega arith)), digits-solid ds p.1)

a-number : (x : ℕ) → Worded (decimal x)
a-number x = record { some = some-digit x; clear = digits-clear (decimal x) (decimal-digits x); solid = digits-solid (decimal x) (decimal-digits x) }

no_name : (ds : List ℕ) (x : ℕ) (xs : List ℕ) → Digits ds → 58 ≤ x → same ds (x ∷ xs) ≡ false
unfolding Digits same
no_name [] x xs p h = refl
no_name (d ∷ ds) x xs p h = let high : d ≤ 57 = p.0.most in rw (ne_eqb d x (λ e. omega arith))

planner-number : (n : ℕ) → n < 256 → ◌≡◌ {A = Option ℕ} (planner_of (decimal n)) (Some n)
unfolding planner_of
planner-number n h =
    let d : Digits (decimal n) = decimal-digits n in
    rw (
      no_name (decimal n) 114 (101 ∷ 102 ∷ 101 ∷ 114 ∷ 101 ∷ 110 ∷ 99 ∷ 101 ∷ []) d (omega arith),
      no_name (decimal n) 104 (111 ∷ 114 ∷ 105 ∷ 122 ∷ 111 ∷ 110 ∷ []) d (omega arith),
      no_name (decimal n) 115 (116 ∷ 117 ∷ 102 ∷ 102 ∷ 105 ∷ 110 ∷ 103 ∷ []) d (omega arith),
      no_name (decimal n) 102 (117 ∷ 108 ∷ 108 ∷ []) d (omega arith),
      fits-decimal 255 n (omega arith),
    ) (ap Some (decimal-value n))

board-word : Worded (ascii "board")
unfolding Clear Solid
board-word = record { some = omega arith; clear = (refl, refl, (refl, refl, (refl, refl, (refl, refl, (refl, refl, tt))))); solid = (refl, (refl, (refl, (refl, (refl, tt))))) }

submit-word : Worded (ascii "submit")
unfolding Clear Solid
submit-word = record { some = omega arith; clear = (refl, refl, (refl, refl, (refl, refl, (refl, refl, (refl, refl, (refl, refl, tt)))))); solid = (refl, (refl, (refl, (refl, (refl, (refl, tt)))))) }

clock-word : Worded (ascii "clock")
unfolding Clear Solid
clock-word = record { some = omega arith; clear = (refl, refl, (refl, refl, (refl, refl, (refl, refl, (refl, refl, tt))))); solid = (refl, (refl, (refl, (refl, (refl, tt))))) }

withdraw-word : Worded (ascii "withdraw")
unfolding Clear Solid
withdraw-word = record {
  some = omega arith;
  clear = (refl, refl, (refl, refl, (refl, refl, (refl, refl, (refl, refl, (refl, refl, (refl, refl, (refl, refl, tt))))))));
  solid = (refl, (refl, (refl, (refl, (refl, (refl, (refl, (refl, tt))))))));
}

-- A LINE FOR AN EVENT says that event
pub says-event : (v : Event) → Wide v → ◌≡◌ {A = Line} (says (joined (words_of v))) (Ok (Some v))
unfolding Wide words_of said_by empty same first_word other_words board_line plain_line grid_line clock_line withdraw_line submit_line submit_behind submit_numbers asks said_or wrong nth
says-event (NewBoard W H) h =
    says-words ((ascii "board") ∷ decimal W ∷ decimal H ∷ []) (more board-word (more (a-number W) (more (a-number H) none)))
    ∙ rw (fits-decimal 65535 W (omega arith), fits-decimal 65535 H (omega arith), decimal-value W, decimal-value H)
says-event (Submit n a) h =
    says-words ((ascii "submit") ∷ decimal n ∷ decimal a.id ∷ decimal a.w ∷ decimal a.h ∷ decimal a.e ∷ decimal a.d ∷ [])
    (more submit-word (more (a-number n) (more (a-number a.id) (more (a-number a.w) (more (a-number a.h) (more (a-number a.e) (more (a-number a.d) none)))))))
    ∙ rw (
      planner-number n h.0,
      fits-decimal 4294967295 a.id (omega arith),
      fits-decimal 65535 a.w (omega arith),
      fits-decimal 65535 a.h (omega arith),
      fits-decimal 4294967295 a.e (omega arith),
      fits-decimal 4294967295 a.d (omega arith),
      decimal-value a.id,
      decimal-value a.w,
      decimal-value a.h,
      decimal-value a.e,
      decimal-value a.d,
    )
says-event (Clock i) h = says-words ((ascii "clock") ∷ decimal i ∷ []) (more clock-word (more (a-number i) none)) ∙ rw (fits-decimal 4294967295 i (omega arith), decimal-value i)
says-event (Withdraw n) h = says-words ((ascii "withdraw") ∷ decimal n ∷ []) (more withdraw-word (more (a-number n) none)) ∙ rw (fits-decimal 4294967295 n (omega arith), decimal-value n)
says-event (GridBoard W H g) h =
    says-words ((ascii "board") ∷ decimal W ∷ decimal H ∷ decimal g ∷ []) (more board-word (more (a-number W) (more (a-number H) (more (a-number g) none))))
    ∙ rw (
      fits-decimal 65535 W (omega arith),
      fits-decimal 65535 H (omega arith),
      fits-decimal 255 g (omega arith),
      decimal-value W,
      decimal-value H,
      decimal-value g,
    )
