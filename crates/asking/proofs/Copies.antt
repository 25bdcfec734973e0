-- A text copied to the front of a buffer, and the answer's line with its rows behind it. Assumes nothing.
use Prim.Native.Nat.{ℕ, zero, suc, ◌+◌, ◌-◌, ◌*◌, ◌/◌, ◌%◌, ◌^◌, ◌≤◌, ◌<◌}
use mathlib.Core.Path.{◌≡◌, sym, ap, ap₂, ◌∙◌}
use mathlib.Core.Bool.{Bool, true, false, cond}
use mathlib.Core.List.{List, [], ◌∷◌, ◌++◌, append-nil}
use native.Mathlib.Nat.{zero-add, pow-suc}
use native.Mathlib.Decide.{ℕ_discrete as dec_eq}
use native.Mathlib.Omega.{arith}
use borrow.Author.Tests.{lt-ltb, eq-eqb, ne_eqb}
use lib.Dec.{ltb, eqb}
use lib.ListN.{length, take, drop, length-append}
use lib.Seq.{sets, sets-eq, take-append_seam}
use Rattle.lists.specs.Lists.{over_front}
use Rattle.text.specs.Text.{decimal_in, decimal, line_text}
use Rattle.text.specs.Digits.{Put}
use Rattle.text.proofs.Spelling.{put_both}
use Rattle.text.proofs.Rows.{rows-front}
use Rattle.board_text.specs.BoardText.{answer_text, ask_event, of_kind, is_cut_short, is_unknown, halt_text}
use Rattle.asking.specs.Asking.{replied}
use Rattle.asking.specs.Machine.{alone, whole_part, Said}
use Rattle.asking.specs.declared.Part.{Part}
pub use Rattle.board_text.proofs.Slots.{put_as}

-- the front of a local buffer, and as code lends it
pub front-text : (text lent : List ℕ) {n : ℕ} {buffer : List ℕ} → n ≡ length text → buffer ≡ over_front text lent → take n buffer ≡ text
front-text text lent h e = ap₂ take h e ∙ take-append_seam text (drop (length text) lent)

pub lent-text : (text lent : List ℕ) {n : ℕ} {buffer : List ℕ} → n ≡ length text → buffer ≡ over_front text lent → take (n - 0) buffer ≡ text
lent-text text lent {n} h e = front-text text lent (let z : n - 0 ≡ length text = omega arith in z) e

-- what was put at the front
pub at_front : {l m : List ℕ} {p : ℕ} {text : List ℕ} → Put l 0 text m p → length text ≤ length l → (p ≡ length text) × (m ≡ over_front text l)
at_front {l} {m} {p} {text} a h = (a.place ∙ zero-add _, rows-front text a (omega (arith, a.place)))

pub front-put : {l m : List ℕ} {p : ℕ} {text : List ℕ} → p ≡ length text → m ≡ over_front text l → length text ≤ length l → Put l 0 text m p
front-put {l} {m} {p} {text} e f h =
    record { stored = f ∙ sym (sets-eq text l 0 (omega arith) ∙ ap (λ k. text ++ drop k l) (zero-add (length text))); place = e ∙ sym (zero-add _) }

-- A TEXT COPIED from the front of a local buffer to the front of a lent one
pub copies : (text local : List ℕ) {n p : ℕ} {buffer l m : List ℕ} → n ≡ length text → buffer ≡ over_front text local
    → p ≡ 0 + length (take (n - 0) buffer) → m ≡ sets l 0 (take (n - 0) buffer) → Put l 0 text m p
copies text local h e a b = put_as _ text (lent-text text local h e) a b

-- THE LINE of the answer, and the rows behind it where its number is 0
module _ {number : ℕ} (rows : List ℕ) {l : List ℕ} where
  pub replies-rows : number ≡ 0 → {m out : List ℕ} {at r : ℕ} → Put l 0 (answer_text number) m at → Put m at rows out r → length (answer_text number) + length rows ≤ length l
      → (r ≡ length (replied number rows)) × (out ≡ over_front (replied number rows) l)
  unfolding replied
  replies-rows e a b fits = rw (eq-eqb number 0 e) (at_front (put_both a b) (omega (arith, length-append (answer_text number) rows)))

  pub replies-none : (number ≡ 0 → ⊥) → {m : List ℕ} {at : ℕ} → Put l 0 (answer_text number) m at → length (answer_text number) ≤ length l
      → (at ≡ length (replied number rows)) × (m ≡ over_front (replied number rows) l)
  unfolding replied
  replies-none n a fits = rw (ne_eqb number 0 n, append-nil) (at_front a fits)

-- where the number is not 0, the rows do not matter
pub replied-same : (n : ℕ) {xs ys : List ℕ} → (n ≡ 0 → xs ≡ ys) → replied n xs ≡ replied n ys
unfolding replied
replied-same n {xs} {ys} f = go (dec_eq n 0)
  where
    go : Dec (n ≡ 0) → answer_text n ++ cond (eqb n 0) xs [] ≡ answer_text n ++ cond (eqb n 0) ys []
    go (yes e) = ap (λ rows. answer_text n ++ cond (eqb n 0) rows []) (f e)
    go (no e) = rw (ne_eqb n 0 e)

-- NOTHING FOLLOWS a text
pub said-whole : {text l out : List ℕ} {r : Part} {n : ℕ} → r ≡ whole_part n → n ≡ length text → out ≡ over_front text l → Said (alone text) r l out
said-whole e h t = record { answer = e ∙ ap whole_part h; text = t }

-- A NUMBER BELOW A POWER OF TEN has no more digits than that
decimal-in : (d most x : ℕ) → x < 10 ^ suc d → length (decimal_in most x) ≤ suc d
unfolding decimal_in
decimal-in d zero x h = omega arith
decimal-in zero (suc most) x h = rw (lt-ltb x 10 h) (omega arith)
decimal-in (suc d) (suc most) x h =
    let high : x < 10 ^ suc d * 10 = rw pow-suc at h in
    go (decimal-in d most (x / 10) (omega arith)) (ltb x 10)
  where
    go : length (decimal_in most (x / 10)) ≤ suc d → (t : Bool) → length (cond t ((48 + x) ∷ []) (decimal_in most (x / 10) ++ ((48 + x % 10) ∷ []))) ≤ suc (suc d)
    go tenth true = omega arith
    go tenth false = omega (arith, length-append (decimal_in most (x / 10)) ((48 + x % 10) ∷ []))

decimal-few : (x : ℕ) → x < 10000000000 → length (decimal x) ≤ 10
unfolding decimal
decimal-few x h = decimal-in 9 (suc x) x h

pub answer-short : (n : ℕ) → n < 10000000000 → length (answer_text n) ≤ 18
unfolding answer_text line_text
answer-short n h = omega (arith, length-append (decimal n) (10 ∷ []), decimal-few n h)

-- the message of 15 and 16 is short
pub halt-short : (event kind end : ℕ) → event < 10000000000 → kind < 10000000000 → length (halt_text event kind end) ≤ 512
unfolding halt_text
halt-short event kind end e k = go (eqb end 15)
  where
    tail : Bool → List ℕ
    tail t = decimal kind ++ cond t is_cut_short is_unknown

    go : (t : Bool) → length (ask_event ++ (decimal event ++ (of_kind ++ (decimal kind ++ cond t is_cut_short is_unknown)))) ≤ 512
    go true = omega (arith, length-append (decimal event) (of_kind ++ tail true), length-append (decimal kind) is_cut_short, decimal-few event e, decimal-few kind k)
    go false = omega (arith, length-append (decimal event) (of_kind ++ tail false), length-append (decimal kind) is_unknown, decimal-few event e, decimal-few kind k)

-- the same text under another name
pub said-as : {x y : List ℕ} (l : List ℕ) {out : List ℕ} {r : ℕ} → x ≡ y → (r ≡ length x) × (out ≡ over_front x l) → (r ≡ length y) × (out ≡ over_front y l)
said-as l e h = (h.0 ∙ ap length e, h.1 ∙ ap (λ t. over_front t l) e)
