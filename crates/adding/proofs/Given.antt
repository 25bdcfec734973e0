-- WHOLE SUMMARIES ARE TAKEN: texts that hold sheets whose sum fits are added, and what is printed is that sum; nothing else is printed. Assumes nothing.
use Prim.Native.Nat.{ℕ, suc, ◌+◌, ◌≤◌, ◌<◌}
use mathlib.Core.Path.{◌≡◌, refl, sym, ap, ap₂, ◌∙◌}
use mathlib.Core.Bool.{Bool, true, false, cond, ◌&&◌, ◌||◌}
use mathlib.Core.List.{List, [], ◌∷◌, ◌++◌, append_assoc, append-nil}
use mathlib.Core.Logic.{◌⊎◌, inl, inr}
use native.Mathlib.Omega.{arith}
use borrow.Author.Tests.{eq-eqb, le-leb, lt-leb}
use lib.Dec.{eqb, leb}
use lib.ListN.{length}
use Rattle.std.proofs.Common.{None}
use Rattle.std.specs.Option.{is_none}
use Rattle.lists.specs.Lists.{each}
use Rattle.sheets.specs.Sheets.{plus, fits?}
use Rattle.sheets.proofs.Laws.{length-plus}
use Rattle.adding.specs.Adding.{whole_text, Good, AllGood, Holds, TextsHold, no_text, next-text, sum_of, total}
use Rattle.adding.specs.Machine.{bad_row, later, State, judged, byte_on, fed_on, text_begun, text_ended, text_added, texts_added, begun_state, closing}
use Rattle.adding.proofs.Faults.{faultless}
use Rattle.adding.proofs.Sums.{is_same, right-rows, good-append, sum-append, sum-size, sum_fits}
use Rattle.adding.proofs.Back.{whole-read}
use Rattle.adding.proofs.Room.{newlines, front, front-end, front-room}
use Rattle.adding.proofs.Taken.{fed-append, taken}

-- a machine that goes on
abbrev going : List ℕ → List ℕ → ℕ → ℕ → ℕ → Bool → State
going sum begun size lines line some = record { total = sum; begun = begun; at = record { size = size; lines = lines; line = line; some = some; fault = None } }

-- BYTES BEFORE THE LAST are held
module _ (sum : List ℕ) (line : ℕ) (some : Bool) where
  byte-held : (begun : List ℕ) (size lines b : ℕ) → lines + cond (eqb b 10) 1 0 ≤ 18 → size < 4095
      → byte_on (going sum begun size lines line some) b ≡ going sum (begun ++ (b ∷ [])) (size + 1) (lines + cond (eqb b 10) 1 0) line some
  unfolding byte_on
  byte-held begun size lines b h k =
      rw (lt-leb 4096 size (omega arith), goes (eqb b 10) h)
      (ap (λ n. going sum (begun ++ (b ∷ [])) (size + 1) n line some) (count (eqb b 10) h))
    where
      goes : (t : Bool) → lines + cond t 1 0 ≤ 18 → ((t && leb 18 lines) || leb 4095 size) ≡ false
      goes true l = rw (lt-leb 18 lines (omega arith)) (lt-leb 4095 size k)
      goes false l = lt-leb 4095 size k

      count : (t : Bool) → lines + cond t 1 0 ≤ 18 → cond (t && leb lines 17) (lines + 1) lines ≡ lines + cond t 1 0
      count true l = rw (le-leb lines 17 (omega arith)) refl
      count false l = (let z : lines ≡ lines + 0 = omega arith in z)

  fed-held : (xs begun : List ℕ) (size lines : ℕ) → lines + newlines xs ≤ 18 → size + length xs ≤ 4095
      → fed_on (going sum begun size lines line some) xs ≡ going sum (begun ++ xs) (size + length xs) (lines + newlines xs) line some
  unfolding fed_on newlines
  fed-held [] begun size lines h k =
      let z : size ≡ size + 0 = omega arith in
      let l : lines ≡ lines + 0 = omega arith in
      ap (λ t. going sum t size lines line some) (sym (append-nil begun)) ∙ ap₂ (λ (n m : ℕ). going sum (begun ++ []) n m line some) z l
  fed-held (b ∷ xs) begun size lines h k =
      let e : ℕ = cond (eqb b 10) 1 0 in
      let z : size + 1 + length xs ≡ size + suc (length xs) = omega arith in
      let l : lines + e + newlines xs ≡ lines + (e + newlines xs) = omega arith in
      ap (λ s. fed_on s xs) (byte-held begun size lines b (omega arith) (omega arith))
      ∙ fed-held xs (begun ++ (b ∷ [])) (size + 1) (lines + e) (omega arith) (omega arith)
      ∙ ap (λ t. going sum t (size + 1 + length xs) (lines + e + newlines xs) line some) (append_assoc begun (b ∷ []) xs)
      ∙ ap₂ (λ (n m : ℕ). going sum (begun ++ (b ∷ xs)) n m line some) z l

  -- THE LAST BYTE: the summary is read, is the same, adds up, and is added
  judged-given : (ns : List ℕ) → Good ns → fits? (plus sum ns) ≡ true → judged sum line some (whole_text ns) ≡ going (plus sum ns) [] 0 0 (later line 19) true
  unfolding judged
  judged-given ns g f =
      let back = whole-read ns g in
      let rows : bad_row ns 0 16 ≡ 16 = right-rows ns 0 16 (λ k a b. eq-eqb _ _ (g.told k b)) in
      rw (back, is_same (whole_text ns), rows, f) refl

  byte_last : (begun : List ℕ) (size lines : ℕ) → 18 ≤ lines → size < 4096 → fed_on (going sum begun size lines line some) (10 ∷ []) ≡ judged sum line some (begun ++ (10 ∷ []))
  unfolding byte_on fed_on
  byte_last begun size lines h k = rw (lt-leb 4096 size k, le-leb 18 lines h) refl

  whole-given : (ns : List ℕ) → Good ns → fits? (plus sum ns) ≡ true → fed_on (going sum [] 0 0 line some) (whole_text ns) ≡ going (plus sum ns) [] 0 0 (later line 19) true
  whole-given ns g f =
      let room = front-room ns g in
      ap (fed_on (going sum [] 0 0 line some)) (front-end ns)
      ∙ fed-append (going sum [] 0 0 line some) (front ns) (10 ∷ [])
      ∙ ap (λ s. fed_on s (10 ∷ [])) (fed-held (front ns) [] 0 0 (omega (arith, room.ends)) (omega (arith, room.short)))
      ∙ byte_last (front ns) (0 + length (front ns)) (0 + newlines (front ns)) (omega (arith, room.ends)) (omega (arith, room.short))
      ∙ ap (judged sum line some) (sym (front-end ns)) ∙ judged-given ns g f

-- SHEETS ONE BEHIND ANOTHER: the machine goes on with their sum, between two summaries
record Behind (sum : List ℕ) (s : State) : Type 0 where
  total : s.total ≡ sum
  on : s.at.fault ≡ None
  none : s.at.size ≡ 0
  some : s.at.some ≡ true

sheets-given : (sheets : List (List ℕ)) (sum : List ℕ) (line : ℕ) → length sum ≡ 83 → AllGood sheets → fits? (sum_of sum sheets) ≡ true
    → Behind (sum_of sum sheets) (fed_on (going sum [] 0 0 line true) (each sheets whole_text))
unfolding AllGood sum_of each fed_on
sheets-given [] sum line size g f = record { total = refl; on = refl; none = refl; some = refl }
sheets-given (ns ∷ sheets) sum line size g f =
    let long : length (plus sum ns) ≡ 83 = length-plus sum ns (size ∙ sym g.0.size) ∙ size in
    let first = whole-given sum line true ns g.0 (sum_fits (plus sum ns) sheets long g.1 f) in
    rw (fed-append (going sum [] 0 0 line true) (whole_text ns) (each sheets whole_text), first) (sheets-given sheets (plus sum ns) (later line 19) long g.1 f)

-- one sheet or more, from a text's begin on
some-given : (sheets : List (List ℕ)) (sum : List ℕ) → 0 < length sheets → length sum ≡ 83 → AllGood sheets → fits? (sum_of sum sheets) ≡ true
    → Behind (sum_of sum sheets) (fed_on (going sum [] 0 0 1 false) (each sheets whole_text))
unfolding AllGood sum_of each
some-given [] sum h size g f = absurd (omega arith)
some-given (ns ∷ sheets) sum h size g f =
    let long : length (plus sum ns) ≡ 83 = length-plus sum ns (size ∙ sym g.0.size) ∙ size in
    let first = whole-given sum 1 false ns g.0 (sum_fits (plus sum ns) sheets long g.1 f) in
    rw (fed-append (going sum [] 0 0 1 false) (whole_text ns) (each sheets whole_text), first) (sheets-given sheets (plus sum ns) (later 1 19) long g.1 f)

-- A TEXT, and texts
pub record Kept (sum : List ℕ) (s : State) : Type 0 where
  pub total : s.total ≡ sum
  pub on : s.at.fault ≡ None

begun-given : (s : State) → s.at.fault ≡ None → text_begun s ≡ going s.total [] 0 0 1 false
unfolding text_begun
begun-given s on = rw on refl

ended-given : {sum : List ℕ} (s : State) → Behind sum s → text_ended s ≡ s
unfolding text_ended
ended-given s b =
    let behind : (eqb s.at.size 0 && s.at.some) ≡ true = ap₂ ◌&&◌ (eq-eqb s.at.size 0 b.none) b.some in
    rw (b.on, behind) refl

pub text-given : (s : State) {text : List ℕ} {sheets : List (List ℕ)} → s.at.fault ≡ None → length s.total ≡ 83 → Holds text sheets
    → fits? (sum_of s.total sheets) ≡ true → Kept (sum_of s.total sheets) (text_added s text)
unfolding text_added
text-given s {text} {sheets} on size h f =
    let b = some-given sheets s.total h.some size h.good f in
    let fed = fed_on (going s.total [] 0 0 1 false) (each sheets whole_text) in
    let all : text_ended (fed_on (text_begun s) text) ≡ fed =
    ap (λ r. text_ended (fed_on r text)) (begun-given s on) ∙ ap (λ t. text_ended (fed_on (going s.total [] 0 0 1 false) t)) h.whole ∙ ended-given fed b in
    record { total = ap (λ r. r.total) all ∙ b.total; on = ap (λ r. r.at.fault) all ∙ b.on }

pub texts-good : {texts sheets : List (List ℕ)} → TextsHold texts sheets → AllGood sheets
unfolding AllGood
texts-good no_text = tt
texts-good (next-text {sheets = sheets} {more = more} h rest) = good-append sheets more h.good (texts-good rest)

pub texts-given : (s : State) {texts sheets : List (List ℕ)} → s.at.fault ≡ None → length s.total ≡ 83 → TextsHold texts sheets
    → fits? (sum_of s.total sheets) ≡ true → Kept (sum_of s.total sheets) (texts_added s texts)
unfolding texts_added sum_of
texts-given s on size no_text f = record { total = refl; on = on }
texts-given s on size (next-text {t} {ts} {sheets} {more} h rest) f =
    let split : sum_of s.total (sheets ++ more) ≡ sum_of (sum_of s.total sheets) more = sum-append s.total sheets more in
    let long : length (sum_of s.total sheets) ≡ 83 = sum-size s.total sheets size h.good in
    let both : fits? (sum_of (sum_of s.total sheets) more) ≡ true = ap fits? (sym split) ∙ f in
    let one = text-given s on size h (sum_fits (sum_of s.total sheets) more long (texts-good rest) both) in
    let others = texts-given (text_added s t) one.on (ap length one.total ∙ long) rest (ap (λ l. fits? (sum_of l more)) one.total ∙ both) in
    record { total = others.total ∙ ap (λ l. sum_of l more) one.total ∙ sym split; on = others.on }

-- WHAT IS PRINTED: of texts that hold sheets whose sum fits, the summary of that sum; else nothing
pub prints : {texts sheets : List (List ℕ)} → TextsHold texts sheets → fits? (total sheets) ≡ true → closing (texts_added begun_state texts) ≡ whole_text (total sheets)
unfolding closing
prints {texts} {sheets} h f =
    let k = texts-given begun_state refl refl h f in
    rw k.on (ap whole_text k.total)

pub record Printed (texts : List (List ℕ)) : Type 0 where
  pub sheets : List (List ℕ)
  pub holds : TextsHold texts sheets
  pub fit : fits? (total sheets) ≡ true
  pub text : closing (texts_added begun_state texts) ≡ whole_text (total sheets)

pub prints-only : (texts : List (List ℕ)) → (closing (texts_added begun_state texts) ≡ []) ⊎ Printed texts
unfolding closing
prints-only texts = go (is_none (texts_added begun_state texts).at.fault) refl
  where
    go : (t : Bool) → is_none (texts_added begun_state texts).at.fault ≡ t
        → (cond (is_none (texts_added begun_state texts).at.fault) (whole_text (texts_added begun_state texts).total) [] ≡ []) ⊎ Printed texts
    go true e =
        let k = taken texts (faultless _ e) in
        inr (record {
          sheets = k.sheets;
          holds = k.holds;
          fit = ap fits? (sym k.sum) ∙ k.fit;
          text = rw e (ap whole_text k.sum);
        })
    go false e = inl (rw e refl)

-- so a machine that refused had no such sheets
pub refused : {texts sheets : List (List ℕ)} → ((texts_added begun_state texts).at.fault ≡ None → ⊥) → TextsHold texts sheets → fits? (total sheets) ≡ true → ⊥
refused {texts} u h f = u (texts-given begun_state refl refl h f).on
