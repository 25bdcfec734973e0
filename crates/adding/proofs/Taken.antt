-- WHAT IS TAKEN IS WHOLE SUMMARIES: where a machine has refused nothing, its texts hold sheets, and its figures are their sum. Assumes nothing.
use Prim.Native.Nat.{ℕ, ◌+◌, ◌<◌}
use mathlib.Core.Path.{◌≡◌, refl, sym, ap, ◌∙◌}
use mathlib.Core.Bool.{Bool, true, false, cond, ◌&&◌}
use mathlib.Core.List.{List, [], ◌∷◌, ◌++◌, append_assoc, append-nil}
use native.Mathlib.Omega.{arith}
use borrow.Author.Tests.{eqb-true}
use lib.Dec.{eqb, leb}
use lib.ListN.{length, length-append}
use Rattle.std.proofs.Common.{None}
use Rattle.std.specs.Option.{is_none}
use Rattle.lists.specs.Lists.{all?, each}
use Rattle.tokens.specs.Tokens.{same}
use Rattle.sheets.specs.Sheets.{plus, fits?}
use Rattle.sheets.proofs.Laws.{fits-other}
use Rattle.sheets.proofs.Rows.{each_more}
use Rattle.adding.specs.Adding.{whole_text, Good, AllGood, Holds, TextsHold, no_text, next-text, sum_of, no_figures}
use Rattle.adding.specs.declared.Standing.{Standing}
use Rattle.adding.specs.Machine.{figures_in, bad_row, State, nothing_held, verdict, judged, ends, kept, byte_as, byte_on, fed_on, text_begun}
use Rattle.adding.specs.Machine.{end_as, text_ended, text_added, texts_added, pieces_fed, begun_state}
use Rattle.adding.proofs.Faults.{faulty, faultless, not_faultless}
use Rattle.adding.proofs.Numbers.{both_l, both_r}
use Rattle.adding.proofs.Sums.{same-is, figures-size, rows_right, sum_more, sum-append, good_more, sum-size}

never : {A : Type 0} → true ≡ false → A
never e = absurd (let z : ◌≡◌ {A = ℕ} 0 1 = cc in omega arith)

-- BYTES THAT ARE TAKEN for a summary are the text of a good sheet, which is added
pub record Added (before : List ℕ) (text : List ℕ) (s : State) : Type 0 where
  pub sheet : List ℕ
  pub whole : text ≡ whole_text sheet
  pub good : Good sheet
  pub sum : s.total ≡ plus before sheet
  pub fit : fits? (plus before sheet) ≡ true
  pub none : s.begun ≡ []

pub judged-added : (before : List ℕ) (line : ℕ) (some : Bool) (text : List ℕ) → length before ≡ 83 → (judged before line some text).at.fault ≡ None
    → Added before text (judged before line some text)
unfolding judged
judged-added before line some text size e =
    go (same text (whole_text (figures_in text))) refl (eqb (bad_row (figures_in text) 0 16) 16) refl (fits? (plus before (figures_in text))) refl e
  where
    go : (a : Bool) → same text (whole_text (figures_in text)) ≡ a → (b : Bool) → eqb (bad_row (figures_in text) 0 16) 16 ≡ b → (c : Bool) → fits? (plus before (figures_in text)) ≡ c
        → (verdict before line some text a b c).at.fault ≡ None → Added before text (verdict before line some text a b c)
    go true h true k true f z = record {
      sheet = figures_in text;
      whole = same-is text (whole_text (figures_in text)) h;
      good = record {
        size = figures-size text;
        small = fits-other before (figures_in text) (size ∙ sym (figures-size text)) f;
        told = λ r l. eqb-true _ _ (rows_right (figures_in text) 0 16 (eqb-true _ 16 k) r (omega arith) (omega arith));
      };
      sum = refl;
      fit = f;
      none = refl;
    }
    go true h true k false f z = faulty z
    go true h false k c f z = faulty z
    go false h b k c f z = faulty z

-- THE BYTES OF A TEXT SO FAR are those of good sheets and the begin of another
pub record Came (first text : List ℕ) (s : State) : Type 0 where
  pub sheets : List (List ℕ)
  pub good : AllGood sheets
  pub whole : text ≡ each sheets whole_text ++ s.begun
  pub sum : s.total ≡ sum_of first sheets
  pub fit : fits? s.total ≡ true
  pub some : s.at.some ≡ true → 0 < length sheets
  pub none : s.at.size ≡ 0 → s.begun ≡ []

-- a machine that has stopped stays as it is
pub byte-stays : (s : State) (b : ℕ) → is_none s.at.fault ≡ false → byte_on s b ≡ s
unfolding byte_on
byte-stays s b e = rw e refl

pub fed-stays : (s : State) (bs : List ℕ) → is_none s.at.fault ≡ false → fed_on s bs ≡ s
unfolding fed_on
fed-stays s [] e = refl
fed-stays s (b ∷ bs) e = ap (λ r. fed_on r bs) (byte-stays s b e) ∙ fed-stays s bs e

-- ONE BYTE MORE
module _ {first text : List ℕ} (size : length first ≡ 83) where
  byte-kept : (s : State) (b : ℕ) (at : Standing) → Came first text s → at.some ≡ s.at.some → at.size ≡ s.at.size + 1
      → Came first (text ++ (b ∷ [])) (record { total = s.total; begun = s.begun ++ (b ∷ []); at = at })
  byte-kept s b at c e f = record {
    sheets = c.sheets;
    good = c.good;
    whole = ap (λ t. t ++ (b ∷ [])) c.whole ∙ append_assoc (each c.sheets whole_text) s.begun (b ∷ []);
    sum = c.sum;
    fit = c.fit;
    some = λ k. c.some (sym e ∙ k);
    none = λ k. absurd (omega arith);
  }

  byte-added : (s r : State) (b : ℕ) → Came first text s → Added s.total (s.begun ++ (b ∷ [])) r → Came first (text ++ (b ∷ [])) r
  unfolding each
  byte-added s r b c a =
      let more : each (c.sheets ++ (a.sheet ∷ [])) whole_text ≡ each c.sheets whole_text ++ whole_text a.sheet = each_more whole_text c.sheets a.sheet in
      record {
        sheets = c.sheets ++ (a.sheet ∷ []);
        good = good_more c.sheets c.good a.good;
        whole =
            ap (λ t. t ++ (b ∷ [])) c.whole ∙ append_assoc (each c.sheets whole_text) s.begun (b ∷ [])
            ∙ ap (λ t. each c.sheets whole_text ++ t) a.whole ∙ sym more ∙ sym (append-nil _)
            ∙ ap (λ t. each (c.sheets ++ (a.sheet ∷ [])) whole_text ++ t) (sym a.none);
        sum = a.sum ∙ ap (λ t. plus t a.sheet) c.sum ∙ sym (sum_more first c.sheets a.sheet);
        fit = ap fits? a.sum ∙ a.fit;
        some = λ k. omega (arith, length-append c.sheets (a.sheet ∷ []));
        none = λ k. a.none;
      }

  pub byte-came : (s : State) (b : ℕ) → Came first text s → (byte_on s b).at.fault ≡ None → Came first (text ++ (b ∷ [])) (byte_on s b)
  unfolding byte_on
  byte-came s b c e = go (is_none s.at.fault) refl (leb 4096 s.at.size) (ends s.at.lines s.at.size b) e
    where
      long : length s.total ≡ 83
      long = ap length c.sum ∙ sum-size first c.sheets size c.good

      go : (on : Bool) → is_none s.at.fault ≡ on → (full last : Bool) → (byte_as s b on full last).at.fault ≡ None → Came first (text ++ (b ∷ [])) (byte_as s b on full last)
      go true p true last h = faulty h
      go true p false true h =
          let more = s.begun ++ (b ∷ []) in
          byte-added s (judged s.total s.at.line s.at.some more) b c (judged-added s.total s.at.line s.at.some more long h)
      go true p false false h = byte-kept s b (kept s b).at c refl refl
      go false p full last h = absurd (not_faultless s.at.fault p h)

-- ALL BYTES
pub fed-came : {first : List ℕ} (size : length first ≡ 83) (text : List ℕ) (s : State) (bs : List ℕ) → Came first text s → (fed_on s bs).at.fault ≡ None
    → Came first (text ++ bs) (fed_on s bs)
unfolding fed_on
fed-came {first} size text s [] c e = rw (append-nil text) c
fed-came {first} size text s (b ∷ bs) c e = go (is_none (byte_on s b).at.fault) refl (λ d. fed-came size (text ++ (b ∷ [])) (byte_on s b) bs d e)
  where
    go : (t : Bool) → is_none (byte_on s b).at.fault ≡ t
        → (Came first (text ++ (b ∷ [])) (byte_on s b) → Came first ((text ++ (b ∷ [])) ++ bs) (fed_on (byte_on s b) bs)) → Came first (text ++ (b ∷ bs)) (fed_on (byte_on s b) bs)
    go true p rest = rw (append_assoc text (b ∷ []) bs) at (rest (byte-came size s b c (faultless _ p)))
    go false p rest = absurd (not_faultless (byte_on s b).at.fault p (ap (λ r. r.at.fault) (sym (fed-stays (byte_on s b) bs p)) ∙ e))

-- A TEXT that is taken holds sheets, and their sum is added
pub record Taken (first text : List ℕ) (s : State) : Type 0 where
  pub sheets : List (List ℕ)
  pub holds : Holds text sheets
  pub sum : s.total ≡ sum_of first sheets
  pub fit : fits? s.total ≡ true

pub text-taken : (s : State) (text : List ℕ) → length s.total ≡ 83 → fits? s.total ≡ true → (text_added s text).at.fault ≡ None → Taken s.total text (text_added s text)
unfolding text_added text_begun text_ended each AllGood sum_of
text-taken s text size fit e = go (is_none s.at.fault) refl e
  where
    started : State
    started = record { total = s.total; begun = []; at = nothing_held 1 false None }

    ended : (r : State) → (r.at.fault ≡ None → Came s.total text r) → (on : Bool) → is_none r.at.fault ≡ on → (behind : Bool) → (eqb r.at.size 0 && r.at.some) ≡ behind
        → (end_as r on behind).at.fault ≡ None → Taken s.total text (end_as r on behind)
    ended r came true p true h k =
        let c = came (faultless _ p) in
        let none : r.begun ≡ [] = c.none (eqb-true r.at.size 0 (both_l (eqb r.at.size 0) r.at.some h)) in
        record {
          sheets = c.sheets;
          holds = record {
            some = c.some (both_r (eqb r.at.size 0) r.at.some h);
            good = c.good;
            whole = c.whole ∙ ap (λ t. each c.sheets whole_text ++ t) none ∙ append-nil _;
          };
          sum = c.sum;
          fit = c.fit;
        }
    ended r came true p false h k = faulty k
    ended r came false p behind h k = absurd (not_faultless r.at.fault p k)

    fed : (r : State) → (r.at.fault ≡ None → Came s.total text r) → (text_ended r).at.fault ≡ None → Taken s.total text (text_ended r)
    fed r came k = ended r came (is_none r.at.fault) refl (eqb r.at.size 0 && r.at.some) refl k

    go : (t : Bool) → is_none s.at.fault ≡ t → (text_ended (fed_on (cond t started s) text)).at.fault ≡ None → Taken s.total text (text_ended (fed_on (cond t started s) text))
    go true h k =
        fed (fed_on started text)
        (λ f. fed-came size [] started text (record { sheets = []; good = tt; whole = refl; sum = refl; fit = fit; some = λ x. never (sym x); none = λ x. refl }) f) k
    go false h k = fed (fed_on s text) (λ f. absurd (not_faultless s.at.fault h (ap (λ r. r.at.fault) (sym (fed-stays s text h)) ∙ f))) k

-- SEVERAL TEXTS
pub text-stays : (s : State) (text : List ℕ) → is_none s.at.fault ≡ false → text_added s text ≡ s
unfolding text_added text_begun text_ended
text-stays s text e = ap text_ended (ap (λ r. fed_on r text) (rw e refl) ∙ fed-stays s text e) ∙ rw e refl

pub texts-stay : (s : State) (texts : List (List ℕ)) → is_none s.at.fault ≡ false → texts_added s texts ≡ s
unfolding texts_added
texts-stay s [] e = refl
texts-stay s (t ∷ ts) e = ap (λ r. texts_added r ts) (text-stays s t e) ∙ texts-stay s ts e

pub record TextsTaken (first : List ℕ) (texts : List (List ℕ)) (s : State) : Type 0 where
  pub sheets : List (List ℕ)
  pub holds : TextsHold texts sheets
  pub sum : s.total ≡ sum_of first sheets
  pub fit : fits? s.total ≡ true

pub texts-taken : (s : State) (texts : List (List ℕ)) → length s.total ≡ 83 → fits? s.total ≡ true → (texts_added s texts).at.fault ≡ None
    → TextsTaken s.total texts (texts_added s texts)
unfolding texts_added sum_of
texts-taken s [] size fit e = record { sheets = []; holds = no_text; sum = refl; fit = fit }
texts-taken s (t ∷ ts) size fit e = go (is_none (text_added s t).at.fault) refl (λ l f. texts-taken (text_added s t) ts l f e)
  where
    go : (x : Bool) → is_none (text_added s t).at.fault ≡ x
        → (length (text_added s t).total ≡ 83 → fits? (text_added s t).total ≡ true → TextsTaken (text_added s t).total ts (texts_added (text_added s t) ts))
        → TextsTaken s.total (t ∷ ts) (texts_added (text_added s t) ts)
    go true h rest =
        let a = text-taken s t size fit (faultless _ h) in
        let r = rest (ap length a.sum ∙ sum-size s.total a.sheets size a.holds.good) a.fit in
        record {
          sheets = a.sheets ++ r.sheets;
          holds = next-text a.holds r.holds;
          sum = r.sum ∙ ap (λ l. sum_of l r.sheets) a.sum ∙ sym (sum-append s.total a.sheets r.sheets);
          fit = r.fit;
        }
    go false h rest = absurd (not_faultless (text_added s t).at.fault h (ap (λ r. r.at.fault) (sym (texts-stay (text_added s t) ts h)) ∙ e))

-- FROM THE BEGIN
pub taken : (texts : List (List ℕ)) → (texts_added begun_state texts).at.fault ≡ None → TextsTaken no_figures texts (texts_added begun_state texts)
unfolding fits? all?
taken texts e = texts-taken begun_state texts refl refl e

-- WHATEVER THE PIECES, a text is its bytes
pub fed-append : (s : State) (xs ys : List ℕ) → fed_on s (xs ++ ys) ≡ fed_on (fed_on s xs) ys
unfolding fed_on
fed-append s [] ys = refl
fed-append s (x ∷ xs) ys = fed-append (byte_on s x) xs ys

pub pieces-joined : (s : State) (pieces : List (List ℕ)) → pieces_fed s pieces ≡ fed_on s (each pieces (λ p. p))
unfolding pieces_fed fed_on each
pieces-joined s [] = refl
pieces-joined s (p ∷ ps) = pieces-joined (fed_on s p) ps ∙ sym (fed-append s p (each ps (λ q. q)))
