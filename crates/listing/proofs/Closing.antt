-- What `listing::close` puts: the line of a 15, and the message. Assumes nothing.
use Prim.Native.Nat.{ℕ, suc, ◌≤◌}
use mathlib.Core.Path.{◌≡◌, refl, sym, ap, ◌∙◌, subst}
use mathlib.Core.Bool.{Bool, true, false}
use mathlib.Core.List.{List, [], ◌∷◌, ◌++◌, append-nil}
use native.Mathlib.Nat.{zero-add}
use native.Mathlib.Omega.{arith}
use lib.ListN.{length}
use lib.Seq.{length-sets}
use Rattle.std.specs.Prelude.{None}
use Rattle.lists.specs.Lists.{each, over_front}
use Rattle.text.specs.Text.{ascii, decimal_in, decimal, line_text, row_text}
use Rattle.text.specs.Digits.{Put, spaced}
use Rattle.text.proofs.Spelling.{line-more}
use Rattle.text.proofs.Rows.{line-rest, rows-front}
use Rattle.answer_words.specs.AnswerWords.{answer_words}
use Rattle.session.specs.declared.Ending.{Ending}
use Rattle.session.specs.Recording.{Line, stop_line}
use Rattle.reader.specs.Reader.{end_of, last_lines}
use Rattle.worded.specs.Worded.{row_of, id_text, worded_text}
use Rattle.listing.specs.declared.Listing.{Listing}
use Rattle.listing.specs.Listing.{listing_text, end_text, last_text, said_text, closed}

pub no_lines : (w : Bool) → listing_text w [] ≡ []
unfolding listing_text each
no_lines true = refl
no_lines false = refl

-- the line of a 15
one_plain : (l : Line) (w : Bool) → w ≡ false → row_text (row_of l) ≡ listing_text w (l ∷ [])
unfolding listing_text each
one_plain l w e = rw e (sym (append-nil (row_text (row_of l))))

one-worded : (l : Line) (w : Bool) → w ≡ true → worded_text l ≡ listing_text w (l ∷ [])
unfolding listing_text each
one-worded l w e = rw e (sym (append-nil (worded_text l)))

-- its end, and what stands in front of that in both forms
last-plain : line_text (decimal 0 ∷ []) ≡ ascii "0\n"
unfolding line_text decimal decimal_in
last-plain = refl

last-worded : line_text (decimal 0 ∷ id_text None ∷ decimal 15 ∷ answer_words 15 ∷ []) ≡ ascii "0 - 15 the record is cut short\n"
unfolding line_text id_text decimal decimal_in answer_words
last-worded = refl

module _ (w : Bool) (n k : ℕ) {l b c m : List ℕ} {q r s : ℕ} (x : Put l 0 (decimal (suc n) ++ (32 ∷ [])) b q) (z : Put b q (spaced (k ∷ 15 ∷ 0 ∷ 0 ∷ [])) c r) where
  with-end : (ws : List (List ℕ)) → Put c r (line_text (decimal 0 ∷ ws)) m s
      → Put l 0 (line_text (decimal (suc n) ∷ decimal k ∷ decimal 15 ∷ decimal 0 ∷ decimal 0 ∷ decimal 0 ∷ ws)) m s
  with-end ws t = line-more (decimal (suc n)) (decimal k) _ x (line-rest (k ∷ 15 ∷ 0 ∷ 0 ∷ []) (decimal 0) ws z t)

  pub cut-plain : w ≡ false → Put c r (ascii "0\n") m s → Put l 0 (listing_text w (stop_line (suc n) k 15 ∷ [])) m s
  unfolding row_text stop_line
  cut-plain e t = subst (λ u. Put l 0 u m s) (one_plain (stop_line (suc n) k 15) w e) (with-end [] (subst (λ u. Put c r u m s) (sym last-plain) t))

  pub cut-worded : w ≡ true → Put c r (ascii "0 - 15 the record is cut short\n") m s → Put l 0 (listing_text w (stop_line (suc n) k 15 ∷ [])) m s
  unfolding worded_text stop_line
  cut-worded e t = subst (λ u. Put l 0 u m s) (one-worded (stop_line (suc n) k 15) w e) (with-end _ (subst (λ u. Put c r u m s) (sym last-worded) t))

-- at the end
pub closes : (l : Listing) (e : Ending) → e ≡ end_of l.reader → (out err : List ℕ) {m n : List ℕ} {p q : ℕ}
    → Put out 0 (listing_text l.words (last_lines l.reader.number e)) m p → Put err 0 (end_text l.reader.number e) n q → p ≤ length m → q ≤ length n
    → (record { used = p; said = q } ≡ closed l) × ((m ≡ over_front (last_text l) out) × ((n ≡ over_front (said_text l) err) × ((p ≤ length m) × (q ≤ length n))))
unfolding closed
closes l e h out err {m} {n} {p} {q} x y f g =
    let a : Put out 0 (last_text l) m p = subst (λ z. Put out 0 (listing_text l.words (last_lines l.reader.number z)) m p) h x in
    let b : Put err 0 (said_text l) n q = subst (λ z. Put err 0 (end_text l.reader.number z) n q) h y in
    let o : length m ≡ length out = ap length a.stored ∙ length-sets out 0 (last_text l) in
    let r : length n ≡ length err = ap length b.stored ∙ length-sets err 0 (said_text l) in (
      (λ i. record { used = (a.place ∙ zero-add (length (last_text l))) i; said = (b.place ∙ zero-add (length (said_text l))) i }),
      (rows-front (last_text l) a (omega arith), (rows-front (said_text l) b (omega arith), (f, g))),
    )
