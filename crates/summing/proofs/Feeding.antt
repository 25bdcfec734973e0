-- What `summing::feed` and `summing::close` answer: the numbers of the lines are theirs, and so are the figures. Assumes nothing.
use Prim.Native.Nat.{ℕ, ◌-◌, ◌≤◌}
use mathlib.Core.Path.{◌≡◌, sym, ap, ap₂, ◌∙◌, subst}
use mathlib.Core.List.{List, ◌++◌}
use native.Mathlib.Nat.{zero-add}
use native.Mathlib.Omega.{arith}
use lib.ListN.{length, drop}
use lib.Seq.{length-sets}
use Rattle.lists.specs.Lists.{over_front}
use Rattle.text.specs.Digits.{Put}
use Rattle.text.proofs.Spelling.{put_both}
use Rattle.text.proofs.Rows.{rows-front}
use Rattle.sheets.specs.Sheets.{plus, wrapped, fits?, sheet_text}
use Rattle.stops.specs.Stops.{stop_words, stop_said}
use Rattle.session.specs.declared.Ending.{Ending}
use Rattle.sheets.specs.declared.Sums.{Sums}
use Rattle.session.specs.Recording.{line_numbers, most_events}
use Rattle.reader.specs.declared.Fed.{Fed}
use Rattle.reader.specs.declared.Reader.{Reader}
use Rattle.reader.specs.Reader.{Heard, source_of, heard, as_fed, fed, fed_buffer, end_of}
use Rattle.figures.specs.Figures.{trials_from, sheet_of}
use Rattle.figures.specs.Rows.{trials_in}
use Rattle.summing.specs.declared.Summing.{Summing}
use Rattle.summing.specs.Summing.{summed, file_end, sum_text, sum_said, closed}
use Rattle.summing.proofs.Trials.{told-trials}
use Rattle.summing.proofs.Events.{heard-few}

module _ (s : Summing) (piece numbers : List ℕ) (words : ℕ) (m : words ≡ length numbers) where
  abbrev h : Heard
  h = heard s.reader piece words

  pub feeds : (f : Fed) {after : List ℕ} → f ≡ fed s.reader piece (length numbers) → after ≡ fed_buffer s.reader piece numbers
      → {more : List ℕ} → more ≡ sheet_of 0 (trials_in f.count s.reader.state.board.now after (source_of s.reader piece))
      → (sums : Sums) → sums ≡ record { figures = wrapped (plus s.figures more); fit = fits? (plus s.figures more) }
      → record { summing = record { reader = f.reader; figures = sums.figures; before = s.before }; taken = f.taken } ≡ summed s piece words
  unfolding fed fed_buffer summed
  feeds f {after} e b {more} c sums q = λ i. record { summing = record { reader = (same i).reader; figures = all i; before = s.before }; taken = (same i).taken }
    where
      there : heard s.reader piece (length numbers) ≡ h
      there = ap (heard s.reader piece) (sym m)

      same : f ≡ as_fed h
      same = e ∙ ap as_fed there

      lines : after ≡ line_numbers h.lines ++ drop (length (line_numbers h.lines)) numbers
      lines = b ∙ ap (λ (x : Heard). over_front (line_numbers x.lines) numbers) there

      told : trials_in f.count s.reader.state.board.now after (source_of s.reader piece) ≡ trials_from s.reader.state h.events
      told =
          ap₂ (λ n ns. trials_in n s.reader.state.board.now ns (source_of s.reader piece)) (ap (λ x. x.count) same) lines
          ∙ told-trials s.reader piece words (drop (length (line_numbers h.lines)) numbers)

      all : sums.figures ≡ wrapped (plus s.figures (sheet_of 0 (trials_from s.reader.state h.events)))
      all = ap (λ (x : Sums). x.figures) q ∙ ap (λ l. wrapped (plus s.figures l)) (c ∙ ap (sheet_of 0) told)

-- the count that is handed on
pub counts-few : (r : Reader) (piece : List ℕ) (words : ℕ) (f : Fed) → f ≡ fed r piece words → f.count ≤ most_events
unfolding fed
counts-few r piece words f e = omega (arith, ap (λ (x : Fed). x.count) e, heard-few r piece words)

-- the name by itself
module _ {l m x y : List ℕ} {at p : ℕ} (n : ℕ) (e : Ending) (same : x ≡ y) where
  pub words_of : Put l at (stop_words x n e) m p → Put l at (stop_words y n e) m p
  words_of w = subst (λ z. Put l at (stop_words z n e) m p) same w

  pub said_of : Put l at (stop_said x n e) m p → Put l at (stop_said y n e) m p
  said_of w = subst (λ z. Put l at (stop_said z n e) m p) same w

-- AT THE STOP: the sheet, and behind it where it stopped
pub closes : (s : Summing) (name : List ℕ) (e : Ending) (n : ℕ) → e ≡ end_of s.reader → n ≡ s.reader.number - s.before → (out err : List ℕ) {l m k : List ℕ} {at p q : ℕ}
    → Put out 0 (sheet_text s.figures) l at → Put l at (stop_words name n e) m p → Put err 0 (stop_said name n e) k q → p ≤ length m → q ≤ length k
    → (record { used = p; said = q } ≡ closed s name) × ((m ≡ over_front (sum_text s name) out) × ((k ≡ over_front (sum_said s name) err) × ((p ≤ length m) × (q ≤ length k))))
unfolding closed sum_text sum_said file_end
closes s name e n h c out err {l} {m} {k} {at} {p} {q} sheet words said u v = (
  (λ i. record { used = (all.place ∙ zero-add (length (sum_text s name))) i; said = (message.place ∙ zero-add (length (sum_said s name))) i }),
  (rows-front (sum_text s name) all (kept (sum_text s name) all u), (rows-front (sum_said s name) message (kept (sum_said s name) message v), (u, v))),
)
  where
    there : stop_words name n e ≡ stop_words name (s.reader.number - s.before) (end_of s.reader)
    there = ap₂ (stop_words name) c h

    all : Put out 0 (sum_text s name) m p
    all = put_both sheet (subst (λ x. Put l at x m p) there words)

    message : Put err 0 (sum_said s name) k q
    message = subst (λ x. Put err 0 x k q) (ap₂ (stop_said name) c h) said

    kept : {b a : List ℕ} {r : ℕ} (xs : List ℕ) → Put b 0 xs a r → r ≤ length a → r ≤ length b
    kept {b} {a} {r} xs o w = subst (λ z. r ≤ z) (ap length o.stored ∙ length-sets b 0 xs) w
