-- A piece is gone over by itself, or behind the held bytes: what `reader::go_on` and `reader::feed` answer. Assumes nothing.
use Prim.Native.Nat.{ℕ, ◌*◌, ◌≤◌, min}
use mathlib.Core.Path.{◌≡◌, sym, ap, ◌∙◌, subst}
use mathlib.Core.Bool.{true, false}
use mathlib.Core.List.{List, ◌++◌, append_assoc}
use native.Mathlib.Omega.{arith}
use lib.ListN.{length, take, drop, length-append, length-drop, length-take, take-append-drop}
use lib.Seq.{drop-append-le}
use Rattle.lists.specs.Lists.{over_front}
use Rattle.session.specs.Recording.{line_numbers}
use Rattle.reader.specs.declared.Reader.{Reader}
use Rattle.reader.specs.declared.Fed.{Fed}
use Rattle.reader.specs.Reader.{held_of, heard_over, goes_on_with, open?, later_end, passed_over, as_fed, fed, fed_buffer}
use Rattle.reader.specs.Told.{Told}
use Rattle.reader.proofs.Bounds.{heard-bounded}
use Rattle.reader.proofs.Ends.{heard-open, heard-closed, alone, behind}

module _ (r : Reader) (piece answers : List ℕ) where
  -- nothing is held
  pub goes-alone : length (held_of r) ≡ 0 → {f : Fed} {after : List ℕ} → Told (heard_over r 0 piece (length answers)) f answers after
      → Told (goes_on_with r piece (length answers)) f answers after
  goes-alone e {f} {after} t = subst (λ h. Told h f answers after) (sym (alone r piece (length answers) e)) t

  -- a record has begun: six words are lent
  module _ {kept words : ℕ} {bytes : List ℕ} (k : kept ≡ length (held_of r)) (n : kept ≡ 0 → ⊥) (b : bytes ≡ take 18 (held_of r ++ piece)) (w : words ≡ min (length answers) 6) where
    abbrev lent : List ℕ
    lent = take words answers

    pub goes-behind : {f : Fed} {part after : List ℕ} → length part ≡ length lent → Told (heard_over r kept bytes (length lent)) f lent part → after ≡ part ++ drop words answers
        → Told (goes_on_with r piece (length answers)) f answers after
    goes-behind {f} {part} {after} s t a =
        subst (λ h. Told h f answers after) (same ∙ sym (behind r piece (length answers) (λ x. n (k ∙ x))))
        record { answer = t.answer; lines = a ∙ ap (λ x. x ++ drop words answers) t.lines ∙ joined }
      where
        long : length lent ≡ min (length answers) 6
        long = omega (arith, length-take words answers)

        same : heard_over r kept bytes (length lent) ≡ heard_over r (length (held_of r)) (take 18 (held_of r ++ piece)) (min (length answers) 6)
        same = λ i. heard_over r (k i) (b i) (long i)

        ls : List ℕ
        ls = line_numbers (heard_over r kept bytes (length lent)).lines

        fits : length ls ≤ length lent
        fits = omega (arith, s, ap length t.lines, length-append ls (drop (length ls) lent), length-drop (length ls) lent)

        joined : over_front ls lent ++ drop words answers ≡ over_front ls answers
        joined = append_assoc ls (drop (length ls) lent) (drop words answers)
            ∙ ap (λ x. ls ++ x) (sym (drop-append-le (length ls) lent (drop words answers) fits) ∙ ap (drop (length ls)) (take-append-drop words answers))

  -- the bounds that follow
  pub bounds : {f : Fed} → f ≡ fed r piece (length answers) → (f.count * 6 ≤ length answers) × (f.taken ≤ length piece)
  unfolding fed
  bounds e =
      let b = heard-bounded r piece (length answers) in
      (omega (arith, ap (λ x. x.count) e, b.fits), omega (arith, ap (λ x. x.taken) e, b.inside))

  -- the recording goes on
  pub feeds-open : open? r.end ≡ true → {f : Fed} {after : List ℕ} → Told (goes_on_with r piece (length answers)) f answers after
      → (f ≡ fed r piece (length answers)) × (after ≡ fed_buffer r piece answers)
  unfolding fed fed_buffer
  feeds-open e t =
      let q = sym (heard-open r piece (length answers) e) in
      (t.answer ∙ ap as_fed q, t.lines ∙ ap (λ h. over_front (line_numbers h.lines) answers) q)

  -- it has ended
  pub feeds-closed : open? r.end ≡ false → {f : Fed} → f ≡ as_fed (passed_over r piece (later_end r.end piece))
      → (f ≡ fed r piece (length answers)) × (answers ≡ fed_buffer r piece answers)
  unfolding fed fed_buffer line_numbers
  feeds-closed e t =
      let q = sym (heard-closed r piece (length answers) e) in
      (t ∙ ap as_fed q, ap (λ h. over_front (line_numbers h.lines) answers) q)
