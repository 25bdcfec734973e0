-- What `listing::feed` answers: the numbers of the lines are theirs, and so is the text. Assumes nothing.
use Prim.Native.Nat.{ℕ, ◌-◌, ◌*◌, ◌≤◌}
use mathlib.Core.Path.{◌≡◌, ap, ap₂, ◌∙◌}
use mathlib.Core.Bool.{Bool, true, false, cond}
use mathlib.Core.List.{List, ◌++◌, append_assoc}
use native.Mathlib.Omega.{arith}
use lib.ListN.{length, take, drop, length-append, length-drop, length-take}
use Rattle.lists.specs.Lists.{over_front}
use Rattle.session.specs.Recording.{line_numbers}
use Rattle.reader.specs.declared.Fed.{Fed}
use Rattle.reader.specs.Reader.{Heard, source_of, heard, as_fed, fed, fed_buffer}
use Rattle.listing.specs.declared.Listing.{Listing}
use Rattle.listing.specs.Listing.{listing_text, lines_in, heard_in, listed, listed_text}
use Rattle.listing.specs.Code.{text_of}
use Rattle.listing.proofs.Lines.{told_text}

-- a part of an array and what lies behind it
pub whole-size : (part all : List ℕ) (n : ℕ) → length part ≡ length (take n all) → length (part ++ drop n all) ≡ length all
whole-size part all n e = omega (arith, length-append part (drop n all), length-drop n all, length-take n all)

-- a line takes no more than its room
pub lines_fit : (words : Bool) (count room : ℕ) → count ≤ lines_in words room → count * cond words 134 66 ≤ room
lines_fit true count room h = omega arith
lines_fit false count room h = omega arith

module _ (l : Listing) (piece out numbers : List ℕ) (most : ℕ) (m : most ≡ 6 * lines_in l.words (length out)) (z : length numbers ≡ 5952) where
  abbrev lent : List ℕ
  lent = take (most - 0) numbers

  abbrev h : Heard
  h = heard_in l piece (length out)

  words-lent : length lent ≡ 6 * lines_in l.words (length out)
  words-lent = omega (arith, length-take (most - 0) numbers)

  pub feeds : (f : Fed) {part : List ℕ} → f ≡ fed l.reader piece (length lent) → part ≡ fed_buffer l.reader piece lent
      → {used : ℕ} {text : List ℕ} → let all = part ++ drop (most - 0) numbers in
      used ≡ length (text_of l.words f.count all (source_of l.reader piece)) → text ≡ over_front (text_of l.words f.count all (source_of l.reader piece)) out
      → (record { listing = record { reader = f.reader; words = l.words }; taken = f.taken; used = used } ≡ listed l piece (length out)) × (text ≡ listed_text l piece out)
  unfolding fed fed_buffer listed listed_text
  feeds f {part} e b {used} {text} u t = (
    (λ i. record { listing = record { reader = (same i).reader; words = l.words }; taken = (same i).taken; used = (u ∙ ap length told) i }),
    t ∙ ap (λ x. over_front x out) told,
  )
    where
      there : heard l.reader piece (length lent) ≡ h
      there = ap (heard l.reader piece) words-lent

      same : f ≡ as_fed h
      same = e ∙ ap as_fed there

      lines : part ++ drop (most - 0) numbers ≡ line_numbers h.lines ++ (drop (length (line_numbers h.lines)) lent ++ drop (most - 0) numbers)
      lines =
          ap (λ x. x ++ drop (most - 0) numbers) (b ∙ ap (λ (x : Heard). over_front (line_numbers x.lines) lent) there)
          ∙ append_assoc (line_numbers h.lines) (drop (length (line_numbers h.lines)) lent) (drop (most - 0) numbers)

      told : text_of l.words f.count (part ++ drop (most - 0) numbers) (source_of l.reader piece) ≡ listing_text l.words h.lines
      told =
          ap₂ (λ c ns. text_of l.words c ns (source_of l.reader piece)) (ap (λ x. x.count) same) lines
          ∙ told_text l.words l.reader piece (6 * lines_in l.words (length out)) (drop (length (line_numbers h.lines)) lent ++ drop (most - 0) numbers)
