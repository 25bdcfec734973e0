-- A recording that has ended, and one that has not. Assumes nothing.
use Prim.Native.Nat.{ℕ, min}
use mathlib.Core.Path.{◌≡◌, refl, ap}
use mathlib.Core.Bool.{true, false, cond}
use mathlib.Core.List.{List, ◌++◌}
use borrow.Author.Tests.{eq-eqb, ne_eqb}
use lib.ListN.{length, take}
use Rattle.events.specs.Records.{read_from}
use Rattle.session.specs.declared.Ending.{Ending}
use Rattle.session.specs.declared.Ending.TheVariants.{NotYet, AtEnd, In15, In16, AtLast, PastLast}
use Rattle.reader.specs.declared.Reader.{Reader}
use Rattle.reader.specs.Reader.{held_of, open?, later_end, heard_over, goes_on_with, passed_over, heard, end_in, end_of}

module _ (r : Reader) where
  pub heard-open : (piece : List ℕ) (words : ℕ) → open? r.end ≡ true → heard r piece words ≡ goes_on_with r piece words
  unfolding heard
  heard-open piece words e = rw e

  pub heard-closed : (piece : List ℕ) (words : ℕ) → open? r.end ≡ false → heard r piece words ≡ passed_over r piece (later_end r.end piece)
  unfolding heard
  heard-closed piece words e = rw e

  pub end-open : open? r.end ≡ true → end_of r ≡ end_in (read_from (held_of r))
  unfolding end_of
  end-open e = rw e

  pub end-closed : open? r.end ≡ false → end_of r ≡ r.end
  unfolding end_of
  end-closed e = ap (λ b. cond b (end_in (read_from (held_of r))) r.end) e

-- a piece by itself, and one behind the held bytes
pub alone : (r : Reader) (piece : List ℕ) (words : ℕ) → length (held_of r) ≡ 0 → goes_on_with r piece words ≡ heard_over r 0 piece words
unfolding goes_on_with
alone r piece words h = rw (eq-eqb (length (held_of r)) 0 h)

pub behind : (r : Reader) (piece : List ℕ) (words : ℕ) → (length (held_of r) ≡ 0 → ⊥)
    → goes_on_with r piece words ≡ heard_over r (length (held_of r)) (take 18 (held_of r ++ piece)) (min words 6)
unfolding goes_on_with
behind r piece words h = rw (ne_eqb (length (held_of r)) 0 h)

-- every other end is closed
pub open-only : (e : Ending) → (e ≡ NotYet → ⊥) → open? e ≡ false
unfolding open?
open-only NotYet f = absurd (f refl)
open-only AtEnd f = refl
open-only (In15 k) f = refl
open-only (In16 k) f = refl
open-only AtLast f = refl
open-only PastLast f = refl

-- every end but that at the last event stays
pub later-stays : (e : Ending) (piece : List ℕ) → (e ≡ AtLast → ⊥) → later_end e piece ≡ e
unfolding later_end
later-stays NotYet piece f = refl
later-stays AtEnd piece f = refl
later-stays (In15 k) piece f = refl
later-stays (In16 k) piece f = refl
later-stays AtLast piece f = absurd (f refl)
later-stays PastLast piece f = refl
