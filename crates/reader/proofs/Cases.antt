-- What a piece tells, case by case: a statement that holds of each way in which it can be told holds of it. Assumes nothing.
use Prim.Native.Nat.{ℕ, ◌-◌, ◌<◌, min}
use mathlib.Core.Path.{◌≡◌, refl, sym, ◌∙◌, subst}
use mathlib.Core.Bool.{Bool, true, false}
use mathlib.Core.List.{List, ◌++◌}
use native.Mathlib.Decide.{dec_lt, ℕ_discrete as dec_eq}
use native.Mathlib.Omega.{arith}
use borrow.Author.Tests.{lt-ltb, le-ltb}
use lib.ListN.{length, take, drop}
use Rattle.std.specs.Prelude.{Ok, Err}
use Rattle.events.specs.Records.{Reading}
use Rattle.events.specs.declared.ReadError.TheVariants.{CutShort, Unknown}
use Rattle.events.specs.Records.{read_from}
use Rattle.session.specs.Recording.{Run, ran_from, room_for}
use Rattle.session.proofs.Recorded.{run-few}
use Rattle.reader.specs.declared.Reader.{Reader}
use Rattle.reader.specs.Reader.{held_of, Heard, is_full, holds_on, meets_stranger, stops_before, heard_over, later_end, passed_over, open?, heard}
use Rattle.reader.proofs.Ends.{heard-open, heard-closed, alone, behind}

-- what is no stranger is held
pub stops-known : (r : Reader) (run : Run) (rest : List ℕ) (taken : ℕ) (x : Reading) → ((k : ℕ) → x ≡ Err (Unknown k) → ⊥) → stops_before r run rest taken x ≡ holds_on r run rest taken
unfolding stops_before
stops-known r run rest taken (Ok x) f = refl
stops-known r run rest taken (Err (CutShort k)) f = refl
stops-known r run rest taken (Err (Unknown k)) f = absurd (f k refl)

stops-strange : (r : Reader) (run : Run) (rest : List ℕ) (taken k : ℕ) → stops_before r run rest taken (Err (Unknown k)) ≡ meets_stranger r run taken k
unfolding stops_before
stops-strange r run rest taken k = refl

-- A RUN OVER SOME BYTES: the room is full, or a stranger comes, or the begin of a record
module _ (P : Heard → Type 0) (r : Reader) (kept : ℕ) (bytes : List ℕ) (words : ℕ) where
  abbrev room : ℕ
  room = room_for words r.number

  abbrev run : Run
  run = ran_from room r.state r.number bytes

  abbrev rest : List ℕ
  rest = drop run.taken bytes

  pub over_by : (length run.lines ≡ room → P (is_full r kept run))
      → (length run.lines < room → (k : ℕ) → read_from rest ≡ Err (Unknown k) → P (meets_stranger r run (length bytes - kept) k))
      → (length run.lines < room → ((k : ℕ) → read_from rest ≡ Err (Unknown k) → ⊥) → P (holds_on r run rest (length bytes - kept))) → P (heard_over r kept bytes words)
  unfolding heard_over
  over_by full strange holds = go (dec_lt (length run.lines) room)
    where
      known : length run.lines < room → (x : Reading) → read_from rest ≡ x → ((k : ℕ) → x ≡ Err (Unknown k) → ⊥) → P (stops_before r run rest (length bytes - kept) x)
      known q x e f = subst P (sym (stops-known r run rest (length bytes - kept) x f)) (holds q (λ k z. f k (sym e ∙ z)))

      stops : length run.lines < room → (x : Reading) → read_from rest ≡ x → P (stops_before r run rest (length bytes - kept) x)
      stops q (Err (Unknown k)) e = subst P (sym (stops-strange r run rest (length bytes - kept) k)) (strange q k e)
      stops q (Ok x) e = known q (Ok x) e (λ k z. let y : ◌≡◌ {A = ℕ} 0 1 = cc in omega arith)
      stops q (Err (CutShort j)) e = known q (Err (CutShort j)) e (λ k z. let y : ◌≡◌ {A = ℕ} 0 1 = cc in omega arith)

      go : Dec (length run.lines < room) → P (heard_over r kept bytes words)
      go (yes q) = rw (lt-ltb (length run.lines) room q) (stops q (read_from rest) refl)
      go (no q) = rw (le-ltb (length run.lines) room (omega arith)) (full (omega (arith, run-few room r.state r.number bytes)))

-- A PIECE: it is gone over by itself, or behind the held bytes, or the recording has ended
module _ (P : Heard → Type 0) (r : Reader) (p : List ℕ) (words : ℕ) where
  pub heard-by : (open? r.end ≡ true → length (held_of r) ≡ 0 → P (heard_over r 0 p words))
      → (open? r.end ≡ true → (length (held_of r) ≡ 0 → ⊥) → P (heard_over r (length (held_of r)) (take 18 (held_of r ++ p)) (min words 6)))
      → (open? r.end ≡ false → P (passed_over r p (later_end r.end p))) → P (heard r p words)
  heard-by one two three = go (open? r.end) refl (dec_eq (length (held_of r)) 0)
    where
      go : (b : Bool) → open? r.end ≡ b → Dec (length (held_of r) ≡ 0) → P (heard r p words)
      go true e (yes q) = subst P (sym (heard-open r p words e ∙ alone r p words q)) (one e q)
      go true e (no q) = subst P (sym (heard-open r p words e ∙ behind r p words q)) (two e q)
      go false e q = subst P (sym (heard-closed r p words e)) (three e)
