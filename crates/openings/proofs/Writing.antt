-- Openings written one after the other: a run more, and what the buffer and the answer are when no more fits or none is left. Assumes nothing.
use Prim.Native.Nat.{ℕ, ◌+◌, ◌*◌, ◌/◌, ◌≤◌, ◌<◌}
use mathlib.Core.Path.{◌≡◌, refl, sym, ap, ◌∙◌}
use mathlib.Core.Bool.{true, false}
use mathlib.Core.List.{List, [], ◌∷◌, ◌++◌, append-nil, append_assoc}
use native.Mathlib.Nat.{zero-add}
use native.Mathlib.Omega.{arith}
use borrow.Author.Tests.{lt-ltb, le-ltb}
use lib.ListN.{length, take, length-append}
use lib.Seq.{sets, sets-eq, length-sets, take_all, take-append_seam}
use Rattle.lists.specs.Lists.{over_front}
use Rattle.lists.proofs.Stores.{sets-append}
use Rattle.planners.specs.Openings.{Place, pair_numbers}
use Rattle.openings.specs.Filled.{filled_of}
use Rattle.looking.proofs.Runs.{words_append}
pub use Rattle.looking.proofs.Runs.{words-length, run_length}

-- of the openings `all`, n stand in the buffer, and `rest` is left
pub record Written (all : List Place) (l buffer : List ℕ) (n : ℕ) (rest : List Place) : Type 0 where
  pub done : List Place
  pub parts : all ≡ done ++ rest
  pub words : buffer ≡ sets l 0 (pair_numbers done)
  pub count : n ≡ length done
  pub room : n * 2 ≤ length l

pub write-none : (all : List Place) (l : List ℕ) → Written all l l 0 all
unfolding pair_numbers
write-none all l = record { done = []; parts = refl; words = refl; count = refl; room = omega arith }

module _ {all : List Place} {l buffer : List ℕ} {n : ℕ} {rest : List Place} (o : Written all l buffer n rest) where
  -- no store changes the length
  pub same-room : length buffer ≡ length l
  same-room = ap length o.words ∙ length-sets l 0 (pair_numbers o.done)

  -- the same is left after another pair
  pub write-on : {more : List Place} → rest ≡ more → Written all l buffer n more
  write-on e = record { done = o.done; parts = rw (← e) o.parts; words = o.words; count = o.count; room = o.room }

  -- A RUN MORE
  pub write-run : (ps : List Place) {more : List Place} {after : List ℕ} {m : ℕ} → rest ≡ ps ++ more → after ≡ sets buffer (n * 2) (pair_numbers ps)
      → m ≡ n + length ps → m * 2 ≤ length l → Written all l after m more
  write-run ps {more} {after} {m} e s c h = record {
    done = o.done ++ ps;
    parts = o.parts ∙ ap (λ x. o.done ++ x) e ∙ sym (append_assoc o.done ps more);
    words =
        let size : n * 2 ≡ 0 + length (pair_numbers o.done) = omega (arith, words-length o.done, o.count) in
        s ∙ ap (λ b. sets b (n * 2) (pair_numbers ps)) o.words ∙ ap (λ k. sets (sets l 0 (pair_numbers o.done)) k (pair_numbers ps)) size
        ∙ sets-append l 0 (pair_numbers o.done) (pair_numbers ps) ∙ ap (sets l 0) (sym (words_append o.done ps));
    count = omega (arith, length-append o.done ps, o.count);
    room = h;
  }

  -- what was written are the first of them, as many as fit
  finished : take (length l / 2) all ≡ o.done → buffer ≡ over_front (pair_numbers (take (length l / 2) all)) l
  finished e =
      let fits : 0 + length (pair_numbers o.done) ≤ length l = omega (arith, words-length o.done, o.count, o.room) in
      o.words ∙ sets-eq (pair_numbers o.done) l 0 fits ∙ rw zero-add (ap (λ ps. over_front (pair_numbers ps) l) (sym e))

  -- NONE IS LEFT
  pub write-all : rest ≡ [] → (record { count = n; more = false } ≡ filled_of (length l) all) × (buffer ≡ over_front (pair_numbers (take (length l / 2) all)) l)
  unfolding filled_of
  write-all e = (rw (first, size, le-ltb (length l / 2) (length o.done) (omega (arith, o.count, o.room))) (ap (λ k. record { count = k; more = false }) o.count), finished first)
    where
      every : all ≡ o.done
      every = o.parts ∙ ap (λ x. o.done ++ x) e ∙ append-nil o.done

      first : take (length l / 2) all ≡ o.done
      first = ap (take (length l / 2)) every ∙ take_all (length l / 2) o.done (omega (arith, o.count, o.room))

      size : length all ≡ length o.done
      size = ap length every

  -- NO MORE FITS, and one is left
  pub write-full : {p : Place} {more : List Place} → rest ≡ p ∷ more → length l / 2 ≤ n
      → (record { count = n; more = true } ≡ filled_of (length l) all) × (buffer ≡ over_front (pair_numbers (take (length l / 2) all)) l)
  unfolding filled_of
  write-full {p} {more} e h = (rw (first, lt-ltb (length l / 2) (length all) size) (ap (λ k. record { count = k; more = true }) o.count), finished first)
    where
      same : length l / 2 ≡ length o.done
      same = omega (arith, o.count, o.room)

      first : take (length l / 2) all ≡ o.done
      first = ap (take (length l / 2)) o.parts ∙ ap (λ k. take k (o.done ++ rest)) same ∙ take-append_seam o.done rest

      size : length l / 2 < length all
      size = omega (arith, ap length (o.parts ∙ ap (λ x. o.done ++ x) e), length-append o.done (p ∷ more))
