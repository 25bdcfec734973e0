-- The number that a reader holds is that of the events it has told. Assumes nothing.
use Prim.Native.Nat.{ℕ, ◌+◌, min}
use mathlib.Core.Path.{◌≡◌, refl, ap}
use mathlib.Core.List.{List, ◌++◌}
use native.Mathlib.Omega.{arith}
use lib.ListN.{length, take, length-append}
use Rattle.events.specs.declared.Event.{Event}
use Rattle.session.specs.Recording.{Line, Run, ran_from, room_for}
use Rattle.session.proofs.Recorded.{run-events}
use Rattle.reader.specs.declared.Reader.{Reader}
use Rattle.reader.specs.Reader.{first_reader, held_of, Heard, heard_over, heard}
use Rattle.reader.proofs.Cases.{over_by, heard-by}
use Rattle.reader.proofs.Cuts.{Reads, done, feed}

-- so many events more
abbrev pub Counts : Reader → Heard → Type 0
Counts r h = h.reader.number ≡ r.number + length h.events

over-counts : (r : Reader) (kept : ℕ) (bytes : List ℕ) (words : ℕ) → Counts r (heard_over r kept bytes words)
over-counts r kept bytes words = over_by (Counts r) r kept bytes words (λ q. even) (λ q k e. even) (λ q f. even)
  where
    run : Run
    run = ran_from (room_for words r.number) r.state r.number bytes

    even : r.number + length run.lines ≡ r.number + length run.events
    even = ap (λ m. r.number + m) (run-events (room_for words r.number) r.state r.number bytes)

pub heard-counts : (r : Reader) (p : List ℕ) (words : ℕ) → Counts r (heard r p words)
heard-counts r p words =
    heard-by (Counts r) r p words (λ o q. over-counts r 0 p words)
    (λ o q. over-counts r (length (held_of r)) (take 18 (held_of r ++ p)) (min words 6)) (λ c. let y : r.number ≡ r.number + 0 = omega arith in y)

pub reads-number : {r last : Reader} {bytes : List ℕ} {ls : List Line} {vs : List Event} → Reads r bytes ls vs last → last.number ≡ r.number + length vs
reads-number (done r) = (let y : r.number ≡ r.number + 0 = omega arith in y)
reads-number (feed r p more words {ls} {vs} {last} next) =
    let h : Heard = heard r p words in
    let e = reads-number next in
    omega (arith, e, heard-counts r p words, length-append h.events vs)

pub first-number : first_reader.number ≡ 0
unfolding first_reader
first-number = refl
