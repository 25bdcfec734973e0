-- What a piece tells fits into the words lent, and no more is taken than it has. Assumes nothing.
use Prim.Native.Nat.{ℕ, suc, ◌+◌, ◌-◌, ◌*◌, ◌≤◌, min}
use mathlib.Core.List.{List, [], ◌∷◌, ◌++◌}
use native.Mathlib.Omega.{arith}
use lib.ListN.{length, take, length-append, length-take}
use Rattle.session.specs.Recording.{stop_line, Run, ran_from, room_for}
use Rattle.session.proofs.Recorded.{run_inside}
use Rattle.reader.specs.declared.Reader.{Reader}
use Rattle.reader.specs.Reader.{held_of, Heard, heard_over, heard}
use Rattle.reader.proofs.Cases.{over_by, heard-by}

-- so many words are enough, and so many bytes were there
pub record Bounded (words bytes : ℕ) (h : Heard) : Type 0 where
  pub fits : length h.lines * 6 ≤ words
  pub inside : h.taken ≤ bytes

over-bounded : (r : Reader) (kept : ℕ) (bytes : List ℕ) (words : ℕ) → Bounded words (length bytes - kept) (heard_over r kept bytes words)
over-bounded r kept bytes words =
    over_by (Bounded words (length bytes - kept)) r kept bytes words
    (λ q. record { fits = omega (arith, q); inside = omega (arith, run_inside room r.state r.number bytes) })
    (λ q k e. record { fits = omega (arith, q, length-append run.lines (stop_line (suc (r.number + length run.lines)) k 16 ∷ [])); inside = omega arith })
    (λ q f. record { fits = omega (arith, q); inside = omega arith })
  where
    room : ℕ
    room = room_for words r.number

    run : Run
    run = ran_from room r.state r.number bytes

pub heard-bounded : (r : Reader) (p : List ℕ) (words : ℕ) → Bounded words (length p) (heard r p words)
heard-bounded r p words =
    heard-by (Bounded words (length p)) r p words
    (λ o q. let b = over-bounded r 0 p words in record { fits = b.fits; inside = omega (arith, b.inside) })
    (λ o q.
    let b = over-bounded r (length (held_of r)) (take 18 (held_of r ++ p)) (min words 6) in
    record { fits = omega (arith, b.fits); inside = omega (arith, b.inside, length-take 18 (held_of r ++ p), length-append (held_of r) p) })
    (λ c. record { fits = omega arith; inside = omega arith })
