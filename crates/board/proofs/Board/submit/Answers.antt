-- `Board::submit` meets its contract: an unsound board is answered at once, another as is decided, and a place is booked. Assumes nothing.
use Prim.Native.Nat.{ℕ}
use mathlib.Core.Path.{◌≡◌, refl, sym, ◌∙◌}
use mathlib.Core.Logic.{inl, inr}
use native.Mathlib.Omega.{arith}
use Rattle.live.proofs.InUse.{free-lowest}
use Rattle.board.specs.declared.Answer.TheVariants.{Placed}
use Rattle.board.proofs.Submit.{submit-unsound, promised}
use Rattle.board.proofs.Placed.{rejected-places, refused-places, placed-books, unplaced-same}
use Rattle.board.proofs.Board.submit.Goals as goal

pub returns-in_default : goal.returns-in_default
returns-in_default c =
    let a = c.args in
    let all = promised _ _ (sym (submit-unsound a.self a.planner a.a (sym c.in_default.ensures.sound))) in
    record { value = rw c.from.ensures all.0; answer_value = rw c.from.ensures all.1 }

pub decide-answer-requires : goal.decide-answer-requires
decide-answer-requires c =
    let k = c.in-Ok.ensures.kept _ refl in
    record {
      slots = c.args.self.tasks;
      kept = k;
      lowest = free-lowest c.in-Ok.ensures.slots c.in-Ok.ensures.used c.lowest_free-free.ensures;
      masked = c.mark_for.ensures;
    }

pub book-requires : goal.book-requires
book-requires c =
    let a = c.args in
    let k = c.in-Ok.ensures.kept _ refl in
    let l = free-lowest c.in-Ok.ensures.slots c.in-Ok.ensures.used c.lowest_free-free.ensures in
    let o = placed-books a.self a.planner a.a l (sym (c.decide-answer.ensures _ k l) ∙ c.in-Placed.is) in
    (o.inside, omega (arith, o.fits))

pub returns-in-Rejected : goal.returns-in-Rejected
returns-in-Rejected c =
    let a = c.args in
    let k = c.in-Ok.ensures.kept _ refl in
    let l = free-lowest c.in-Ok.ensures.slots c.in-Ok.ensures.used c.lowest_free-free.ensures in
    let none : (column start finish : ℕ) → c.decide-answer.result ≡ Placed column start finish → ⊥ =
    elim c.in-Rejected.is [ inl e ↦ rw e rejected-places | inr e ↦ rw e.1 (refused-places e.0) ] in
    let all = promised _ _ (sym (unplaced-same a.self a.planner a.a _ (sym (c.decide-answer.ensures _ k l)) none)) in
    record { value = all.0; answer_value = all.1 }

pub returns-in-Placed : goal.returns-in-Placed
returns-in-Placed c =
    let a = c.args in
    let k = c.in-Ok.ensures.kept _ refl in
    let l = free-lowest c.in-Ok.ensures.slots c.in-Ok.ensures.used c.lowest_free-free.ensures in
    let o = placed-books a.self a.planner a.a l (sym (c.decide-answer.ensures _ k l) ∙ c.in-Placed.is) in
    let all = promised _ _ (c.book.ensures ∙ sym o.same) in
    record { value = all.0; answer_value = all.1 }
