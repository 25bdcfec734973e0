-- `Board::busy` meets its contract: an unsound board and a refused instant are answered at once, another by the count. Assumes nothing.
use mathlib.Core.Path.{refl, sym}
use Rattle.refusals.proofs.First.{is_told}
use Rattle.board.proofs.Lookups.{counted-unsound, lent-on, counted-refused, counted-done}
use Rattle.board.proofs.Board.busy.Goals as goal

pub returns-in_default : goal.returns-in_default
returns-in_default c = rw c.from.ensures (sym (counted-unsound _ _ (sym c.in_default.ensures.sound)))

pub returns-in-Err : goal.returns-in-Err
returns-in-Err c =
    let k = c.in-Ok.ensures.kept _ refl in
    rw c.from-in-Err.ensures (sym (counted-refused _ _ _ k.stands k.good _ c.in-Err.ensures (is_told _)))

pub count-count-requires : goal.count-count-requires
count-count-requires c =
    let k = c.in-Ok.ensures.kept _ refl in
    rw c.from-2.ensures (lent-on _ _ _ k.stands k.good)

pub returns : goal.returns
returns c =
    let k = c.in-Ok.ensures.kept _ refl in
    counted-done _ _ _ k.stands k.good _ c.in_default-refuse_instant.ensures refl (rw c.from-2.ensures at c.count-count.ensures)
