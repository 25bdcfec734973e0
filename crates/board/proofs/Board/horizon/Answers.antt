-- `Board::horizon` meets its contract: an unsound board is answered at once, a short buffer by 17, another by the list. Assumes nothing.
use mathlib.Core.Path.{refl, sym}
use native.Mathlib.Omega.{arith}
use Rattle.board.proofs.Lookups.{listed-unsound, lent-on, has-columns, listed-short, listed-done}
use Rattle.board.proofs.Board.horizon.Goals as goal

pub returns-in_default : goal.returns-in_default
returns-in_default c =
    let a = c.args in
    let all = listed-unsound a.self a.buffer.now (sym c.in_default.ensures.sound) in
    record { value = rw c.from.ensures all.0; buffer_after = all.1 }

pub list-count-requires : goal.list-count-requires
list-count-requires c =
    let k = c.in-Ok.ensures.kept _ refl in
    rw c.from-columns.ensures (lent-on _ _ _ k.stands k.good, k.falling, has-columns _ _ _ k.stands k.good)

pub returns-then-room-count : goal.returns-then-room-count
returns-then-room-count c =
    let a = c.args in
    let k = c.in-Ok.ensures.kept _ refl in
    let all = listed-short a.self _ _ k.stands k.good a.buffer.now (rw c.from-columns.ensures at c.list-count.ensures.value) (rw c.from-columns.ensures at c.list-count.ensures.buffer_after) (omega arith) in
    record { value = rw c.from-then-room-count.ensures all.0; buffer_after = all.1 }

pub returns : goal.returns
returns c =
    let a = c.args in
    let k = c.in-Ok.ensures.kept _ refl in
    let all = listed-done a.self _ _ k.stands k.good a.buffer.now (rw c.from-columns.ensures at c.list-count.ensures.value) (rw c.from-columns.ensures at c.list-count.ensures.buffer_after) (omega arith) in
    record { value = all.0; buffer_after = all.1 }
