-- `Board::openings` meets its contract: an unsound board and a refused task are answered at once, for another the list is written. Assumes nothing.
use mathlib.Core.Path.{refl, sym}
use Rattle.refusals.proofs.First.{is_told}
use Rattle.board.proofs.Window.{unsound-opened, window-refused, may-list, listed-opened}
use Rattle.board.proofs.Board.openings.Goals as goal

pub returns-in_default : goal.returns-in_default
returns-in_default c =
    let a = c.args in
    let all = unsound-opened a.self a.a a.start a.column a.buffer.now (sym c.in_default.ensures.tested.sound) in
    record { value = rw c.from.ensures all.0; buffer_after = all.1 }

pub returns-in-Err : goal.returns-in-Err
returns-in-Err c =
    let a = c.args in
    let k = c.in-Ok.ensures.tested.kept _ refl in
    let all = window-refused a.self a.a a.start a.column a.buffer.now _ _ k c.in-Err.ensures (is_told _) in
    record { value = rw c.from-in-Err.ensures all.0; buffer_after = all.1 }

pub list-filled-requires : goal.list-filled-requires
list-filled-requires c =
    let a = c.args in
    let k = c.in-Ok.ensures.tested.kept _ refl in
    rw (c.window_of.ensures, c.from-2.ensures)
    (may-list a.self a.a a.start a.column a.buffer.now _ _ k c.in_default-refuse_openings.ensures refl (c.in-Ok.ensures.masked _ refl))

pub returns : goal.returns
returns c =
    let a = c.args in
    let k = c.in-Ok.ensures.tested.kept _ refl in
    let value = rw (c.window_of.ensures, c.from-2.ensures) at c.list-filled.ensures.value in
    let after = rw (c.window_of.ensures, c.from-2.ensures) at c.list-filled.ensures.buffer_after in
    let all = listed-opened a.self a.a a.start a.column a.buffer.now _ _ k c.in_default-refuse_openings.ensures refl value after in
    record { value = all.0; buffer_after = all.1 }
