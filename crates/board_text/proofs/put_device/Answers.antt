-- `board_text::put_device` meets its contract: three numbers on a grid of 1, four on any other. Assumes nothing.
use mathlib.Core.Path.{◌≡◌}
use mathlib.Core.Bool.{true, false}
use native.Mathlib.Omega.{arith}
use borrow.Author.Tests.{eq-eqb, ne_eqb}
use lib.Dec.{eqb}
use Rattle.board_text.specs.BoardText.{device_row}
use Rattle.board_text.proofs.put_device.Goals as goal

pub returns-then-board-eq1 : goal.returns-then-board-eq1
unfolding device_row
returns-then-board-eq1 c =
    let yes : eqb c.args.board.device.grid 1 ≡ true = eq-eqb _ 1 c.if-board-eq1.true in
    let p = c.put_words.ensures in
    record {
      put = rw yes (rw (c.from.ensures, c.from-2.ensures) at p.put);
      upper_bound = omega (arith, p.upper_bound);
    }

pub returns : goal.returns
unfolding device_row
returns c =
    let no : eqb c.args.board.device.grid 1 ≡ false = ne_eqb _ 1 c.if-board-eq1.false in
    let p = c.put_words-2.ensures in
    record {
      put = rw no (rw (c.from.ensures, c.from-2.ensures, c.from-3.ensures) at p.put);
      upper_bound = omega (arith, p.upper_bound);
    }
