-- `lines::board_line` meets its contract. Assumes nothing.
use Prim.Native.Nat.{◌+◌}
use mathlib.Core.Path.{sym, ap, ◌∙◌}
use native.Mathlib.Omega.{arith}
use Rattle.lines.specs.declared.Kind.TheVariants.{Board}
use Rattle.lines.specs.Lines.{wrong_line, plain_line}
use Rattle.lines.proofs.Saying.{said-wrong, said-right, board-grid, board-plain}
use Rattle.lines.proofs.board_line.Goals as goal

pub returns-in-Ok : goal.returns-in-Ok
unfolding plain_line
returns-in-Ok c =
    let n = c.in-Ok.ensures in
    board-plain _ (λ e. omega (arith, n.right)) (said-right Board 1 n.right (rw (n.read 0 (omega arith), n.read 1 (omega arith))))

pub returns-in-Err-eq3 : goal.returns-in-Err-eq3
returns-in-Err-eq3 c =
    let n = c.in-Err-eq3.ensures in
    c.grid_line.ensures ∙ board-grid _ (sym n.told ∙ c.in-Err-eq3.field-0-test)

pub returns-in-Err : goal.returns-in-Err
unfolding plain_line
returns-in-Err c =
    let n = c.in-Err.ensures in
    board-plain _ (λ e. c.in-Err.word-test.1 (n.told ∙ e)) (ap (λ w. wrong_line Board (w + 1)) n.told ∙ said-wrong Board 1 _ _ (λ e. omega (arith, n.told, n.some)))
