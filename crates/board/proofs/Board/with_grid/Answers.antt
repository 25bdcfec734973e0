-- `Board::with_grid` meets its contract: a board of the size and grid asked for, or 2 and the board of zeros. Assumes nothing.
use mathlib.Core.Path.{sym, ap, ◌∙◌}
use mathlib.Core.Bool.{not}
use mathlib.Core.List.{[]}
use Rattle.tasks.specs.Numbers.{device, device_fits}
use Rattle.board.specs.Refusals.{refusal, refused_create}
use Rattle.board.specs.Calls.{or_refused, created}
use Rattle.refusals.proofs.First.{refused-by, passed_over_lem}
use Rattle.board.proofs.Board.with_grid.Goals as goal

pub returns-then-device_fits : goal.returns-then-device_fits
unfolding created refused_create refusal or_refused
returns-then-device_fits c =
    let a = c.args in
    rw (passed_over_lem 2 (not (device_fits (device a.columns a.rows a.grid))) [] (ap not (sym c.device_fits.ensures ∙ c.if-device_fits.true)), c.fresh-board.ensures)

pub returns : goal.returns
unfolding created refused_create or_refused
returns c =
    let a = c.args in
    rw (refused-by 2 (not (device_fits (device a.columns a.rows a.grid))) [] (ap not (sym c.device_fits.ensures ∙ c.if-device_fits.false)), c.fresh-board-2.ensures, c.from.ensures)
