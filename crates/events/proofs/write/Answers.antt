-- `events::write` meets its contract: each kind of event by its own writer. Assumes nothing.
use mathlib.Core.Path.{◌∙◌}
use Rattle.events.proofs.Writing.{number-written, clock-record, withdraw-record}
use Rattle.events.proofs.Told.{written-told}
use Rattle.events.proofs.write.Goals as goal

pub returns-in-NewBoard : goal.returns-in-NewBoard
returns-in-NewBoard c =
    let q = c.in-NewBoard.is in
    record {
      value = rw q c.write_new_board.ensures.value;
      buffer_after = rw q c.write_new_board.ensures.buffer_after;
      result_value = rw q (written-told c.write_new_board.ensures.value);
    }

pub returns-in-Submit : goal.returns-in-Submit
returns-in-Submit c =
    let q = c.in-Submit.is in
    record {
      value = rw q c.write_submit.ensures.value;
      buffer_after = rw q c.write_submit.ensures.buffer_after;
      result_value = rw q (written-told c.write_submit.ensures.value);
    }

pub returns-in-Clock : goal.returns-in-Clock
returns-in-Clock c =
    let q = c.in-Clock.is in
    let n = c.in-Clock.instant in
    let e = c.write_number.ensures in
    let w = number-written _ 3 n c.args.buffer.now (clock-record n) in
    record {
      value = rw q (e.value ∙ w.0);
      buffer_after = rw q (e.buffer_after ∙ w.1);
      result_value = rw q (written-told (e.value ∙ w.0));
    }

pub returns-in-Withdraw : goal.returns-in-Withdraw
returns-in-Withdraw c =
    let q = c.in-Withdraw.is in
    let n = c.in-Withdraw.id in
    let e = c.write_number-in-Withdraw.ensures in
    let w = number-written _ 4 n c.args.buffer.now (withdraw-record n) in
    record {
      value = rw q (e.value ∙ w.0);
      buffer_after = rw q (e.buffer_after ∙ w.1);
      result_value = rw q (written-told (e.value ∙ w.0));
    }

pub returns-in-GridBoard : goal.returns-in-GridBoard
returns-in-GridBoard c =
    let q = c.in-GridBoard.is in
    record {
      value = rw q c.write_grid_board.ensures.value;
      buffer_after = rw q c.write_grid_board.ensures.buffer_after;
      result_value = rw q (written-told c.write_grid_board.ensures.value);
    }
