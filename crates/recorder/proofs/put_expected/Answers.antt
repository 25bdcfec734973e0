-- `recorder::put_expected` meets its contract: a text for each kind of line. Assumes nothing.
use Rattle.text.proofs.Spelling.{put_both}
use Rattle.recorder.specs.Recorder.{expected}
use Rattle.recorder.proofs.put_expected.Goals as goal

pub returns-in-Unnamed-clause-put : goal.returns-in-Unnamed-clause-put
unfolding expected
returns-in-Unnamed-clause-put c = rw c.in-Unnamed.is c.put_bytes.ensures.put

pub returns-in-Board-clause-put : goal.returns-in-Board-clause-put
unfolding expected
returns-in-Board-clause-put c = rw (c.in-Board.is, ← c.board_wants.ensures.wants) c.put_bytes-in-Board.ensures.put

pub returns-in-Submit-clause-put : goal.returns-in-Submit-clause-put
unfolding expected
returns-in-Submit-clause-put c =
    rw (c.in-Submit.is, ← c.submit_wants.ensures.wants) (put_both c.put_bytes-next.ensures.put c.put_bytes-in-Submit.ensures.put)

pub returns-in-Clock-clause-put : goal.returns-in-Clock-clause-put
unfolding expected
returns-in-Clock-clause-put c = rw (c.in-Clock.is, ← c.clock_wants.ensures.wants) c.put_bytes-in-Clock.ensures.put

pub returns-in-Withdraw-clause-put : goal.returns-in-Withdraw-clause-put
unfolding expected
returns-in-Withdraw-clause-put c = rw (c.in-Withdraw.is, ← c.withdraw_wants.ensures.wants) c.put_bytes-in-Withdraw.ensures.put
