-- `asking::answer` meets its contract: each question has its own answer. Assumes nothing.
use mathlib.Core.Path.{refl}
use Rattle.asking.specs.Machine.{first_part}
use Rattle.asking.proofs.Copies.{said-whole}
use Rattle.asking.proofs.answer.Goals as goal

pub returns-in_default : goal.returns-in_default
unfolding first_part
returns-in_default c = rw c.in_default.is (said-whole c.whole.ensures refl refl)

pub returns-in-Horizon : goal.returns-in-Horizon
unfolding first_part
returns-in-Horizon c = rw (c.in-Some.is, c.in-Horizon.is) (said-whole c.whole-in-Horizon.ensures c.answer_horizon.ensures.value c.answer_horizon.ensures.out_after)

pub returns-in-Busy : goal.returns-in-Busy
unfolding first_part
returns-in-Busy c = rw (c.in-Some.is, c.in-Busy.is) (said-whole c.whole-in-Busy.ensures c.answer_busy.ensures.value c.answer_busy.ensures.out_after)

pub returns-in-Openings : goal.returns-in-Openings
returns-in-Openings c = rw (c.in-Some.is, c.in-Openings.is) (rw c.from.ensures at c.answer_openings.ensures)

pub returns-in-Board : goal.returns-in-Board
unfolding first_part
returns-in-Board c = rw (c.in-Some.is, c.in-Board.is) (said-whole c.whole-in-Board.ensures c.answer_board.ensures.value c.answer_board.ensures.out_after)

pub returns-in-Stamp : goal.returns-in-Stamp
unfolding first_part
returns-in-Stamp c = rw (c.in-Some.is, c.in-Stamp.is) (said-whole c.whole-in-Stamp.ensures c.answer_stamp.ensures.value c.answer_stamp.ensures.out_after)
