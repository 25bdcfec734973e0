-- `steps::answered` meets its contract: each event is its call. Assumes nothing.
use Rattle.steps.specs.Outcomes.{outcome}
use Rattle.steps.proofs.answered.Goals as goal

pub returns-in-NewBoard : goal.returns-in-NewBoard
unfolding outcome
returns-in-NewBoard c = λ ks k. rw c.in-NewBoard.is (c.new_board.ensures ks k)

pub returns-in-Submit : goal.returns-in-Submit
unfolding outcome
returns-in-Submit c = λ ks k.
    rw (c.in-Submit.is, ← c.into.ensures) (c.submit.ensures ks k)

pub returns-in-Clock : goal.returns-in-Clock
returns-in-Clock c = λ ks k. rw c.in-Clock.is (c.clock.ensures ks k)

pub returns-in-Withdraw : goal.returns-in-Withdraw
returns-in-Withdraw c = λ ks k. rw c.in-Withdraw.is (c.withdraw.ensures ks k)

pub returns-in-GridBoard : goal.returns-in-GridBoard
unfolding outcome
returns-in-GridBoard c = λ ks k. rw c.in-GridBoard.is (c.new_board-in-GridBoard.ensures ks k)
