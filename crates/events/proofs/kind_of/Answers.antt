-- `events::kind_of` meets its contract. Assumes nothing.
use mathlib.Core.Path.{sym, ap}
use Rattle.events.specs.Records.{kind_of}
use Rattle.events.proofs.kind_of.Goals as goal

pub returns-in-NewBoard : goal.returns-in-NewBoard
unfolding kind_of
returns-in-NewBoard c = sym (ap kind_of c.in-NewBoard.is)

pub returns-in-Submit : goal.returns-in-Submit
unfolding kind_of
returns-in-Submit c = sym (ap kind_of c.in-Submit.is)

pub returns-in-Clock : goal.returns-in-Clock
unfolding kind_of
returns-in-Clock c = sym (ap kind_of c.in-Clock.is)

pub returns-in-Withdraw : goal.returns-in-Withdraw
unfolding kind_of
returns-in-Withdraw c = sym (ap kind_of c.in-Withdraw.is)

pub returns-in-GridBoard : goal.returns-in-GridBoard
unfolding kind_of
returns-in-GridBoard c = sym (ap kind_of c.in-GridBoard.is)
