-- `held::all_if` meets its contract: by the test. Assumes nothing.
use Rattle.std.proofs.Common.{true, false, sym, ◌∙◌}
use Rattle.held.proofs.Columns.{picked}
use Rattle.held.proofs.all_if.Goals as goal

pub returns-then-holds : goal.returns-then-holds
returns-then-holds c = λ j h. picked true j h ∙ sym c.if-holds.true

pub returns-else-holds : goal.returns-else-holds
returns-else-holds c = λ j h. picked false j h ∙ sym c.if-holds.false
