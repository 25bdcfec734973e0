-- `horizon::closed` meets its contract: the test is that of `leb`. Assumes nothing.
use Prim.Native.Nat.{min}
use mathlib.Core.Path.{ap, ◌∙◌}
use borrow.Author.Tests.{le-leb, lt-leb}
use Rattle.horizon.proofs.closed.Goals as goal

pub returns-then-w-to : goal.returns-then-w-to
returns-then-w-to c =
    simp (le-leb _ _ c.if-w-to.true) (c.min.ensures ∙ ap (λ n. min n c.args.key) c.key.ensures)

pub returns-else-w-to : goal.returns-else-w-to
returns-else-w-to c = simp (lt-leb _ _ c.if-w-to.false)
