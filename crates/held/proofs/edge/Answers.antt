-- `held::edge` meets its contract: no column, and those from the width on. Assumes nothing.
use Rattle.std.proofs.Common.{◌+◌, ◌&&◌, ◌||◌, ltb, leb, ap, ◌∙◌}
use Rattle.words.proofs.Columns.{column-none}
use Rattle.held.proofs.Columns.{edge-past}
use Rattle.held.proofs.edge.Goals as goal

pub returns : goal.returns
returns c = λ x p q. c.marked.ensures x p q ∙ ap (λ b. b || (leb (c.args.width + 1) x && ltb x 257)) (column-none x) ∙ edge-past c.args.width x q
