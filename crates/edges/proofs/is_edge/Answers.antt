-- `edges::is_edge` meets its contract: the first column set from c - 1 on is c - 1, or it is clear. Assumes nothing.
use native.Mathlib.Omega.{arith}
use Rattle.edges.proofs.Weighed.{edge-first, edge-next}
use Rattle.edges.proofs.is_edge.Goals as goal

pub returns-then-c-le1 : goal.returns-then-c-le1
returns-then-c-le1 c = edge-first c.args.held c.args.c (omega arith)

pub returns : goal.returns
returns c = edge-next c.args.held c.args.c c.next_set.ensures (omega arith) (omega arith)
