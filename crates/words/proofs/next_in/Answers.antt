-- `words::next_in` meets its contract: the trailing zeros of what is left after a shift. Assumes nothing.
use native.Mathlib.Omega.{arith}
use Rattle.words.proofs.Digits.{least-some, least-none}
use Rattle.words.proofs.next_in.Goals as goal

pub returns-then-t-from : goal.returns-then-t-from
returns-then-t-from c = least-some 64 c.args.word c.args.from (omega arith) (omega arith)

pub returns-else-t-from : goal.returns-else-t-from
returns-else-t-from c = least-none 64 c.args.word c.args.from (omega arith) (omega arith)
