-- `words::next_clear` meets its contract: clear is set, the other way round. Assumes nothing.
use mathlib.Core.Path.{sym, ◌∙◌}
use native.Mathlib.Omega.{arith}
use Rattle.words.proofs.next_clear.Goals as goal

pub returns : goal.returns
returns c =
    let l = c.next_set.ensures in
    let n = c.inverted.ensures in
    record {
      low = l.low;
      high = l.high;
      before = λ d a b. sym (n d (omega arith) (omega (arith, l.high))) ∙ l.before d a b;
      here = λ h. sym (n c.next_set.result (omega (arith, l.low)) (omega arith)) ∙ l.here h;
    }
