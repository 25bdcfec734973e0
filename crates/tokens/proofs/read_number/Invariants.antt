-- `tokens::read_number` meets its contract. Assumes nothing.
use Prim.Native.Nat.{◌≤◌}
use mathlib.Core.Path.{◌≡◌}
use lib.ListN.{drop}
use Rattle.text.specs.Text as T
use Rattle.tokens.specs.Tokens.{fits}
use Rattle.tokens.proofs.Judged.{judged}
use Rattle.tokens.proofs.read_number.Given as goal

abbrev pub invariant-loop-b : goal.invariant-loop-b
invariant-loop-b l =
    record {
      most : l.value ≤ l.most;
      judged_so_far : fits l.most l.word ≡ judged l.most l.value (drop l.b-index l.word);
      value_so_far : T.value 0 l.word ≡ T.value l.value (drop l.b-index l.word);
    }
