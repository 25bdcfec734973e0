-- `recorder::complain` meets its contract: the word that is shown is the wrong one of the line. Assumes nothing.
use Prim.Native.Nat.{◌-◌}
use mathlib.Core.Path.{ap, ◌∙◌}
use mathlib.Core.List.{[]}
use lib.ListN.{get_or}
use Rattle.tokens.specs.Tokens.{words}
use Rattle.recorder.proofs.complain.Goals as goal

pub returns : goal.returns
returns c =
    let word = c.nth_word-shown.ensures ∙ ap (λ t. get_or (words t) (c.args.word - 1) []) c.bare.ensures in
    record {
      value = rw word at c.put_wrong.ensures.value;
      err_after = rw word at c.put_wrong.ensures.err_after;
    }
