-- `asking::answer_busy` meets its contract. Assumes nothing.
use mathlib.Core.Path.{ap, ◌∙◌}
use native.Mathlib.Omega.{arith}
use mathlib.Core.List.{[], ◌∷◌}
use Rattle.text.specs.Text.{row_text}
use Rattle.asking.specs.Asking.{replied, answered}
use Rattle.asking.proofs.Copies.{at_front, lent-text, said-as}
use Rattle.asking.proofs.answer_busy.Goals as goal

pub returns : goal.returns
unfolding answered
returns c =
    let row = row_text (c.busy-r.result.count ∷ []) in
    let front = at_front {text = row} c.put_words-n.ensures.put (omega (arith, c.put_words-n.ensures.put.place, c.put_words-n.ensures.upper_bound)) in
    let all = said-as c.args.out.now
    (ap (replied c.busy-r.result.number) (lent-text row _ front.0 front.1) ∙ ap (λ x. replied x.number (row_text (x.count ∷ []))) c.busy-r.ensures)
    (c.reply.ensures.value, c.reply.ensures.out_after) in
    record { value = all.0; out_after = all.1 }
