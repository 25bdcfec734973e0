-- `tokens::next` meets its contract. Assumes nothing.
use mathlib.Core.Path.{◌≡◌, ap, ◌∙◌}
use lib.ListN.{drop}
use Rattle.tokens.specs.Tokens.{stops_at}
use Rattle.tokens.proofs.Walking.{to_solid, to_blank, Found, is-first, are-others, nothing-behind, all-parts}
use Rattle.tokens.proofs.next.Goals as goal
use Rattle.tokens.proofs.next.Goals.{After-split_at-2}

found : (c : After-split_at-2) → Found c.args.text.now c.split_at-2.result.0.now c.split_at-2.result.1.now
unfolding stops_at
found c =
    let text = c.args.text.now in
    let blanks : c.find.result ≡ to_solid text = c.find.ensures.value in
    let solid = c.split_at.ensures.back ∙ ap (λ n. drop n text) blanks in
    let bytes = c.find-2.ensures.value ∙ ap to_blank solid in
    record {
      word-is = c.split_at-2.ensures.front ∙ rw (bytes, solid);
      behind-is = c.split_at-2.ensures.back ∙ rw (bytes, solid);
    }

pub returns : goal.returns
returns c =
    let f = found c in
    record {
      word = is-first f;
      behind = are-others f;
      parts = (_, all-parts f);
      last = nothing-behind f;
    }
