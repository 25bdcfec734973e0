-- `lines::bare` meets its contract. Assumes nothing.
use mathlib.Core.Path.{◌≡◌, ◌∙◌}
use Rattle.lists.specs.Lists.{index_of}
use Rattle.tokens.specs.declared.Sort.TheVariants.{Hash}
use Rattle.tokens.specs.Tokens.{stops_at}
use Rattle.lines.specs.Lines.{bare}
use Rattle.lines.proofs.bare.Goals as goal

pub returns : goal.returns
unfolding bare
returns c =
    let line = c.less_return-line.result.now in
    let end : c.find.result ≡ index_of (stops_at Hash) line = c.find.ensures.value in
    c.split_at.ensures.front ∙ rw (end, c.less_return-line.ensures)
