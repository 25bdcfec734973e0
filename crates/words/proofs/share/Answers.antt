-- `words::share` meets its contract: the range, clipped to the word. Assumes nothing.
use mathlib.Core.Bool.{◌&&◌}
use mathlib.Core.Path.{ap₂, ◌∙◌}
use Rattle.words.proofs.Columns.{clipped, clipped-end}
use Rattle.words.proofs.share.Goals as goal

pub returns : goal.returns
returns c = λ j h.
    let a = c.args in
    c.span.ensures j
    ∙ ap₂ ◌&&◌ (clipped a.first a.low j _ h c.inside.ensures) (clipped-end a.past a.low j _ h c.inside-2.ensures)
