-- `adding::wrong_line` meets its contract: the text is put again and compared. Assumes nothing.
use mathlib.Core.Path.{ap, ◌∙◌}
use native.Mathlib.Omega.{arith}
use Rattle.adding.specs.Adding.{whole_text}
use Rattle.adding.specs.Machine.{same_lines, later, wrong_line}
use Rattle.adding.proofs.Whole.{put_front}
use Rattle.adding.proofs.wrong_line.Goals as goal

pub returns : goal.returns
unfolding wrong_line
returns c =
    let a = c.args in
    let again = put_front _ c.put_whole-n.ensures.put (omega (arith, c.put_whole-n.ensures.upper_bound.0)) in
    c.later_line.ensures ∙ ap (later a.line) (c.same_lines.ensures ∙ ap (same_lines a.text.now) (again ∙ ap whole_text c.read_figures-figures.ensures))
