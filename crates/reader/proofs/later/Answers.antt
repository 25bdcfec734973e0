-- `reader::later` meets its contract. Assumes nothing.
use mathlib.Core.Path.{sym, ap, ◌∙◌}
use Rattle.reader.specs.Reader.{later_end}
use Rattle.reader.proofs.Ends.{later-stays}
use Rattle.reader.proofs.later.Goals as goal

pub returns-in-AtLast : goal.returns-in-AtLast
unfolding later_end
returns-in-AtLast c = c.past.ensures ∙ ap (λ e. later_end e c.args.piece.now) (sym c.in-AtLast.is)

pub returns-in_default : goal.returns-in_default
returns-in_default c = sym (later-stays c.args.end c.args.piece.now c.in_default.not-AtLast)
