-- `reader::is_open` meets its contract. Assumes nothing.
use mathlib.Core.Path.{sym, ap}
use Rattle.reader.specs.Reader.{open?}
use Rattle.reader.proofs.Ends.{open-only}
use Rattle.reader.proofs.is_open.Goals as goal

pub returns-in-NotYet : goal.returns-in-NotYet
unfolding open?
returns-in-NotYet c = ap open? (sym c.in-NotYet.is)

pub returns-in_default : goal.returns-in_default
returns-in_default c = sym (open-only c.args.end c.in_default.not-NotYet)
