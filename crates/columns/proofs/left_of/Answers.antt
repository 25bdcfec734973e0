-- `columns::left_of` meets its contract: it writes the definition down. Assumes nothing.
use mathlib.Core.Path.{refl}
use Rattle.columns.specs.Columns.{left_of}
use Rattle.columns.proofs.left_of.Goals as goal

pub returns : goal.returns
unfolding left_of
returns c = refl
