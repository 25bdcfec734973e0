-- `columns::key` meets its contract: it writes the key's definition down, and 257 columns keep it in a word. Assumes nothing.
use mathlib.Core.Path.{refl}
use Rattle.columns.specs.Columns.{key}
use Rattle.columns.proofs.key.Goals as goal

pub returns : goal.returns
unfolding key
returns c = refl
