-- `live::put_words` meets its contract: a number into each row. Assumes nothing.
use mathlib.Core.Path.{refl}
use Rattle.live.specs.Live.{put_from}
use Rattle.live.proofs.put_words.Goals as goal

pub returns : goal.returns
unfolding put_from
returns c = refl
