-- `adding::is_whole` meets its contract: the bytes are compared with those put again. Assumes nothing.
use mathlib.Core.Path.{ap, ◌∙◌}
use native.Mathlib.Omega.{arith}
use Rattle.tokens.specs.Tokens.{same}
use Rattle.adding.proofs.Whole.{put_front}
use Rattle.adding.proofs.is_whole.Goals as goal

pub returns : goal.returns
returns c =
    let p = c.put_whole-n in
    c.is_name.ensures ∙ ap (same c.args.text.now) (put_front _ p.ensures.put (omega (arith, p.ensures.upper_bound.0)))
