-- `adding::feed` meets its contract: one byte more each turn. Assumes nothing.
use mathlib.Core.Path.{◌≡◌, refl}
use native.Mathlib.Omega.{arith}
use lib.ListN.{length}
use Rattle.adding.proofs.Feeding.{fed-more, fed-all}
use borrow.Author.Rules.{rules}
use Rattle.adding.proofs.feed.Goals as goal

pub loop-b-init : goal.loop-b-init
loop-b-init c = ((let z : length c.args.a.held ≡ 4096 = search rules in z), record { within = omega arith; rest = refl })

pub loop-b-preserved : goal.loop-b-preserved
loop-b-preserved c =
    let l = c.loop-b in
    (c.take_byte-at.ensures.held_len, fed-more _ _ (omega arith) l.invariant.1 c.take_byte-at.ensures.result_after)

pub returns : goal.returns
returns c = fed-all _ _ (omega arith) c.loop-b.invariant.1
