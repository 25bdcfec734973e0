-- `asking::put_last` meets its contract. Assumes nothing.
use mathlib.Core.Path.{refl}
use Rattle.asking.specs.Asking.{last_row}
use Rattle.asking.proofs.Copies.{put_as}
use Rattle.asking.proofs.put_last.Goals as goal

pub returns-then-more : goal.returns-then-more
unfolding last_row
returns-then-more c =
    let e = c.put_bytes.ensures in
    rw c.if-more.true (put_as _ _ refl e.value e.out_after)

pub returns : goal.returns
unfolding last_row
returns c =
    let e = c.put_bytes-2.ensures in
    rw c.if-more.false (put_as _ _ refl e.value e.out_after)
