-- `stops::put_stopped` meets its contract. Assumes nothing.
use Prim.Native.Nat.{suc, ◌+◌}
use mathlib.Core.Path.{◌≡◌}
use mathlib.Core.List.{append_assoc}
use native.Mathlib.Omega.{arith}
use Rattle.text.proofs.Spelling.{put_both}
use Rattle.stops.specs.Stops.{stopped_at}
use Rattle.stops.proofs.put_stopped.Goals as goal

pub returns-clause-put : goal.returns-clause-put
unfolding stopped_at
returns-clause-put c =
    let next : c.from.result + 1 ≡ suc c.args.before = omega arith in
    let numbers = put_both (rw next at c.put_ended-kind_at.ensures.put) (rw c.from-2.ensures at c.put_ended.ensures.put) in
    let event = put_both c.put_bytes-event_at.ensures.put (rw append_assoc at numbers) in
    put_both c.put_bytes-name_at.ensures.put (put_both c.put_bytes-after_name.ensures.put event)
