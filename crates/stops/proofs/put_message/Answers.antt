-- `stops::put_message` meets its contract. Assumes nothing.
use Prim.Native.Nat.{suc, ◌+◌}
use mathlib.Core.Path.{◌≡◌}
use native.Mathlib.Omega.{arith}
use Rattle.text.specs.Text.{ascii}
use Rattle.text.proofs.Spelling.{put_both}
use Rattle.stops.specs.Stops.{stop_message}
use Rattle.stops.proofs.put_message.Goals as goal

pub returns-clause-put : goal.returns-clause-put
unfolding stop_message
returns-clause-put c =
    let next : c.from.result + 1 ≡ suc c.args.before = omega arith in
    put_both {xs = ascii "summary: "} c.put_bytes-name_at.ensures.put (put_both c.put_bytes-after_name.ensures.put (rw next at c.put_event.ensures.put))
