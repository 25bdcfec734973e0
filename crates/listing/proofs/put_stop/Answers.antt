-- `listing::put_stop` meets its contract. Assumes nothing.
use Prim.Native.Nat.{suc, ◌+◌}
use mathlib.Core.Path.{◌≡◌}
use native.Mathlib.Omega.{arith}
use Rattle.listing.specs.Listing.{stop_text}
use Rattle.listing.proofs.put_stop.Goals as goal

pub returns-clause-put : goal.returns-clause-put
unfolding stop_text
returns-clause-put c =
    let next : c.from.result + 1 ≡ suc c.args.number = omega arith in
    rw next at c.put_event.ensures.put
