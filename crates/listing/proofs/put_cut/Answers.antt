-- `listing::put_cut` meets its contract. Assumes nothing.
use Prim.Native.Nat.{suc, ◌+◌}
use mathlib.Core.Path.{◌≡◌, ap}
use mathlib.Core.Bool.{not}
use native.Mathlib.Omega.{arith}
use borrow.Author.Tests.{not-true, not-false}
use Rattle.listing.proofs.Closing.{cut-plain, cut-worded}
use Rattle.listing.proofs.put_cut.Goals as goal

pub returns-then-not-words-clause-put : goal.returns-then-not-words-clause-put
returns-then-not-words-clause-put c =
    let a = c.args in
    let next : c.from.result + 1 ≡ suc a.number = omega arith in
    cut-plain a.words a.number a.kind (rw next at c.put_ended-from.ensures.put) (rw c.from-2.ensures at c.put_spaced-end.ensures.put)
    (not-true _ (ap not c.if-not-words.true)) c.put_bytes.ensures.put

pub returns-clause-put : goal.returns-clause-put
returns-clause-put c =
    let a = c.args in
    let next : c.from.result + 1 ≡ suc a.number = omega arith in
    cut-worded a.words a.number a.kind (rw next at c.put_ended-from.ensures.put) (rw c.from-2.ensures at c.put_spaced-end.ensures.put)
    (not-false _ (ap not c.if-not-words.false)) c.put_bytes-2.ensures.put
