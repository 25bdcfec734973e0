-- `listing::put_header` meets its contract. Assumes nothing.
use native.Mathlib.Omega.{arith}
use Rattle.text.proofs.Rows.{rows-front}
use Rattle.listing.specs.Listing.{header_text}
use Rattle.listing.proofs.put_header.Goals as goal

pub returns-then-words-clause-out_after : goal.returns-then-words-clause-out_after
unfolding header_text
returns-then-words-clause-out_after c = rw c.if-words.true (rows-front _ c.put_bytes.ensures.put (omega arith))

pub returns-clause-out_after : goal.returns-clause-out_after
unfolding header_text
returns-clause-out_after c = rw c.if-words.false (rows-front _ c.put_bytes-2.ensures.put (omega arith))
