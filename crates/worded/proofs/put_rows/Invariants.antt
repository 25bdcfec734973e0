-- `worded::put_rows` meets its contract: one line more each turn. Assumes nothing.
use Rattle.worded.proofs.Rows.{Rowed}
use Rattle.worded.proofs.put_rows.Given as goal

abbrev pub invariant-loop-i : goal.invariant-loop-i
invariant-loop-i l =
    Rowed l.count l.numbers l.bytes l.initial.out l.out l.place l.at l.i
