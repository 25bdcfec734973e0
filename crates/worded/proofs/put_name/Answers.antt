-- `worded::put_name` meets its contract. Assumes nothing.
use native.Mathlib.Omega.{arith}
use Rattle.worded.proofs.Rows.{named, not_named}
use Rattle.worded.proofs.put_name.Goals as goal

pub returns-in-Some : goal.returns-in-Some
returns-in-Some c =
    let p = c.put_ended.ensures in
    record { put = named c.in-Some.is (rw c.from.ensures at p.put); upper_bound = omega arith }

pub returns-in-None : goal.returns-in-None
returns-in-None c =
    let p = c.put_bytes.ensures in
    record {
      put = not_named c.in-None.is p.put;
      upper_bound = omega (arith, p.value);
    }
