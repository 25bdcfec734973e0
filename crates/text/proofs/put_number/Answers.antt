-- `text::put_number` meets its contract: a digit that stands alone, or as many digits as the number has. Assumes nothing.
use Prim.Native.Nat.{◌+◌}
use native.Mathlib.Omega.{arith}
use Rattle.text.proofs.Counting.{decimal-log, log-most}
use Rattle.text.proofs.Spelling.{spelled, digit-put}
use Rattle.text.proofs.put_number.Goals as goal

pub spell-requires : goal.spell-requires
spell-requires g c = omega (arith, log-most c.ilog10.result g.row.MOST c.args.x c.ilog10.ensures.power_le c.requires.1)

pub returns-then-x-lt10 : goal.returns-then-x-lt10
returns-then-x-lt10 g c = record { put = digit-put c.args.out.now c.args.at c.args.x (omega arith); upper_bound = omega arith }

pub returns : goal.returns
returns g c =
    let log = c.ilog10 in
    let x = c.args.x in
    record {
      put = spelled (log.result + 1) x (decimal-log log.result x log.ensures.power_le log.ensures.next_power_gt) c.spell.ensures;
      upper_bound = omega (arith, log-most log.result g.row.MOST x log.ensures.power_le c.requires.1);
    }
