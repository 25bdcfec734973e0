-- `releases::raise` meets its contract: the columns filled are those raised. Assumes nothing.
use Rattle.std.proofs.Common.{◌≡◌, ◌-◌, replicate, rules, arith}
use Rattle.releases.proofs.Raising.{raise-part}
use Rattle.releases.proofs.raise.Goals as goal

pub returns-clause-by_index : goal.returns-clause-by_index
returns-clause-by_index c =
    let a = c.args in
    let e : c.fill.new.self ≡ replicate (a.past - 1 - (a.left - 1)) a.finish = search rules in
    rw e (raise-part a.row.now a.finish a.left a.past c.requires.0 (omega arith) (omega arith) (omega arith))
