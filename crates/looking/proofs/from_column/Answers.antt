-- `looking::from_column` meets its contract: std's next multiple is the least from there on. Assumes nothing.
use Rattle.std.proofs.Common.{◌%◌, T, sym, subst, arith}
use borrow.Author.Tests.{eq-eqb}
use Rattle.tasks.specs.Numbers.{multiple}
use Rattle.looking.proofs.from_column.Goals as goal

pub returns-else-s-clock : goal.returns-else-s-clock
unfolding multiple
returns-else-s-clock c =
    let r = c.next_multiple_of in (
      λ h. absurd (omega arith),
      λ h. record {
        multiple = subst T (sym (eq-eqb (r.result % c.args.step) 0 r.ensures.multiple)) tt;
        low = omega (arith, r.ensures.lower_bound, c.min.ensures);
        near = omega (arith, r.ensures.upper_bound, c.min.ensures);
      },
    )
