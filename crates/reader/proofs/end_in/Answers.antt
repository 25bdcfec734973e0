-- `reader::end_in` meets its contract. Assumes nothing.
use mathlib.Core.Path.{sym, ap}
use Rattle.std.specs.Prelude.{Err}
use Rattle.reader.specs.Reader.{end_in}
use Rattle.reader.proofs.end_in.Goals as goal

pub returns-in-Ok : goal.returns-in-Ok
unfolding end_in
returns-in-Ok c = ap end_in (sym c.in-Ok.is)

pub returns-in-Err-CutShort : goal.returns-in-Err-CutShort
unfolding end_in
returns-in-Err-CutShort c =
    let i = c.in-Err-CutShort in
    rw i.is (ap (λ x. end_in (Err x)) (sym (rw i.is at i.field-0-is)))

pub returns-in-Err-Unknown : goal.returns-in-Err-Unknown
unfolding end_in
returns-in-Err-Unknown c =
    let i = c.in-Err-Unknown in
    rw i.is (ap (λ x. end_in (Err x)) (sym (rw i.is at i.field-0-is)))
