-- `reader::judge` meets its contract. Assumes nothing.
use mathlib.Core.Path.{sym, ap}
use Rattle.std.specs.Prelude.{Err}
use Rattle.reader.specs.Told.{judged}
use Rattle.reader.proofs.judge.Goals as goal

pub returns-in-Ok : goal.returns-in-Ok
unfolding judged
returns-in-Ok c = ap judged (sym c.in-Ok.is)

pub returns-in-Err-CutShort : goal.returns-in-Err-CutShort
unfolding judged
returns-in-Err-CutShort c =
    let i = c.in-Err-CutShort in
    rw i.is (ap (λ x. judged (Err x)) (sym (rw i.is at i.field-0-is)))

pub returns-in-Err-Unknown : goal.returns-in-Err-Unknown
unfolding judged
returns-in-Err-Unknown c =
    let i = c.in-Err-Unknown in
    rw i.is (ap (λ x. judged (Err x)) (sym (rw i.is at i.field-0-is)))
