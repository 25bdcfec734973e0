-- `worded::next_name` meets its contract. Assumes nothing.
use mathlib.Core.Path.{◌≡◌, sym, ap, ◌∙◌}
use Rattle.std.specs.Prelude.{Ok, None}
use Rattle.worded.specs.Rows.{id_read, size_read}
use Rattle.worded.proofs.next_name.Goals as goal

pub returns-in-Ok-Some : goal.returns-in-Ok-Some
unfolding id_read size_read
returns-in-Ok-Some c =
    let i = c.in-Ok-Some in
    let e = ap (λ x. Ok x) (sym i.field-0-is) ∙ i.ensures.value in
    (c.name_of.ensures ∙ ap id_read e, ap size_read e)

pub returns-in_default : goal.returns-in_default
unfolding id_read size_read
returns-in_default c =
    let none : c.in_default.field-0 ≡ None = cc in
    let e = ap (λ x. Ok x) (sym none) ∙ sym c.in_default.is ∙ c.read_at.ensures.value in
    (ap id_read e, ap size_read e)

pub returns-in_default-2 : goal.returns-in_default-2
unfolding id_read size_read
returns-in_default-2 c = let e = sym c.in_default.is ∙ c.read_at.ensures.value in (ap id_read e, ap size_read e)
