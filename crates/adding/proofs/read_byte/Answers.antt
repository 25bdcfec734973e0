-- `adding::read_byte` meets its contract: a slash, a digit, another byte. Assumes nothing.
use mathlib.Core.Path.{◌≡◌, sym, ◌∙◌}
use mathlib.Core.Bool.{true, false}
use borrow.Author.Tests.{ne_eqb}
use Rattle.tokens.specs.Tokens.{digit}
use Rattle.adding.specs.Machine.{read}
use Rattle.adding.proofs.read_byte.Goals as goal

pub returns-then-b-eq47 : goal.returns-then-b-eq47
unfolding read
returns-then-b-eq47 c = rw c.if-b-eq47.true

pub returns-then-not-is_ascii_digit : goal.returns-then-not-is_ascii_digit
unfolding read
returns-then-not-is_ascii_digit c =
    let other : digit c.args.b ≡ false = sym c.is_ascii_digit.ensures.value ∙ c.if-not-is_ascii_digit.true in
    rw (ne_eqb _ 47 c.if-b-eq47.false, other)

pub returns-in-Behind : goal.returns-in-Behind
unfolding read
returns-in-Behind c =
    let here : digit c.args.b ≡ true = sym c.is_ascii_digit.ensures.value ∙ c.if-not-is_ascii_digit.false in
    rw (ne_eqb _ 47 c.if-b-eq47.false, here, c.in-Behind.is)

pub returns-in-Between : goal.returns-in-Between
unfolding read
returns-in-Between c =
    let here : digit c.args.b ≡ true = sym c.is_ascii_digit.ensures.value ∙ c.if-not-is_ascii_digit.false in
    rw (ne_eqb _ 47 c.if-b-eq47.false, here, c.in-Between.is, c.more_value.ensures)

pub returns-in-Inside : goal.returns-in-Inside
unfolding read
returns-in-Inside c =
    let here : digit c.args.b ≡ true = sym c.is_ascii_digit.ensures.value ∙ c.if-not-is_ascii_digit.false in
    rw (ne_eqb _ 47 c.if-b-eq47.false, here, c.in-Inside.is, c.more_value-in-Inside.ensures)
