-- `reader::hear` meets its contract: the room is full, or a stranger comes, or the begin of a record. Assumes nothing.
use mathlib.Core.Path.{◌≡◌, refl, sym, ap, ◌∙◌}
use native.Mathlib.Omega.{arith}
use borrow.Author.Rules.{rules}
use lib.ListN.{length, length-drop}
use mir.Syntax.{w32}
use mir.Val.{Fits}
use Rattle.events.proofs.Pieces.{begun-few}
use Rattle.reader.specs.Told.{judged}
use Rattle.reader.proofs.Hearing.{few, fewer, hear-full, rest-begun, hear-strange, hear-held, judged-known, judged-strange}
use Rattle.reader.proofs.hear.Goals as goal

pub overflow_cast-number : goal.overflow_cast-number
overflow_cast-number c =
    let a = c.args in
    omega (arith, few a.r a.kept a.bytes.now a.answers.now c.run-run.result c.run-run.ensures.value)

pub overflow_add-number : goal.overflow_add-number
overflow_add-number c =
    let a = c.args in
    let number_fits : Fits w32 a.r.number = search rules in
    omega (arith, few a.r a.kept a.bytes.now a.answers.now c.run-run.result c.run-run.ensures.value, number_fits)

pub returns-then-run-most : goal.returns-then-run-most
returns-then-run-most c =
    let a = c.args in
    hear-full a.r a.kept a.bytes.now a.answers.now c.run-run.result c.run-run.ensures.value (c.if-run-most.true ∙ c.room-most.ensures)
    c.run-run.ensures.answers_after refl c.unread.ensures c.saturating_sub.ensures c.ending.ensures

pub overflow_add-number-in-Some : goal.overflow_add-number-in-Some
overflow_add-number-in-Some c =
    let a = c.args in
    omega (arith, fewer a.r a.kept a.bytes.now a.answers.now c.run-run.result c.run-run.ensures.value c.room-most.ensures c.if-run-most.false)

pub put_line-requires : goal.put_line-requires
put_line-requires c =
    let a = c.args in
    let same-room : length c.run-run.new.answers ≡ length a.answers.now = search rules in
    omega (arith, fewer a.r a.kept a.bytes.now a.answers.now c.run-run.result c.run-run.ensures.value c.room-most.ensures c.if-run-most.false, same-room)

pub returns-in-Some : goal.returns-in-Some
returns-in-Some c =
    let a = c.args in
    let more_room = fewer a.r a.kept a.bytes.now a.answers.now c.run-run.result c.run-run.ensures.value c.room-most.ensures c.if-run-most.false in
    let kind = judged-strange _ (sym (c.judge.ensures ∙ ap judged c.read_at.ensures.value) ∙ c.in-Some.is) in
    hear-strange a.r a.kept a.bytes.now a.answers.now c.run-run.result c.run-run.ensures.value more_room
    kind c.run-run.ensures.answers_after refl c.saturating_sub-taken.ensures refl c.put_line.ensures

pub hold-requires : goal.hold-requires
hold-requires c =
    let a = c.args in
    let more_room = fewer a.r a.kept a.bytes.now a.answers.now c.run-run.result c.run-run.ensures.value c.room-most.ensures c.if-run-most.false in
    let known = judged-known _ (sym (c.judge.ensures ∙ ap judged c.read_at.ensures.value) ∙ c.in_default.is) in
    let n = begun-few _ (rest-begun a.r a.kept a.bytes.now a.answers.now c.run-run.result c.run-run.ensures.value more_room known) in
    (c.run-run.ensures.count_in_bounds.1, omega (arith, length-drop c.run-run.result.taken a.bytes.now))

pub returns : goal.returns
returns c =
    let a = c.args in
    let more_room = fewer a.r a.kept a.bytes.now a.answers.now c.run-run.result c.run-run.ensures.value c.room-most.ensures c.if-run-most.false in
    let known = judged-known _ (sym (c.judge.ensures ∙ ap judged c.read_at.ensures.value) ∙ c.in_default.is) in
    hear-held a.r a.kept a.bytes.now a.answers.now c.run-run.result c.run-run.ensures.value more_room
    known c.run-run.ensures.answers_after c.hold.ensures refl refl c.saturating_sub-taken.ensures
