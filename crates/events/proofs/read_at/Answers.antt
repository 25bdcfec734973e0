-- `events::read_at` meets its contract: the end, a kind byte with its body, or 16. Assumes nothing.
use mathlib.Core.Path.{sym, ap, ◌∙◌}
use native.Mathlib.Omega.{arith}
use lib.ListN.{get_or}
use Rattle.std.proofs.lemmas.Result.{err_from_is_err_and}
use Rattle.std.specs.Prelude.{Err}
use Rattle.events.specs.declared.Event.TheVariants.{Clock, Withdraw}
use Rattle.events.proofs.Told.{read_told}
use Rattle.events.proofs.Found.{NoKind, new-board, submit, clock, withdraw, grid-board, unknown, past, front, lent, number-whole, number-short}
use Rattle.events.proofs.read_at.Goals as goal

pub returns-then-s-at : goal.returns-then-s-at
returns-then-s-at c =
    let all = read_told (sym (past _ _ c.if-s-at.true)) in
    record { value = all.0; result_value = all.1 }

pub returns-in-1 : goal.returns-in-1
returns-in-1 c =
    let args = c.args in
    let all = read_told (c.read_new_board.ensures ∙ lent args.s.now args.at c.if-s-at.false new-board c.in-1.is) in
    record { value = all.0; result_value = all.1 }

pub returns-in-2 : goal.returns-in-2
returns-in-2 c =
    let args = c.args in
    let all = read_told (c.read_submit.ensures ∙ lent args.s.now args.at c.if-s-at.false submit c.in-2.is) in
    record { value = all.0; result_value = all.1 }

pub returns-in_ok-instant-in-3 : goal.returns-in_ok-instant-in-3
returns-in_ok-instant-in-3 c =
    let args = c.args in
    let here = lent args.s.now args.at c.if-s-at.false clock c.in-3.is in
    let all = read_told (number-whole 3 _ Clock c.read_number.ensures c.in_ok-instant-in-3.was ∙ here) in
    record { value = all.0; result_value = all.1 }

pub returns-in_err-instant-in-3 : goal.returns-in_err-instant-in-3
returns-in_err-instant-in-3 c =
    let args = c.args in
    let here = lent args.s.now args.at c.if-s-at.false clock c.in-3.is in
    let p = err_from_is_err_and c.from_residual.result c.from_residual.ensures.1 in
    let all = read_told (p.1 ∙ ap (λ d. Err d) p.2 ∙ number-short 3 _ Clock c.read_number.ensures c.in_err-instant-in-3.was ∙ here) in
    record { value = all.0; result_value = all.1 }

pub returns-in_ok-id-in-4 : goal.returns-in_ok-id-in-4
returns-in_ok-id-in-4 c =
    let args = c.args in
    let here = lent args.s.now args.at c.if-s-at.false withdraw c.in-4.is in
    let all = read_told (number-whole 4 _ Withdraw c.read_number-in-4.ensures c.in_ok-id-in-4.was ∙ here) in
    record { value = all.0; result_value = all.1 }

pub returns-in_err-id-in-4 : goal.returns-in_err-id-in-4
returns-in_err-id-in-4 c =
    let args = c.args in
    let here = lent args.s.now args.at c.if-s-at.false withdraw c.in-4.is in
    let p = err_from_is_err_and c.from_residual-in_err-id-in-4.result c.from_residual-in_err-id-in-4.ensures.1 in
    let all = read_told (p.1 ∙ ap (λ d. Err d) p.2 ∙ number-short 4 _ Withdraw c.read_number-in-4.ensures c.in_err-id-in-4.was ∙ here) in
    record { value = all.0; result_value = all.1 }

pub returns-in-5 : goal.returns-in-5
returns-in-5 c =
    let args = c.args in
    let all = read_told (c.read_grid_board.ensures ∙ lent args.s.now args.at c.if-s-at.false grid-board c.in-5.is) in
    record { value = all.0; result_value = all.1 }

pub returns-in_default : goal.returns-in_default
returns-in_default c =
    let args = c.args in
    let byte = get_or args.s.now args.at 0 in
    let no_kind : NoKind byte = record {
      not-1 = λ e. omega (arith, e);
      not-2 = λ e. omega (arith, e);
      not-3 = λ e. omega (arith, e);
      not-4 = λ e. omega (arith, e);
      not-5 = λ e. omega (arith, e);
    } in
    let all = read_told (sym (rw (front args.s.now args.at c.if-s-at.false) (unknown byte no_kind _))) in
    record { value = all.0; result_value = all.1 }
