-- `steps::withdraw` meets its contract: 1, 13, 14, or the task is gone and its slot free. Assumes nothing.
use mathlib.Core.Path.{◌≡◌, refl, sym, ◌∙◌}
use Rattle.std.proofs.Common.{Some}
use Rattle.refusals.proofs.First.{is_told}
use Rattle.board.proofs.Tested.{Asked, asked-nowhere, withdrawn-known}
use Rattle.steps.proofs.Steps.{step_same, unsound-withdraw, asked-at, nowhere-at, withdraw-refused, step-withdraw}
use Rattle.steps.proofs.withdraw.Goals as goal
use Rattle.steps.proofs.withdraw.Goals.{in-Some-place, in-None}

pub returns-in_default : goal.returns-in_default
returns-in_default c = λ ks k.
    let a = c.args in
    rw (c.bare.ensures, c.from.ensures) (step_same a.d ks k _ 1 (unsound-withdraw a.d ks k c.in_default.is a.id))

pub returns-in-Err : goal.returns-in-Err
returns-in-Err c = λ ks k.
    let a = c.args in
    let u = c.in-Some.is in
    let asked : Asked ks a.id c.is_some.result c.match-place.begun = elim c.match-place.branch [
      | in-Some-place w ↦ (let found = w.in-Some-place.ensures in
          rw (c.is_some.ensures, w.place-is, w.begun-is) (asked-at a.d ks k _ u a.id _ found.place found.inside))
      | in-None w ↦ rw (c.is_some.ensures, w.place-is, w.in-None.is) (asked-nowhere _ _ _ (nowhere-at a.d ks k _ u a.id w.in-None.ensures.place))
    ] in
    rw (c.bare-in-Err.ensures, c.from-in-Err.ensures)
    (step_same a.d ks k _ _ (withdraw-refused a.d ks k _ u a.id asked c.in-Err.ensures (is_told _)))

pub unwrap-i-requires : goal.unwrap-i-requires
unwrap-i-requires c = sym c.is_some.ensures ∙ withdrawn-known _ _ c.in_default-refuse_withdrawal.ensures refl

pub returns : goal.returns
returns c = λ ks k.
    let a = c.args in
    let u = c.in-Some.is in
    let asked : Asked ks a.id c.is_some.result c.match-place.begun = elim c.match-place.branch [
      | in-Some-place w ↦ (let found = w.in-Some-place.ensures in
          rw (c.is_some.ensures, w.place-is, w.begun-is) (asked-at a.d ks k _ u a.id _ found.place found.inside))
      | in-None w ↦ rw (c.is_some.ensures, w.place-is, w.in-None.is) (asked-nowhere _ _ _ (nowhere-at a.d ks k _ u a.id w.in-None.ensures.place))
    ] in
    let at : c.find-place.result ≡ Some c.unwrap-i.result = elim c.match-place.branch [
      | in-Some-place w ↦ w.in-Some-place.is ∙ sym w.place-is ∙ c.unwrap-i.ensures
      | in-None w ↦ sym w.place-is ∙ c.unwrap-i.ensures
    ] in
    let place = rw at at c.find-place.ensures.place in
    let inside = rw at at c.find-place.ensures.inside in
    rw c.bare-2.ensures
    (step-withdraw a.d ks k _ u a.id _ place inside asked c.in_default-refuse_withdrawal.ensures refl
    c.remove.ensures.0 c.remove.ensures.1 _ c.without_slot.ensures)
