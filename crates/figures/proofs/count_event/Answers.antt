-- `figures::count_event` meets its contract. Assumes nothing.
use Prim.Native.Nat.{◌<◌}
use mathlib.Core.Path.{sym, ap, ◌∙◌, subst}
use native.Mathlib.Omega.{arith}
use borrow.Author.Tests.{eq-eqb, ne_eqb}
use Rattle.laxity.specs.Laxity.{class_of}
use Rattle.figures.specs.Figures.{verdict_of}
use Rattle.figures.specs.Rows.{clock_after}
use Rattle.figures.proofs.Tallying.{class-few, room-left, event-alone, event-submits, verdict-is}
use Rattle.figures.proofs.count_event.Goals as goal

pub bump-requires : goal.bump-requires
bump-requires c = (omega arith, omega (arith, c.requires.small 81))

pub count-requires : goal.count-requires
count-requires c = (
  subst (λ n. n < 4) (sym c.class_of.ensures) (class-few c.measure.result),
  room-left c.args.figures.now c.requires c.bump.ensures,
)

pub returns-in-NewBoard : goal.returns-in-NewBoard
unfolding clock_after verdict_of
returns-in-NewBoard c =
    let a = c.args in
    let e = c.in-NewBoard.is in record {
      value = ap (λ v. clock_after a.clock v a.answer) (sym e);
      figures_after = event-alone a.figures.now c.requires.size c.bump.ensures a.clock a.event a.answer a.start (ap (λ v. verdict_of a.clock v a.answer a.start) e);
    }

pub returns-in-GridBoard : goal.returns-in-GridBoard
unfolding clock_after verdict_of
returns-in-GridBoard c =
    let a = c.args in
    let e = c.in-GridBoard.is in record {
      value = ap (λ v. clock_after a.clock v a.answer) (sym e);
      figures_after = event-alone a.figures.now c.requires.size c.bump.ensures a.clock a.event a.answer a.start (ap (λ v. verdict_of a.clock v a.answer a.start) e);
    }

pub returns-in-Submit : goal.returns-in-Submit
unfolding clock_after verdict_of
returns-in-Submit c =
    let a = c.args in
    let e = c.in-Submit.is in record {
      value = ap (λ v. clock_after a.clock v a.answer) (sym e);
      figures_after = event-submits a.figures.now c.requires.size c.bump.ensures _ c.count.ensures a.clock a.event a.answer a.start
          (ap (λ v. verdict_of a.clock v a.answer a.start) e
          ∙ verdict-is _ (sym (c.class_of.ensures ∙ ap class_of c.measure.ensures)) (sym c.fate_of.ensures) (sym c.wait_of.ensures));
    }

pub returns-then-answer-eq0 : goal.returns-then-answer-eq0
unfolding clock_after verdict_of
returns-then-answer-eq0 c =
    let a = c.args in
    let e = c.in-Clock.is in record {
      value = sym (ap (λ v. clock_after a.clock v a.answer) e ∙ rw (eq-eqb a.answer 0 c.if-answer-eq0.true));
      figures_after = event-alone a.figures.now c.requires.size c.bump.ensures a.clock a.event a.answer a.start (ap (λ v. verdict_of a.clock v a.answer a.start) e);
    }

pub returns-else-answer-eq0 : goal.returns-else-answer-eq0
unfolding clock_after verdict_of
returns-else-answer-eq0 c =
    let a = c.args in
    let e = c.in-Clock.is in record {
      value = sym (ap (λ v. clock_after a.clock v a.answer) e ∙ rw (ne_eqb a.answer 0 c.if-answer-eq0.false));
      figures_after = event-alone a.figures.now c.requires.size c.bump.ensures a.clock a.event a.answer a.start (ap (λ v. verdict_of a.clock v a.answer a.start) e);
    }

pub returns-in-Withdraw : goal.returns-in-Withdraw
unfolding clock_after verdict_of
returns-in-Withdraw c =
    let a = c.args in
    let e = c.in-Withdraw.is in record {
      value = ap (λ v. clock_after a.clock v a.answer) (sym e);
      figures_after = event-alone a.figures.now c.requires.size c.bump.ensures a.clock a.event a.answer a.start (ap (λ v. verdict_of a.clock v a.answer a.start) e);
    }
