-- `session::run` meets its contract: what is left of the recording gives what is left to do. Assumes nothing.
use Prim.Native.Nat.{ℕ}
use mathlib.Core.Path.{◌≡◌, refl, sym, ap, ◌∙◌}
use native.Mathlib.Omega.{arith}
use borrow.Author.Rules.{rules}
use lib.ListN.{length, length-set, length-drop}
use mir.Syntax.{w64}
use mir.Val.{Fits}
use Rattle.std.specs.Prelude.{Ok}
use Rattle.events.proofs.Calls.{taken-there}
use Rattle.steps.specs.Standing.{changed}
use Rattle.session.specs.Recording.{still}
use Rattle.session.proofs.Running.{changed-nothing, changed-booked, changed-freed, changed-cleared, run-begin, run_more, now, rest, full, no-more, run_end}
use Rattle.session.proofs.run.Goals as goal
use Rattle.session.proofs.run.Goals.{in-Nothing, in-Booked, in-Freed, in-Cleared, else-loop-n-test, then-loop-n-test+in_default, then-loop-n-test+in_default-2}

pub loop-n-init : goal.loop-n-init
loop-n-init c =
    let a = c.args in
    run-begin a.state.board.tasks a.state.board.now a.state.board.device a.number c.room-most.result a.bytes.now
    a.answers.now _ _ c.stand-stood.result c.stand-stood.ensures c.ok.ensures.value c.ok.ensures.variant

pub overflow_add-at : goal.overflow_add-at
overflow_add-at c =
    let i = c.in-Ok-Some in
    let bytes_fit : Fits w64 (length c.args.bytes.now) = search rules in
    let t = taken-there _ _ _ (sym i.ensures.value ∙ ap (λ x. Ok x) i.field-0-is) in
    omega (arith, c.loop-n.invariant.inside, t, length-drop c.loop-n.at c.args.bytes.now, bytes_fit.fits)

pub loop-n-preserved : goal.loop-n-preserved
loop-n-preserved c =
    let o = c.loop-n.invariant in
    let i = c.in-Ok-Some in
    let change = c.answered-r.result.change in
    let more : (c.match-r.tasks ≡ changed change c.loop-n.tasks) × (length c.match-r.tasks ≡ 64) = elim c.match-r.branch [
      | in-Nothing w ↦ (w.tasks-is ∙ changed-nothing _ w.in-Nothing.is, rw w.tasks-is o.size)
      | in-Booked w ↦ (w.tasks-is ∙ changed-booked _ w.in-Booked.is, rw w.tasks-is (simp length-set o.size))
      | in-Freed w ↦ (w.tasks-is ∙ changed-freed _ w.in-Freed.is w.free_slot.ensures, rw w.tasks-is (simp length-set o.size))
      | in-Cleared w ↦ (w.tasks-is ∙ changed-cleared _ w.in-Cleared.is w.free_slot-tasks.ensures, rw w.tasks-is refl)
    ] in
    run_more o c.loop-n-test.true (sym i.ensures.value ∙ ap (λ x. Ok x) i.field-0-is) c.answered-r.ensures c.kind_of.ensures c.put_line.ensures more.0 more.1

pub returns : goal.returns
returns c =
    let o = c.loop-n.invariant in
    let stopped : rest o ≡ still (now o) = elim c.loop-n-test.branch [
      | else-loop-n-test w ↦ full o w.loop-n-test.false
      | then-loop-n-test+in_default w ↦ no-more o (λ v n e. let z = sym w.in_default.is ∙ w.read_at.ensures.value ∙ e in let y : ◌≡◌ {A = ℕ} 0 1 = cc in omega arith)
      | then-loop-n-test+in_default-2 w ↦ no-more o (λ v n e. let z = sym w.in_default.is ∙ w.read_at.ensures.value ∙ e in let y : ◌≡◌ {A = ℕ} 0 1 = cc in omega arith)
    ] in
    let all = run_end o stopped c.room-most.ensures c.brought.ensures in
    record { value = all.0; answers_after = all.1.0; count_in_bounds = all.1.1 }
