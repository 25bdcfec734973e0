-- `figures::count_rows` meets its contract: one line more each turn. Assumes nothing.
use Prim.Native.Nat.{ℕ, ◌+◌, ◌*◌}
use mathlib.Core.Path.{◌≡◌, sym, ap, ◌∙◌}
use native.Mathlib.Omega.{arith}
use borrow.Author.Rules.{rules}
use lib.ListN.{length, length-drop}
use mir.Syntax.{w64}
use mir.Val.{Fits}
use Rattle.std.specs.Prelude.{Ok}
use Rattle.events.proofs.Calls.{taken-there}
use Rattle.figures.proofs.Rows.{rows-begin, rows-room, rows_event, rows_none, rows_end}
use Rattle.figures.proofs.count_rows.Goals as goal
use Rattle.figures.proofs.count_rows.Goals.{in-Ok-Some, in-Ok+in-None-1, in-Err-1}

pub loop-i-init : goal.loop-i-init
loop-i-init c = let a = c.args in rows-begin a.count a.clock a.numbers.now a.bytes.now c.no_figures-figures.ensures

pub count_event-then-requires : goal.count_event-then-requires
count_event-then-requires c = rows-room c.loop-i.invariant (omega (arith, c.requires.0, c.loop-i-test.true))

pub overflow_add-at : goal.overflow_add-at
overflow_add-at c =
    let i = c.in-Ok-Some in
    let bytes_fit : Fits w64 (length c.args.bytes.now) = search rules in
    let t = taken-there _ _ _ (sym i.ensures.value ∙ ap (λ x. Ok x) i.field-0-is) in
    omega (arith, c.loop-i.invariant.inside, t, length-drop c.loop-i.at c.args.bytes.now, bytes_fit)

pub loop-i-preserved : goal.loop-i-preserved
loop-i-preserved c =
    let o = c.loop-i.invariant in
    let fits = c.type_inv.numbers (c.loop-i.i * 6 + 4) in
    elim c.match-read_at.branch [
      | in-Ok-Some w ↦ (let i = w.in-Ok-Some in let e = w.count_event-then.ensures in
          rw (w.figures-is, w.then-is, w.at-is)
          (rows_event o c.loop-i-test.true (omega (arith, fits)) (sym i.ensures.value ∙ ap (λ x. Ok x) i.field-0-is) e.value e.figures_after))
      | in-Ok+in-None-1 w ↦ rw (w.figures-is, w.then-is, w.at-is)
          (rows_none o c.loop-i-test.true (omega (arith, fits)) (λ v n e. let z = c.read_at.ensures.value ∙ e in let y : ◌≡◌ {A = ℕ} 0 1 = cc in omega arith))
      | in-Err-1 w ↦ rw (w.figures-is, w.then-is, w.at-is)
          (rows_none o c.loop-i-test.true (omega (arith, fits)) (λ v n e. let z = c.read_at.ensures.value ∙ e in let y : ◌≡◌ {A = ℕ} 0 1 = cc in omega arith))
    ]

pub returns : goal.returns
returns c = rows_end c.loop-i.invariant c.loop-i-test.false
