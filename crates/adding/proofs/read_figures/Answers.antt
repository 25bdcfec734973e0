-- `adding::read_figures` meets its contract: one byte more each turn. Assumes nothing.
use mathlib.Core.Path.{refl, sym, ap, ap₂, ◌∙◌}
use native.Mathlib.Omega.{arith}
use mathlib.Core.Bool.{◌&&◌}
use borrow.Author.Tests.{lt-ltb, le-ltb}
use lib.Dec.{ltb}
use lib.ListN.{get_or}
use Rattle.adding.specs.Machine.{ends_number, figures_in}
use Rattle.adding.proofs.Numbers.{ended-some, ended-none, read-stored, read-passed, read_all}
use Rattle.adding.proofs.read_figures.Goals as goal
use Rattle.adding.proofs.read_figures.Goals.{in-Some+then-n-lt83, in-Some+else-n-lt83, in_default}

pub loop-b-init : goal.loop-b-init
unfolding figures_in
loop-b-init c = record { within = omega arith; same = refl }

pub loop-b-preserved : goal.loop-b-preserved
loop-b-preserved c =
    let l = c.loop-b in
    let text = c.args.text.now in
    let ends = ends_number l.r (get_or text l.b-index 0) in
    elim c.match-ended.branch [
      | in-Some+then-n-lt83 w ↦
          let e = ended-some ends (sym c.ended.ensures ∙ w.in-Some.is) in
          rw (w.figures-is, w.n-is, sym e.1) (read-stored text (omega arith) l.invariant (ap₂ ◌&&◌ e.0 (lt-ltb l.n 83 w.if-n-lt83.true)) c.read_byte-r.ensures)
      | in-Some+else-n-lt83 w ↦
          let e = ended-some ends (sym c.ended.ensures ∙ w.in-Some.is) in
          rw (w.figures-is, w.n-is) (read-passed text (omega arith) l.invariant (ap₂ ◌&&◌ e.0 (le-ltb l.n 83 w.if-n-lt83.false)) c.read_byte-r.ensures)
      | in_default w ↦
          let none = ended-none ends _ (sym c.ended.ensures ∙ w.in_default.is) in
          rw (w.figures-is, w.n-is) (read-passed text (omega arith) l.invariant (ap (λ t. t && ltb l.n 83) none) c.read_byte-r.ensures)
    ]

pub returns : goal.returns
returns c = read_all c.args.text.now (omega arith) c.loop-b.invariant
