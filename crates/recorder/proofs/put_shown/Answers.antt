-- `recorder::put_shown` meets its contract: one byte more each turn. Assumes nothing.
use mathlib.Core.Path.{◌≡◌, refl, ap, ◌∙◌}
use mathlib.Core.List.{map}
use native.Mathlib.Omega.{arith}
use lib.ListN.{length, take}
use lib.Seq.{sets}
use Rattle.recorder.specs.Recorder.{shown_byte}
use Rattle.recorder.proofs.Showing.{shown-more, shown-all}
use Rattle.recorder.proofs.put_shown.Goals as goal

pub loop-i-init : goal.loop-i-init
loop-i-init c = refl

pub loop-i-preserved : goal.loop-i-preserved
loop-i-preserved c =
    let l = c.loop-i in
    let a = c.args in
    rw (c.shown.ensures, l.invariant) (shown-more a.err.now a.word.now a.at l.i (omega arith))

pub returns-clause-put : goal.returns-clause-put
returns-clause-put c =
    let l = c.loop-i in
    let a = c.args in
    let all : l.i ≡ length a.word.now = omega arith in
    shown-all a.err.now a.word.now a.at refl (l.invariant ∙ ap (λ n. sets a.err.now a.at (take n (map shown_byte a.word.now))) all)
