-- `arguments::put_word` meets its contract: one byte more each turn. Assumes nothing.
use Prim.Native.Nat.{◌+◌}
use mathlib.Core.Path.{◌≡◌, refl, sym, ap, ◌∙◌}
use native.Mathlib.Omega.{arith}
use mathlib.Core.List.{map}
use lib.ListN.{length, take, set, get_or}
use lib.Seq.{sets}
use Rattle.arguments.specs.Arguments.{guarded}
use Rattle.arguments.proofs.Words.{guarded-more, argument-none, argument-some}
use Rattle.arguments.proofs.put_word.Goals as goal

pub returns-then-is_empty-clause-put : goal.returns-then-is_empty-clause-put
returns-then-is_empty-clause-put c = argument-none _ _ _ (sym c.is_empty.ensures ∙ c.if-is_empty.true)

pub loop-i-init : goal.loop-i-init
loop-i-init c = refl

pub loop-i-preserved : goal.loop-i-preserved
loop-i-preserved c =
    let l = c.loop-i in
    let a = c.args in
    let byte = guarded (get_or a.bytes.now l.i 0) in
    ap (set l.text (a.at + l.i)) c.guard.ensures ∙ ap (λ m. set m (a.at + l.i) byte) l.invariant ∙ guarded-more a.text.now a.bytes.now a.at l.i (omega arith)

pub returns-clause-put : goal.returns-clause-put
returns-clause-put c =
    let l = c.loop-i in
    let a = c.args in
    let all : l.i ≡ length a.bytes.now = omega arith in
    let stored = l.invariant ∙ ap (λ n. sets a.text.now a.at (take n (map guarded a.bytes.now))) all in
    argument-some a.text.now a.bytes.now a.at (sym c.is_empty.ensures ∙ c.if-is_empty.false) stored
