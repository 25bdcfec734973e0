-- `tokens::read_numbers` meets its contract. Assumes nothing.
use Prim.Native.Nat.{◌+◌}
use mathlib.Core.Path.{◌≡◌, sym, ap, subst, ◌∙◌}
use native.Mathlib.Omega.{arith}
use lib.ListN.{length}
use Rattle.tokens.specs.Tokens.{empty, words}
use Rattle.tokens.specs.Walks.{FirstWrong}
use Rattle.tokens.proofs.Judged.{number-some, number-none}
use Rattle.tokens.proofs.Names.{empty-none}
use Rattle.tokens.proofs.Walking.{no_word}
use Rattle.tokens.proofs.Counting.{sofar-none, sofar-one, stops-here, all_read, too_many}
use Rattle.tokens.proofs.read_numbers.Goals as goal

pub loop-i-init : goal.loop-i-init
loop-i-init g c = sofar-none _ _ _ c.requires

pub returns-in_default : goal.returns-in_default
returns-in_default g c =
    let read = rw c.next.ensures.word at c.read_number.ensures.value in
    stops-here c.loop-i.invariant (omega arith) (number-none _ _ read c.in_default.is)

pub loop-i-preserved : goal.loop-i-preserved
loop-i-preserved g c =
    let read = rw c.next.ensures.word at c.read_number.ensures.value in
    let number = number-some _ _ read c.in-Some.is in
    rw c.next.ensures.behind (sofar-one c.loop-i.invariant (omega arith) number.0 number.1)

pub returns-then-is_empty : goal.returns-then-is_empty
returns-then-is_empty g c =
    let no-bytes = empty-none _ (ap empty (sym c.next-2.ensures.word) ∙ sym c.is_empty.ensures ∙ c.if-is_empty.true) in
    all_read c.loop-i.invariant (omega arith) (no_word _ no-bytes)

pub returns-else-is_empty : goal.returns-else-is_empty
returns-else-is_empty g c =
    let all : c.loop-i.i ≡ length c.args.mosts.now = omega arith in
    let a-byte = ap empty (sym c.next-2.ensures.word) ∙ sym c.is_empty.ensures ∙ c.if-is_empty.false in
    subst (λ n. FirstWrong (words c.args.text.now) c.args.mosts.now (n + 1)) all (too_many c.loop-i.invariant (omega arith) a-byte)
