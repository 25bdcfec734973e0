-- `tokens::read_number` meets its contract. Assumes nothing.
use Prim.Native.Nat.{ℕ, ◌+◌, ◌-◌, ◌*◌}
use mathlib.Core.Bool.{true, not}
use mathlib.Core.List.{List}
use mathlib.Core.Path.{◌≡◌, refl, sym, ap, ◌∙◌}
use native.Mathlib.Omega.{arith}
use borrow.Author.Tests.{not-true, not-false}
use lib.ListN.{drop, get_or}
use Rattle.text.specs.Text as T
use Rattle.tokens.specs.Tokens.{digit, fits}
use Rattle.tokens.proofs.Judged.{digit-least, judged, fits-none, fits-some}
use Rattle.tokens.proofs.Judged.{judged-digit, judged-other, judged-large, judged-end, value-digit, value-end}
use Rattle.tokens.proofs.read_number.Goals as goal

pub returns-then-is_empty-clause-value : goal.returns-then-is_empty-clause-value
returns-then-is_empty-clause-value c = let a = c.args in rw (fits-none a.most a.word.now (sym c.is_empty.ensures ∙ c.if-is_empty.true))

pub loop-b-init : goal.loop-b-init
loop-b-init c =
    let a = c.args in
    record {
      most = omega arith;
      judged_so_far = fits-some a.most a.word.now (sym c.is_empty.ensures ∙ c.if-is_empty.false);
      value_so_far = refl;
    }

pub returns-then-not-is_digit-clause-value : goal.returns-then-not-is_digit-clause-value
returns-then-not-is_digit-clause-value c =
    let l = c.loop-b in
    let word : List ℕ = c.args.word.now in
    let most : ℕ = c.args.most in
    let other = sym c.is_digit.ensures ∙ not-true _ (ap not c.if-not-is_digit.true) in
    rw (l.invariant.judged_so_far ∙ judged-other most l.value word l.b-index (omega arith) other)

pub behind-more-requires : goal.behind-more-requires
behind-more-requires c =
    let byte : ℕ = get_or c.args.word.now c.loop-b.b-index 0 in
    let a-digit : digit byte ≡ true = sym c.is_digit.ensures ∙ not-false _ (ap not c.if-not-is_digit.false) in
    omega (arith, digit-least byte a-digit)

pub returns-then-more-from-clause-value : goal.returns-then-more-from-clause-value
returns-then-more-from-clause-value c =
    let l = c.loop-b in
    let word : List ℕ = c.args.word.now in
    let most : ℕ = c.args.most in
    let byte : ℕ = get_or word l.b-index 0 in
    let more : ℕ = l.value * 10 + (byte - 48) in
    let left : List ℕ = drop (l.b-index + 1) word in
    let a-digit : digit byte ≡ true = sym c.is_digit.ensures ∙ not-false _ (ap not c.if-not-is_digit.false) in
    let judged-on : fits most word ≡ judged most more left = l.invariant.judged_so_far ∙ judged-digit most l.value word l.b-index (omega arith) a-digit in
    rw (judged-on ∙ judged-large most more left (omega arith))

pub loop-b-preserved : goal.loop-b-preserved
loop-b-preserved c =
    let l = c.loop-b in
    let word : List ℕ = c.args.word.now in
    let most : ℕ = c.args.most in
    let left : List ℕ = drop (l.b-index + 1) word in
    let byte : ℕ = get_or word l.b-index 0 in
    let a-digit : digit byte ≡ true = sym c.is_digit.ensures ∙ not-false _ (ap not c.if-not-is_digit.false) in
    let e = sym c.behind-more.ensures in
    record {
      most = omega arith;
      judged_so_far = l.invariant.judged_so_far ∙ judged-digit most l.value word l.b-index (omega arith) a-digit ∙ ap (λ v. judged most v left) e;
      value_so_far = l.invariant.value_so_far ∙ value-digit most l.value word l.b-index (omega arith) ∙ ap (λ v. T.value v left) e;
    }

pub returns-clause-value : goal.returns-clause-value
returns-clause-value c =
    let l = c.loop-b in
    let word : List ℕ = c.args.word.now in
    let most : ℕ = c.args.most in
    let f : fits most word ≡ true = l.invariant.judged_so_far ∙ judged-end most l.value word l.b-index (omega arith) l.invariant.most in
    rw (f, l.invariant.value_so_far ∙ value-end l.value word l.b-index (omega arith))
