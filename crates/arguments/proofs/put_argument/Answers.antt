-- `arguments::put_argument` meets its contract: one space parts two arguments. Assumes nothing.
use mathlib.Core.List.{[], ◌∷◌}
use native.Mathlib.Omega.{arith}
use Rattle.text.specs.Digits.{Put}
use Rattle.arguments.proofs.Words.{joined-first, joined-next}
use Rattle.arguments.proofs.put_argument.Goals as goal

pub returns-then-at-eq0 : goal.returns-then-at-eq0
returns-then-at-eq0 c =
    let p = c.put_word.ensures in
    record {
      put = joined-first c.args.bytes.now c.if-at-eq0.true p.put;
      upper_bound = omega arith;
    }

pub returns : goal.returns
returns c =
    let a = c.args in
    let s = c.put_bytes-next.ensures in
    let p = c.put_word-2.ensures in
    let space : Put a.text.now a.at (32 ∷ []) _ _ = record { stored = s.out_after; place = s.value } in
    record {
      put = joined-next a.bytes.now (omega arith) space p.put;
      upper_bound = omega arith;
    }
