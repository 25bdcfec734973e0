-- `recorder::put_quoted` meets its contract: no word, a long one, a short one. Assumes nothing.
use mathlib.Core.Path.{sym, ◌∙◌}
use native.Mathlib.Omega.{arith}
use Rattle.recorder.proofs.Showing.{quoted-none, quoted-short, quoted-long}
use Rattle.recorder.proofs.put_quoted.Goals as goal

pub returns-then-is_empty : goal.returns-then-is_empty
returns-then-is_empty c =
    let p = c.put_bytes.ensures in
    record {
      put = quoted-none _ (sym c.is_empty.ensures ∙ c.if-is_empty.true) p.put;
      upper_bound = omega (arith, p.value);
    }

pub returns-then-word-gt40 : goal.returns-then-word-gt40
returns-then-word-gt40 c =
    let p = c.put_bytes-then-word-gt40.ensures in
    let s = c.put_shown-cut.ensures in
    record {
      put = quoted-long _ (sym c.is_empty.ensures ∙ c.if-is_empty.false) c.if-word-gt40.true c.put_bytes-first.ensures.put s.put p.put;
      upper_bound = omega (arith, c.put_bytes-first.ensures.value, s.value, p.value);
    }

pub returns : goal.returns
returns c =
    let p = c.put_bytes-2.ensures in
    let s = c.put_shown-end.ensures in
    let h = c.if-word-gt40.false in
    record {
      put = quoted-short _ (sym c.is_empty.ensures ∙ c.if-is_empty.false) (omega (arith, h)) c.put_bytes-first.ensures.put s.put p.put;
      upper_bound = omega (arith, c.put_bytes-first.ensures.value, s.value, p.value, h);
    }
