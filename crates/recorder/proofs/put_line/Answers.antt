-- `recorder::put_line` meets its contract: what a line says makes its record or its message. Assumes nothing.
use Prim.Native.Nat.{ℕ}
use mathlib.Core.Path.{◌≡◌, refl, ap, ◌∙◌}
use mathlib.Core.Bool.{true, false}
use Rattle.std.proofs.Common.{Some, None, Ok, Err}
use Rattle.recorder.specs.declared.Step.{Step}
use Rattle.recorder.specs.Recorder.{made_of}
use Rattle.recorder.proofs.Recording.{made_by}
use Rattle.recorder.proofs.put_line.Goals as goal

pub returns-in-Ok-None : goal.returns-in-Ok-None
unfolding made_of
returns-in-Ok-None c =
    let a = c.args in
    let is : c.read.result ≡ Ok None = c.in-Ok-None.is ∙ ap Ok c.in-Ok-None.field-0-is in
    rw (made_by a.line a.records a.text.now (Ok None) c.unmarked-bare.ensures c.read.ensures is) (record {
      value = refl;
      out_after = refl;
      err_after = refl;
    })

pub returns-in-Ok-Some : goal.returns-in-Ok-Some
unfolding made_of
returns-in-Ok-Some c =
    let a = c.args in
    let is : c.read.result ≡ Ok (Some c.in-Ok-Some.event) = c.in-Ok-Some.is ∙ ap Ok c.in-Ok-Some.field-0-is in
    let p = rw c.in-Ok-Some.event-is at c.put_record.ensures in
    let step : ℕ → Step = λ n. record { used = n; said = 0; records = 1; more = true } in
    rw (made_by a.line a.records a.text.now (Ok (Some c.in-Ok-Some.event)) c.unmarked-bare.ensures c.read.ensures is) (record {
      value = ap step p.value;
      out_after = p.out_after;
      err_after = refl;
    })

pub returns-in-Err : goal.returns-in-Err
unfolding made_of
returns-in-Err c =
    let a = c.args in
    let p = c.complain.ensures in
    let step : ℕ → Step = λ n. record { used = 1; said = n; records = 0; more = false } in
    rw (made_by a.line a.records a.text.now (Err c.in-Err.field-0) c.unmarked-bare.ensures c.read.ensures c.in-Err.is) (record {
      value = ap step p.value;
      out_after = refl;
      err_after = p.err_after;
    })
