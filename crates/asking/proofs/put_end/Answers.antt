-- `asking::put_end` meets its contract. Assumes nothing.
use mathlib.Core.Path.{refl}
use native.Mathlib.Omega.{arith}
use Rattle.text.specs.Text.{ascii}
use Rattle.asking.specs.Asking.{end_text}
use Rattle.asking.proofs.Copies.{put_as, at_front}
use Rattle.asking.proofs.put_end.Goals as goal

pub returns-in-NotYet : goal.returns-in-NotYet
unfolding end_text
returns-in-NotYet c = rw c.in-NotYet.is (record {
  value = refl;
  err_after = refl;
})

pub returns-in-AtEnd : goal.returns-in-AtEnd
unfolding end_text
returns-in-AtEnd c = rw c.in-AtEnd.is (record {
  value = refl;
  err_after = refl;
})

pub returns-in-In15 : goal.returns-in-In15
unfolding end_text
returns-in-In15 c = rw c.in-In15.is (record {
  value = c.put_message.ensures.value;
  err_after = c.put_message.ensures.err_after;
})

pub returns-in-In16 : goal.returns-in-In16
unfolding end_text
returns-in-In16 c = rw c.in-In16.is (record {
  value = c.put_message-in-In16.ensures.value;
  err_after = c.put_message-in-In16.ensures.err_after;
})

pub returns-in-AtLast : goal.returns-in-AtLast
unfolding end_text
returns-in-AtLast c = rw c.in-AtLast.is (record {
  value = refl;
  err_after = refl;
})

pub returns-in-PastLast : goal.returns-in-PastLast
unfolding end_text
returns-in-PastLast c =
    let e = c.put_bytes.ensures in
    let all = put_as _ (ascii "ask: the recording has more than 1000000000 events: not answered\n") refl e.value e.out_after in
    let front = at_front {l = c.args.err.now} all (omega (arith, c.put_bytes-arg-1.given.0.1)) in
    rw c.in-PastLast.is (record { value = front.0; err_after = front.1 })
