-- `recorder::put_wrong` meets its contract: nine texts one behind the other. Assumes nothing.
use native.Mathlib.Omega.{arith}
use Rattle.text.proofs.Spelling.{put_both}
use Rattle.recorder.specs.Recorder.{wrong_text}
use Rattle.recorder.proofs.Showing.{at_front}
use Rattle.recorder.proofs.put_wrong.Goals as goal

pub returns : goal.returns
unfolding wrong_text
returns c =
    let wants = put_both c.put_expected-wants_end.ensures.put c.put_count.ensures.put in
    let quote = put_both c.put_bytes-quote_at.ensures.put (put_both c.put_quoted-quote_end.ensures.put (put_both c.put_bytes-wants_at.ensures.put wants)) in
    let word = put_both c.put_bytes-word_at.ensures.put (put_both c.put_number-word_end.ensures.put quote) in
    let all = put_both c.put_bytes-line_at.ensures.put (put_both c.put_number-line_end.ensures.put word) in
    let all = at_front _ all (omega arith) in
    record { value = all.0; err_after = all.1 }
