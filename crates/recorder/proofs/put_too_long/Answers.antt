-- `recorder::put_too_long` meets its contract: four texts one behind the other. Assumes nothing.
use Prim.Native.Nat.{◌≤◌}
use native.Mathlib.Omega.{arith}
use Rattle.text.proofs.Spelling.{put_both}
use Rattle.recorder.specs.Recorder.{long_text}
use Rattle.recorder.proofs.Showing.{at_front}
use Rattle.recorder.proofs.put_too_long.Goals as goal

pub returns : goal.returns
unfolding long_text
returns c =
    let count = c.put_count.ensures in
    let all = put_both c.put_bytes-line_at.ensures.put (put_both c.put_number-line_end.ensures.put (put_both c.put_bytes-end.ensures.put count.put)) in
    let most : c.put_count.result ≤ 200 = omega (arith, c.put_bytes-line_at.ensures.value, c.put_number-line_end.ensures.upper_bound, c.put_bytes-end.ensures.value, count.upper_bound) in
    let all = at_front _ all (omega arith) in
    record { value = all.0; err_after = all.1 }
