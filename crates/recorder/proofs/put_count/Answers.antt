-- `recorder::put_count` meets its contract: three texts one behind the other. Assumes nothing.
use native.Mathlib.Omega.{arith}
use Rattle.text.proofs.Spelling.{put_both}
use Rattle.recorder.specs.Recorder.{count_text}
use Rattle.recorder.proofs.put_count.Goals as goal

pub returns : goal.returns
unfolding count_text
returns c =
    let first = c.put_bytes-number.ensures in
    let last = c.put_bytes.ensures in
    record {
      put = put_both first.put (put_both c.put_number-end.ensures.put last.put);
      upper_bound = omega (arith, first.value, c.put_number-end.ensures.upper_bound, last.value);
    }
