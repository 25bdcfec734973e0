-- `text::put_event` meets its contract: five texts, one behind the other. Assumes nothing.
use native.Mathlib.Omega.{arith}
use Rattle.text.specs.Text.{ascii}
use Rattle.text.proofs.Spelling.{put_both}
use Rattle.text.proofs.put_event.Goals as goal

pub returns : goal.returns
returns c = record {
  put = put_both c.put_bytes-event_at.ensures.put (put_both c.put_number-after_event.ensures.put (put_both {xs = ascii " (kind "} c.put_bytes-kind_at.ensures.put
      (put_both (rw c.from.ensures at c.put_number-after_kind.ensures.put) c.put_bytes.ensures.put)));
  upper_bound = omega arith;
}
