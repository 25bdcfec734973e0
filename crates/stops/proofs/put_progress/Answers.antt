-- `stops::put_progress` meets its contract. Assumes nothing.
use Rattle.text.specs.Text.{ascii}
use Rattle.text.proofs.Spelling.{put_both}
use Rattle.stops.specs.Stops.{progress_text}
use Rattle.stops.proofs.put_progress.Goals as goal

pub returns-clause-put : goal.returns-clause-put
unfolding progress_text
returns-clause-put c =
    put_both {xs = ascii "summary: file "} c.put_bytes-files_at.ensures.put (put_both c.put_number-after_files.ensures.put (put_both {xs = ascii ", "} c.put_bytes-events_at.ensures.put
    (put_both (rw c.from.ensures at c.put_number-after_events.ensures.put) c.put_bytes.ensures.put)))
