-- The machine of `summary`: where it stands between two pieces, and what a piece adds. Assumes nothing.
use Rattle.std.specs.Prelude.{ℕ, ◌-◌, List, [], ◌++◌, length}
use Rattle.sheets.specs.Sheets.{plus, wrapped, sheet_text}
use Rattle.reader.specs.declared.Closed.{Closed}
use Rattle.reader.specs.declared.Reader.{Reader}
use Rattle.reader.specs.Reader.{Heard, first_reader, heard, end_of}
use Rattle.stops.specs.Stops.{stop_words, stop_said}
use Rattle.session.specs.declared.Ending.{Ending}
use Rattle.figures.specs.Figures.{trials_from, sheet_of}
use Rattle.summing.specs.declared.Summing.{Summing}
use Rattle.summing.specs.declared.Summed.{Summed}

-- no file yet
unfoldable pub first_summing : Summing
first_summing = record { reader = first_reader; figures = sheet_of 0 []; before = 0 }

-- the first reader, n events into the summary
unfoldable pub reader_at : ℕ → Reader
reader_at n = record { state = first_reader.state; number = n; held = first_reader.held; size = 0; end = first_reader.end }

-- "Each file is a recording of its own and begins with the board of zeros"
unfoldable pub next_file : Summing → Summing
next_file s = record { reader = reader_at s.reader.number; figures = wrapped (plus s.figures (sheet_of 1 [])); before = s.reader.number }

-- a piece of its recording
abbrev pub heard_in : Summing → List ℕ → ℕ → Heard
heard_in s piece words = heard s.reader piece words

unfoldable pub summed : Summing → List ℕ → ℕ → Summed
summed s piece words =
    let h = heard_in s piece words in
    record {
      summing = record { reader = h.reader; figures = wrapped (plus s.figures (sheet_of 0 (trials_from s.reader.state h.events))); before = s.before };
      taken = h.taken;
    }

-- the file has ended
unfoldable pub file_end : Summing → Ending
file_end s = end_of s.reader

-- the summary, where it stops in the file at hand
unfoldable pub sum_text : Summing → List ℕ → List ℕ
sum_text s name = sheet_text s.figures ++ stop_words name (s.reader.number - s.before) (file_end s)

unfoldable pub sum_said : Summing → List ℕ → List ℕ
sum_said s name = stop_said name (s.reader.number - s.before) (file_end s)

unfoldable pub closed : Summing → List ℕ → Closed
closed s name = record { used = length (sum_text s name); said = length (sum_said s name) }
