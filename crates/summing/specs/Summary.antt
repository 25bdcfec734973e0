-- WHAT THE PROGRAM `summary` WRITES, from the bytes of its files to the bytes of its summary. Assumes nothing.
use Rattle.std.specs.Prelude.{ℕ, suc, ◌+◌, ◌-◌, Bool, true, false, cond, List, [], ◌∷◌, ◌++◌, length}
use Rattle.text.specs.Text.{ascii}
use Rattle.text.specs.Output.{Output}
use Rattle.sheets.specs.Sheets.{sheet_text}
use Rattle.session.specs.declared.Ending.{Ending}
use Rattle.session.specs.declared.Ending.TheVariants.{NotYet, AtEnd, In15, In16, AtLast, PastLast}
use Rattle.stops.specs.Stops.{stop_words, stop_said}
use Rattle.session.specs.Recording.{Story, story_from, most_events, first_state}
use Rattle.figures.specs.Figures.{Trial, trials_from, sheet_of}

-- a file: its name, and the bytes of its recording
pub record File : Type 0 where
  pub name : List ℕ
  pub bytes : List ℕ

-- a recording that is read to its end, so that the next file follows
abbrev pub whole? : Ending → Bool
whole? NotYet = true
whole? AtEnd = true
whole? (In15 k) = false
whole? (In16 k) = false
whole? AtLast = false
whole? PastLast = false

-- the events of files one after the other, how many files were begun, and what is said at the stop
pub record Sum : Type 0 where
  pub trials : List Trial
  pub files : ℕ
  pub words : List ℕ
  pub said : List ℕ

abbrev pub stops_in : List ℕ → List Trial → ℕ → Ending → Sum
stops_in name ts n e = record { trials = ts; files = 1; words = stop_words name n e; said = stop_said name n e }

abbrev pub before : List Trial → Sum → Sum
before ts s = record { trials = ts ++ s.trials; files = suc s.files; words = s.words; said = s.said }

-- how a file goes, n events into the summary: "A summary reads at most 1,000,000,000 events"; it begins with the board of zeros
abbrev pub story_of : ℕ → List ℕ → Story
story_of n bytes = story_from (most_events - n) first_state n bytes

-- THE FILES ONE AFTER THE OTHER, n events into the summary
unfoldable pub sum_from : ℕ → List File → Sum
sum_from n [] = record { trials = []; files = 0; words = ascii "end\n"; said = [] }
sum_from n (f ∷ fs) =
    let s = story_of n f.bytes in
    let here = trials_from first_state s.events in
    cond (whole? s.end) (before here (sum_from (n + length s.events) fs)) (stops_in f.name here (length s.events) s.end)

-- THE TEXT OF `summary`
unfoldable pub summary_text : List File → Output
summary_text fs = let s = sum_from 0 fs in record { out = sheet_text (sheet_of s.files s.trials) ++ s.words; err = s.said }
