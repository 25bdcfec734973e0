-- The cases of request Q-1, and of Q-2 in the summary, hold: the checker computes them from the definitions. Assumes nothing.
use mathlib.Core.Path.{◌≡◌, refl}
use mathlib.Core.List.{[], ◌∷◌, ◌++◌, map}
use Rattle.text.specs.Text.{ascii}
use Rattle.events.specs.declared.Event.TheVariants.{NewBoard, Submit, Clock}
use Rattle.events.specs.Records.{record_of}
use Rattle.laxity.specs.Laxity.{class_of}
use Rattle.sheets.specs.Sheets.{row_line, row_in, foot_text, sheet_text}
use Rattle.stops.specs.Stops.{stopped_at, stop_words, stop_message, stop_said}
use Rattle.figures.specs.Figures.{trials_from, verdict_of, verdicts, place_of, of, came, waited_in, figures_of, sheet_with, sheet_of}
use Rattle.summing.specs.Summary.{sum_from, summary_text}
use Rattle.promises.specs.Cases.{ask}
use Rattle.promises.specs.ProvingSet.{listing_events}
use Rattle.promises.specs.Accepted.{arrivals, table_events, figures_in, file_of, none_of, listing_summary}
use Rattle.promises.proofs.Proved.{open-book}

open-text : Unit {0}
unfolding row_line row_in foot_text sheet_text stopped_at stop_words stop_message stop_said sum_from summary_text
open-text = tt

open-summary : Unit {0}
unfolding trials_from verdict_of verdicts place_of of came waited_in figures_of sheet_with sheet_of arrivals table_events figures_in file_of none_of listing_summary open-text open-book
open-summary = tt

-- THE LISTING OF DOCUMENT 01, from the bytes of its records to the bytes that `summary` prints
pub listing-summed : summary_text (file_of listing_events ∷ []) ≡ record { out = listing_summary ++ ascii "events 7 files 1 stop end\n"; err = [] }
unfolding open-summary
listing-summed = refl

-- TABLE 1 by each planner, all in class A: submitted, taken, rejected, refused, waited
pub table-reference : figures_in (table_events 0) 0 0 ≡ 7 ∷ 3 ∷ 4 ∷ 0 ∷ 0 ∷ []
unfolding open-summary
table-reference = refl

pub table-horizon : figures_in (table_events 1) 1 0 ≡ 7 ∷ 7 ∷ 0 ∷ 0 ∷ 36 ∷ []
unfolding open-summary
table-horizon = refl

pub table-stuffing : figures_in (table_events 2) 2 0 ≡ 7 ∷ 7 ∷ 0 ∷ 0 ∷ 26 ∷ []
unfolding open-summary
table-stuffing = refl

pub table-full : figures_in (table_events 3) 3 0 ≡ 7 ∷ 7 ∷ 0 ∷ 0 ∷ 26 ∷ []
unfolding open-summary
table-full = refl

-- laxities 0, 1, 50, 51, 100, 101, 200, 201: Other, A, A, B, B, C, C, Other
pub classes : map class_of (0 ∷ 1 ∷ 50 ∷ 51 ∷ 100 ∷ 101 ∷ 200 ∷ 201 ∷ []) ≡ 3 ∷ 0 ∷ 0 ∷ 1 ∷ 1 ∷ 2 ∷ 2 ∷ 3 ∷ []
classes = refl

-- document 02, Q-2: with now 5 and e 4, d 10,000,009 is taken and 10,000,010 "a refused one in class Other"
pub lax-figures : figures_in (NewBoard 4 1 ∷ Clock 5 ∷ Submit 0 (ask 1 1 1 4 10000009) ∷ Submit 0 (ask 2 1 1 4 10000010) ∷ []) 0 3 ≡ 2 ∷ 1 ∷ 0 ∷ 1 ∷ 0 ∷ []
unfolding open-summary
lax-figures = refl

-- the summary stops at a 15, and says so; the file behind it is not read
pub stops-in-file : summary_text (file_of listing_events ∷ record { name = ascii "cut.rec"; bytes = record_of (NewBoard 4 1) ++ (3 ∷ 1 ∷ []) } ∷ file_of listing_events ∷ [])
    ≡ record {
      out = listing_summary ++ ascii "events 8 files 2 stop 15 cut.rec 2 3\n";
      err = ascii "summary: cut.rec: event 2 (kind 3) is cut short (15): the recording is not whole\n";
    }
unfolding open-summary
stops-in-file = refl
