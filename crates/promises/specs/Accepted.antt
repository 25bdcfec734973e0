-- The cases of request Q-1: what `summary` says of the listing of document 01, of Table 1 by each planner, and of laxities at the edges of classes. Assumes nothing.
use Rattle.std.specs.Prelude.{ℕ, suc, List, [], ◌∷◌, ◌++◌, get_or}
use Rattle.table1.specs.Table.{table1}
use Rattle.text.specs.Text.{ascii}
use Rattle.events.specs.declared.Event.{Event}
use Rattle.events.specs.declared.Event.TheVariants.{NewBoard, Submit, Clock}
use Rattle.session.specs.Recording.{first_state}
use Rattle.figures.specs.Figures.{trials_from, verdicts, figures_of}
use Rattle.summing.specs.Summary.{File}
use Rattle.promises.specs.Cases.{ask}
use Rattle.promises.specs.ProvingSet.{recording}

-- each row as a clock to its arrival and a submission to planner n
unfoldable pub arrivals : ℕ → ℕ → List (List ℕ) → List Event
arrivals n id [] = []
arrivals n id (r ∷ rs) = Clock (get_or r 0 0) ∷ Submit n (ask id (get_or r 3 0) (get_or r 4 0) (get_or r 1 0) (get_or r 2 0)) ∷ arrivals n (suc id) rs

-- Table 1 played by planner n
unfoldable pub table_events : ℕ → List Event
table_events n = NewBoard 10 6 ∷ arrivals n 1 table1

-- the figures of a planner and class
unfoldable pub figures_in : List Event → ℕ → ℕ → List ℕ
figures_in es p c = figures_of (verdicts (trials_from first_state es)) p c

-- the file of some events
unfoldable pub file_of : List Event → File
file_of es = record { name = ascii "session.rec"; bytes = recording es }

-- the rows of planners and classes with no submission
unfoldable pub none_of : List ℕ → List ℕ
none_of name = name ++ ascii " 0 0 0 0 0 0/0\n"

-- "01's listing: stuffing A `2 2 0 0 2`, stuffing Other `1 0 1 0 0`, full Other `1 1 0 0 0`"
unfoldable pub listing_summary : List ℕ
listing_summary =
    ascii "planner class submitted taken rejected refused waited taken/submitted\n"
    ++ none_of (ascii "reference A")
    ++ none_of (ascii "reference B")
    ++ none_of (ascii "reference C")
    ++ none_of (ascii "reference Other")
    ++ none_of (ascii "horizon A")
    ++ none_of (ascii "horizon B")
    ++ none_of (ascii "horizon C")
    ++ none_of (ascii "horizon Other")
    ++ ascii "stuffing A 2 2 0 0 2 2/2\n"
    ++ none_of (ascii "stuffing B")
    ++ none_of (ascii "stuffing C")
    ++ ascii "stuffing Other 1 0 1 0 0 0/1\n"
    ++ none_of (ascii "full A")
    ++ none_of (ascii "full B")
    ++ none_of (ascii "full C")
    ++ ascii "full Other 1 1 0 0 0 1/1\n"
    ++ ascii "refused without class 0\n"
