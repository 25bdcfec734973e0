-- The proving set of document 01, cases 1 to 9, as one table, with the cases that tell near misses apart. Assumes nothing.
use Rattle.std.specs.Prelude.{ℕ, suc, List, [], ◌∷◌, ◌++◌, get_or, take}
use Rattle.table1.specs.Table.{table1}
use Rattle.events.specs.declared.Event.{Event}
use Rattle.events.specs.declared.Event.TheVariants.{NewBoard, Submit, Clock, Withdraw}
use Rattle.events.specs.Records.{record_of}
use Rattle.lists.specs.Lists.{each}
use Rattle.text.specs.Text.{ascii}
use Rattle.promises.specs.Cases.{ask, Step, submit, clock, withdraw, horizon, openings, Case, case, at, only}

-- each row of the table as a clock to its arrival and a submission to planner n
unfoldable pub played : ℕ → ℕ → List (List ℕ) → List Step
played n id [] = []
played n id (r ∷ rs) =
    clock (get_or r 0 0) ∷ submit n id (get_or r 3 0) (get_or r 4 0) (get_or r 1 0) (get_or r 2 0) ∷ played n (suc id) rs

-- a row with another deadline
unfoldable pub with_deadline : ℕ → List ℕ → List ℕ
with_deadline d r = get_or r 0 0 ∷ get_or r 1 0 ∷ d ∷ get_or r 3 0 ∷ get_or r 4 0 ∷ []

-- the table with another deadline for task 7
unfoldable pub table_with : ℕ → List (List ℕ) → List (List ℕ)
table_with d rows = take 6 rows ++ (with_deadline d (get_or rows 6 []) ∷ [])

-- the clock's answers between those of the submissions
unfoldable pub with_clocks : List (List ℕ) → List (List ℕ)
with_clocks [] = []
with_clocks (x ∷ xs) = only 0 ∷ x ∷ with_clocks xs

-- "(1,0) (4,0) (4,3) (7,3) (7,6) (4,15)": columns and starts of the first six, with their finishes
unfoldable pub first_six : List (List ℕ)
first_six = at 1 0 20 ∷ at 4 0 3 ∷ at 4 3 15 ∷ at 7 3 6 ∷ at 7 6 8 ∷ at 4 15 18 ∷ []

-- rows of Table 1 by planner n on its device of 10 x 6
unfoldable pub seven : ℕ → List (List ℕ) → List (List ℕ) → Case
seven n rows out = case 10 6 (played n 1 rows) (with_clocks out)

-- the listing's board and its events 2 and 3
unfoldable pub listing : List Step → List (List ℕ) → Case
listing vs out = case 4 1 (submit 2 1 2 1 2 9 ∷ submit 2 2 3 1 4 9 ∷ vs) (at 1 0 2 ∷ at 1 2 6 ∷ out)

-- THE PROVING SET, cases 1 to 9, over the rows of a table
unfoldable pub proving_set_over : List (List ℕ) → List Case
proving_set_over rows =
    -- 1 Horizon, and 4 the horizon after it
    case 10 6 (played 1 1 rows ++ (horizon 13 ∷ []))
    (with_clocks (first_six ++ (at 4 18 20 ∷ [])) ++ ((0 ∷ 4 ∷ 10 ∷ 10 ∷ 3 ∷ 9 ∷ 9 ∷ 8 ∷ 7 ∷ 8 ∷ 18 ∷ 1 ∷ 6 ∷ 20 ∷ 999 ∷ []) ∷ []))
    -- 2 Stuffing, and Full
    ∷ seven 2 rows (first_six ++ (at 7 8 10 ∷ []))
    ∷ seven 3 rows (first_six ++ (at 7 8 10 ∷ []))
    -- 3 Reference
    ∷ seven 0 rows (at 1 0 20 ∷ at 4 0 3 ∷ only 10 ∷ only 10 ∷ only 10 ∷ only 10 ∷ at 4 3 5 ∷ [])
    -- 5 task 7 with d 10, and with d 9
    ∷ seven 1 (table_with 10 rows) (first_six ++ (only 10 ∷ []))
    ∷ seven 2 (table_with 10 rows) (first_six ++ (at 7 8 10 ∷ []))
    ∷ seven 1 (table_with 9 rows) (first_six ++ (only 10 ∷ []))
    ∷ seven 2 (table_with 9 rows) (first_six ++ (only 10 ∷ []))
    ∷ seven 3 (table_with 9 rows) (first_six ++ (only 10 ∷ []))
    -- 6 the listing, event 4: Reference and Stuffing 10, Horizon and Full (4,0)
    ∷ listing (submit 0 3 1 1 5 5 ∷ []) (only 10 ∷ [])
    ∷ listing (submit 1 3 1 1 5 5 ∷ []) (at 4 0 5 ∷ [])
    ∷ listing (submit 2 3 1 1 5 5 ∷ submit 3 3 1 1 5 5 ∷ clock 2 ∷ withdraw 2 ∷ []) (only 10 ∷ at 4 0 5 ∷ only 0 ∷ only 14 ∷ [])
    -- 7 with id 2 withdrawn before event 4
    ∷ listing (withdraw 2 ∷ submit 2 3 1 1 5 5 ∷ []) (only 0 ∷ at 3 0 5 ∷ [])
    -- 8 runs 1–2 and 4–5 tie
    ∷ case 5 1 (submit 0 1 2 1 1 9 ∷ submit 0 2 1 1 9 9 ∷ clock 1 ∷ submit 2 3 2 1 1 5 ∷ []) (at 1 0 1 ∷ at 3 0 9 ∷ only 0 ∷ at 1 1 2 ∷ [])
    -- 9 the openings: six words, then on after (2,1)
    ∷ case 3 1 (submit 0 1 1 1 2 9 ∷ openings 2 1 1 3 0 0 6 ∷ openings 2 1 1 3 2 1 6 ∷ [])
    (at 1 0 2 ∷ (0 ∷ 3 ∷ 1 ∷ 0 ∷ 2 ∷ 1 ∷ 2 ∷ 2 ∷ 1 ∷ []) ∷ (0 ∷ 1 ∷ 0 ∷ 2 ∷ 2 ∷ 999 ∷ 999 ∷ 999 ∷ 999 ∷ []) ∷ [])
    ∷ []

-- over Table 1; `proving-rows` of `proofs/Proved` says that the constant which `table1::rows` returns, and the demonstration reads, is that table
unfoldable pub proving_set : List Case
proving_set = proving_set_over table1

-- columns 1–3 free, 4 held, 5–6 free, 7 held, now 1; then others
unfoldable pub two_runs : List Step → List (List ℕ) → Case
two_runs vs out =
    case 7 1 (submit 0 1 3 1 1 9 ∷ submit 0 2 1 1 9 9 ∷ submit 0 3 2 1 1 9 ∷ submit 0 4 1 1 9 9 ∷ clock 1 ∷ vs)
    (at 1 0 1 ∷ at 4 0 9 ∷ at 5 0 1 ∷ at 7 0 9 ∷ only 0 ∷ out)

-- columns 2–3 and 5–6 free, 1 held up to 2, 4 up to 9; a task waits for 1–3 from 2 to 6; now 1; then others
unfoldable pub waiting_ahead : List Step → List (List ℕ) → Case
waiting_ahead vs out =
    case 6 1 (submit 0 1 1 1 2 9 ∷ submit 0 2 2 1 1 9 ∷ submit 0 3 1 1 9 9 ∷ submit 0 4 2 1 1 9 ∷ submit 1 5 3 1 4 6 ∷ clock 1 ∷ vs)
    (at 1 0 2 ∷ at 2 0 1 ∷ at 4 0 9 ∷ at 5 0 1 ∷ at 1 2 6 ∷ only 0 ∷ out)

-- WHAT TELLS NEAR MISSES APART
unfoldable pub telling_set : List Case
telling_set =
    -- best fit from first fit: both runs are wide enough, the wider one is to the left; Full takes the lowest column
    two_runs (submit 0 5 2 1 1 5 ∷ []) (at 5 1 2 ∷ [])
    ∷ two_runs (submit 1 5 2 1 1 5 ∷ []) (at 5 1 2 ∷ [])
    ∷ two_runs (submit 2 5 2 1 1 5 ∷ []) (at 5 1 2 ∷ [])
    ∷ two_runs (submit 3 5 2 1 1 5 ∷ []) (at 1 1 2 ∷ [])
    -- the left edge from the other columns of the run
    ∷ two_runs (submit 0 5 1 1 1 5 ∷ submit 2 6 1 1 1 5 ∷ []) (at 5 1 2 ∷ at 6 1 2 ∷ [])
    ∷ two_runs (submit 1 5 1 1 1 5 ∷ submit 0 6 3 1 1 5 ∷ []) (at 5 1 2 ∷ at 1 1 2 ∷ [])
    -- waiting tasks: the left edge of the first interval meets one, and the next interval is taken
    ∷ waiting_ahead (submit 0 6 2 1 5 9 ∷ []) (at 5 1 6 ∷ [])
    ∷ waiting_ahead (submit 2 6 2 1 5 9 ∷ []) (at 5 1 6 ∷ [])
    -- a stay that ends as the waiting task starts meets it not; one tick longer does
    ∷ waiting_ahead (submit 2 6 2 1 1 9 ∷ []) (at 2 1 2 ∷ [])
    ∷ waiting_ahead (submit 2 6 2 1 2 9 ∷ []) (at 5 1 3 ∷ [])
    -- a task that waits at now holds its columns at its start, and none after its finish
    ∷ waiting_ahead (submit 2 6 2 1 5 9 ∷ submit 2 7 3 1 2 8 ∷ submit 2 8 3 1 2 8 ∷ []) (at 5 1 6 ∷ at 1 6 8 ∷ only 10 ∷ [])
    -- where no place is left by the deadline, Stuffing and Full both reject
    ∷ waiting_ahead (submit 2 6 2 1 5 9 ∷ submit 2 7 1 1 3 5 ∷ submit 3 7 1 1 3 5 ∷ []) (at 5 1 6 ∷ only 10 ∷ only 10 ∷ [])
    -- the start of a waiting task is not visited: at 4, a start and no finish, Stuffing would find column 3; Full begins at 2
    ∷ case 4 1 (submit 0 1 4 1 2 9 ∷ submit 1 2 4 1 2 9 ∷ submit 1 3 2 1 2 9 ∷ withdraw 2 ∷ submit 2 4 2 1 3 8 ∷ submit 3 4 2 1 3 8 ∷ [])
    (at 1 0 2 ∷ at 1 2 4 ∷ at 1 4 6 ∷ only 0 ∷ only 10 ∷ at 3 2 5 ∷ [])
    ∷ []

-- the listing of document 01: its events, and what `plan` prints for their records
unfoldable pub listing_events : List Event
listing_events =
    NewBoard 4 1 ∷ Submit 2 (ask 1 2 1 2 9) ∷ Submit 2 (ask 2 3 1 4 9) ∷ Submit 2 (ask 3 1 1 5 5)
    ∷ Submit 3 (ask 3 1 1 5 5) ∷ Clock 2 ∷ Withdraw 2 ∷ []

abbrev pub header_line : List ℕ
header_line = ascii "event kind answer column start finish\n"

unfoldable pub listing_printed : List ℕ
listing_printed =
    header_line
    ++ ascii "1 1 0 0 0 0\n"
    ++ ascii "2 2 0 1 0 2\n"
    ++ ascii "3 2 0 1 2 6\n"
    ++ ascii "4 2 10 0 0 0\n"
    ++ ascii "5 2 0 4 0 5\n"
    ++ ascii "6 3 0 0 0 0\n"
    ++ ascii "7 4 14 0 0 0\n"

-- the bytes of some events
unfoldable pub recording : List Event → List ℕ
recording vs = each vs record_of
