-- Events with their answers in lines of six numbers, as code reads them: code-level definitions; no promise of a public call cites them. Assumes nothing.
use Rattle.std.specs.Prelude.{ℕ, zero, suc, ◌+◌, ◌≤◌, ◌≡◌, cond, List, [], ◌∷◌, ◌++◌, eqb, length, get_or, drop, set, Ok, Err, Some, None}
use Rattle.sheets.specs.Sheets.{sheet_size}
use Rattle.events.specs.declared.Event.{Event}
use Rattle.events.specs.declared.Event.TheVariants.{NewBoard, Submit, Clock, Withdraw, GridBoard}
use Rattle.events.specs.Records.{Reading, read_from}
use Rattle.figures.specs.Figures.{Trial}

-- the counters of a sheet, none of them above a bound
pub record Roomy (most : ℕ) (cs : List ℕ) : Type 0 where
  pub size : length cs ≡ sheet_size
  pub small : (i : ℕ) → get_or cs i 0 ≤ most

-- a counter that grows
abbrev pub bumped : List ℕ → ℕ → ℕ → List ℕ
bumped cs i more = set cs i (get_or cs i 0 + more)

-- the clock after an event: a new board begins at 0, refused or not, and an instant that is not refused is now
unfoldable pub clock_after : ℕ → Event → ℕ → ℕ
clock_after now (NewBoard W H) answer = 0
clock_after now (Submit n a) answer = now
clock_after now (Clock i) answer = cond (eqb answer 0) i now
clock_after now (Withdraw n) answer = now
clock_after now (GridBoard W H g) answer = 0

-- the next record: its event with the answer that stands in its line, the clock after it, its size
unfoldable pub trial_read : ℕ → Reading → ℕ → ℕ → List Trial
trial_read now (Ok None) answer start = []
trial_read now (Ok (Some (v, n))) answer start = record { now = now; event = v; answer = answer; start = start } ∷ []
trial_read now (Err e) answer start = []

unfoldable pub clock_read : ℕ → Reading → ℕ → ℕ
clock_read now (Ok None) answer = now
clock_read now (Ok (Some (v, n))) answer = clock_after now v answer
clock_read now (Err e) answer = now

unfoldable pub size_read : Reading → ℕ
size_read (Ok None) = 0
size_read (Ok (Some (v, n))) = n
size_read (Err e) = 0

-- lines of six numbers each, one behind the other, and the bytes of their events
unfoldable pub trials_in : ℕ → ℕ → List ℕ → List ℕ → List Trial
trials_in zero now numbers bytes = []
trials_in (suc count) now numbers bytes =
    let next = read_from bytes in
    trial_read now next (get_or numbers 2 0) (get_or numbers 4 0) ++ trials_in count (clock_read now next (get_or numbers 2 0)) (drop 6 numbers) (drop (size_read next) bytes)
