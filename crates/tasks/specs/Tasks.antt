-- A task: when it holds which columns, its phase at an instant, its record. Assumes nothing.
use Rattle.std.specs.Prelude.{ℕ, ◌+◌, max, min, Bool, true, false, not, cond, ◌&&◌, List, map, leb, ltb, eqb}
use Rattle.tasks.specs.declared.Phase.{Phase}
use Rattle.tasks.specs.declared.Phase.TheVariants.{Ended, Waiting, Running}
use Rattle.tasks.specs.declared.Task.{Task}
use Rattle.tasks.specs.declared.Submission.{Submission}

-- "A task started at s holds its columns from s": the first tick that it holds
abbrev pub from : Task → ℕ
from t = t.start

-- "up to, not including, its finish s + e"
abbrev pub finish : Task → ℕ
finish t = t.start + t.e

-- the first column past it: "a task takes w adjacent columns"
abbrev pub past : Task → ℕ
past t = t.column + t.w

-- what lies from a up to, not including, b and what lies from c up to d share a number
abbrev pub overlap : ℕ → ℕ → ℕ → ℕ → Bool
overlap a b c d = ltb (max a c) (min b d)

-- "share a column at a tick (Definition 1)"
unfoldable pub meets : Task → Task → Bool
meets t u = overlap t.column (past t) u.column (past u) && overlap (from t) (finish t) (from u) (finish u)

-- the task has column c
unfoldable pub covers : ℕ → Task → Bool
covers c t = leb t.column c && ltb c (past t)

-- "A task started at s holds its columns from s up to, not including, its finish s + e"
unfoldable pub holds : ℕ → ℕ → Task → Bool
holds i c t = leb (from t) i && ltb i (finish t) && covers c t

-- "waiting if t < s, running if s ≤ t < s + e, else ended, summed without wrap"
unfoldable pub phase_at : ℕ → Task → Phase
phase_at i t = cond (ltb i (from t)) Waiting (cond (ltb i (finish t)) Running Ended)

-- a phase is that of a live task: waiting or running
abbrev pub live_phase : Phase → Bool
live_phase Ended = false
live_phase Waiting = true
live_phase Running = true

-- "waiting"
abbrev pub waiting_phase : Phase → Bool
waiting_phase Ended = false
waiting_phase Waiting = true
waiting_phase Running = false

-- "running"
abbrev pub running_phase : Phase → Bool
running_phase Ended = false
running_phase Waiting = false
running_phase Running = true

-- two phases are the same
abbrev pub same_phase : Phase → Phase → Bool
same_phase Ended p = not (live_phase p)
same_phase Waiting p = waiting_phase p
same_phase Running p = running_phase p

-- a slot's record is a live task
abbrev pub live : Task → Bool
live t = live_phase t.phase

-- the same record in another phase: "other fields stay"
abbrev pub in_phase : Phase → Task → Task
in_phase p t =
    record { id = t.id; e = t.e; d = t.d; start = t.start; w = t.w; h = t.h; column = t.column; phase = p }

-- "Stamping at instant t writes" the phase of the instant
unfoldable pub stamped : ℕ → Task → Task
stamped i t = in_phase (phase_at i t) t

-- "A viewer lends its own table of records": each is stamped
abbrev pub stamped_all : ℕ → List Task → List Task
stamped_all i ts = map (stamped i) ts

-- "A free slot holds zeros and the phase ended"
abbrev pub free_slot : Task
free_slot = record { id = 0; e = 0; d = 0; start = 0; w = 0; h = 0; column = 0; phase = Ended }

-- every number of the record is zero
unfoldable pub zeros : Task → Bool
zeros t =
    eqb t.id 0 && eqb t.e 0 && eqb t.d 0 && eqb t.start 0 && eqb t.w 0 && eqb t.h 0 && eqb t.column 0

-- "its record as submitted with the column and start answered", in the phase that it has at now
unfoldable pub booked : ℕ → Submission → ℕ → ℕ → Task
booked now a s c =
    stamped now (record { id = a.id; e = a.e; d = a.d; start = s; w = a.w; h = a.h; column = c; phase = Ended })
