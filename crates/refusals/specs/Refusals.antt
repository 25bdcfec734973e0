-- The refusals of each call: its tests in the order of documents 01 and 02, each list once. Assumes nothing.
use Rattle.std.specs.Prelude.{ℕ, ◌+◌, ◌*◌, Bool, true, false, not, List, [], ◌∷◌, ltb, eqb}
use Rattle.std.specs.Prelude.{Result, Ok, Err}
use Rattle.refusals.specs.declared.Refusal.{Refusal}
use Rattle.refusals.specs.declared.Refusal.TheVariants.{Unsound, BadDevice, NoSuchPlanner, IdIsZero, BadSize, BadTime, IdIsLive, TooLate, NoSlot, InstantBeforeNow, InstantTooLate, IdNotLive, HasBegun, ShortBuffer, TooLax}
use Rattle.tasks.specs.declared.Device.{Device}
use Rattle.tasks.specs.declared.Submission.{Submission}
use Rattle.tasks.specs.Numbers.{last_planner, last_instant, device_fits, size_fits, time_fits}
use Rattle.laxity.specs.Laxity.{laxity, most_laxity}

-- the rows of "Answer numbers" that refuse; 18 of document 02, Q-2
abbrev pub number_of : Refusal → ℕ
number_of Unsound = 1
number_of BadDevice = 2
number_of NoSuchPlanner = 3
number_of IdIsZero = 4
number_of BadSize = 5
number_of BadTime = 6
number_of IdIsLive = 7
number_of TooLate = 8
number_of NoSlot = 9
number_of InstantBeforeNow = 11
number_of InstantTooLate = 12
number_of IdNotLive = 13
number_of HasBegun = 14
number_of ShortBuffer = 17
number_of TooLax = 18

-- a refusal's number, and 0, "done", where there is none
abbrev pub refused : {A : Type 0} → Result A Refusal → ℕ
refused (Ok a) = 0
refused (Err r) = number_of r

-- the test of one refusal number
pub record Test : Type 0 where
  pub number : ℕ
  pub holds : Bool

-- a row of "Answer numbers": the number, "given exactly when"
abbrev pub ◌when◌ : ℕ → Bool → Test
◌when◌ n t = record { number = n; holds = t }

infix 5 ◌when◌
-- what wins: the first test of the list that holds, whatever the numbers; 0 where none does
unfoldable pub refusal : List Test → ℕ
refusal [] = 0
refusal (t ∷ ts) = elim t.holds [ true ↦ t.number | false ↦ refusal ts ]

-- "1 the board is not sound"
abbrev pub unsound : Bool → Test
unsound sound = 1 when not sound

-- "5 width or height out of range"; document 02, Q-3: "5 also for a width that is not [a multiple]"
abbrev pub bad_size : Device → Submission → Test
bad_size D a = 5 when not (size_fits D a.w a.h)

-- "6 e or d out of range"
abbrev pub bad_time : Submission → Test
bad_time a = 6 when not (time_fits a.e a.d)

-- "8 d < now + e"
abbrev pub too_late : ℕ → Submission → Test
too_late now a = 8 when ltb a.d (now + a.e)

-- document 02, Q-2: "18, laxity too large, tested after 8 and before 9"
abbrev pub too_lax : ℕ → Submission → Test
too_lax now a = 18 when ltb most_laxity (laxity now a.e a.d)

-- NEW BOARD: "2 new board: W or H out of range"; document 02, Q-3: "2 also for g out of range or W not a multiple"
abbrev pub create_tests : Device → List Test
create_tests D = (2 when not (device_fits D)) ∷ []

-- SUBMISSION after 1: "3 to 10", with 18 after 8: planner, id, size, time, id live, deadline, laxity, 64 live; 10 is the rejection
abbrev pub submit_tests : Device → ℕ → ℕ → Submission → Bool → Bool → List Test
submit_tests D now planner a known full =
    (3 when ltb last_planner planner) ∷ (4 when eqb a.id 0) ∷ bad_size D a ∷ bad_time a ∷ (7 when known) ∷ too_late now a
    ∷ too_lax now a ∷ (9 when full) ∷ []

-- CLOCK and BUSY COLUMNS after 1: "11 instant before now", "12 instant over 2,000,000,000"
abbrev pub instant_tests : ℕ → ℕ → List Test
instant_tests now i = (11 when ltb i now) ∷ (12 when ltb last_instant i) ∷ []

-- WITHDRAWAL after 1: 13 no live task has the id, 14 it has begun
abbrev pub withdraw_tests : Bool → Bool → List Test
withdraw_tests known begun = (13 when not known) ∷ (14 when begun) ∷ []

-- OPENINGS after 1: "5, 6, 8 (id not read)", then 18
abbrev pub openings_tests : Device → ℕ → Submission → List Test
openings_tests D now a = bad_size D a ∷ bad_time a ∷ too_late now a ∷ too_lax now a ∷ []

-- HORIZON LIST after 1: "Fewer than three words a run gives 17"
abbrev pub horizon_tests : ℕ → ℕ → List Test
horizon_tests runs words = (17 when ltb words (3 * runs)) ∷ []
