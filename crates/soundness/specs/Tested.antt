-- The live tasks of a board, and whether it is sound: code-level definitions; no promise of a public call cites them. Assumes nothing.
use Rattle.std.specs.Prelude.{ℕ, ◌≤◌, ◌<◌, ◌≡◌, Bool, true, false, List, length, get_or, Result, Ok, is_ok}
use Rattle.tasks.specs.declared.Device.{Device}
use Rattle.tasks.specs.declared.Task.{Task}
use Rattle.tasks.specs.Tasks.{meets}
use Rattle.slots.specs.Slots.{sound}
use Rattle.live.specs.Live.{task_at, Apart, Masked}
use Rattle.live.specs.Kept.{Kept, InUse}
use Rattle.survey.specs.declared.Findings.{Findings}
use Rattle.survey.specs.Survey.{findings_of}

-- a column from left up to, not including, past that was taken by a start before finish
pub record Clash (left past finish : ℕ) (row : List ℕ) : Type 0 where
  pub it : ℕ
  pub from : left ≤ it
  pub to : it < past
  pub sooner : get_or row it 0 < finish

-- those columns taken by a start: what the row is then, and whether one of them had been taken by a start before finish
pub record Taken (left past start finish : ℕ) (row next : List ℕ) (hits : ℕ) : Type 0 where
  pub size : length next ≡ length row
  pub here : (c : ℕ) → left ≤ c → c < past → get_or next c 0 ≡ start
  pub before : (c : ℕ) → c < left → get_or next c 0 ≡ get_or row c 0
  pub behind : (c : ℕ) → past ≤ c → get_or next c 0 ≡ get_or row c 0
  pub free : hits ≡ 0 → (c : ℕ) → left ≤ c → c < past → finish ≤ get_or row c 0
  pub clash : 0 < hits → Clash left past finish row

-- two of the first n tasks that share a column at a tick
pub record Meeting (n : ℕ) (rows : List ℕ) : Type 0 where
  pub one : ℕ
  pub other : ℕ
  pub order : one < other
  pub inside : other < n
  pub meet : meets (task_at rows one) (task_at rows other) ≡ true

-- whether no two do
pub record Judged (n : ℕ) (rows : List ℕ) (r : Bool) : Type 0 where
  pub apart : r ≡ true → Apart n rows
  pub meeting : r ≡ false → Meeting n rows

-- whether a board is sound, and where it is, its live table
pub record Tested (D : Device) (clock : ℕ) (ks : List Task) (rows : List ℕ) (r : Result Findings Findings) : Type 0 where
  pub size : length rows ≡ 384
  pub slots : length ks ≡ 64
  pub few : (findings_of r).count ≤ 64
  pub used : InUse 64 ks (findings_of r).used
  pub sound : is_ok r ≡ sound D clock ks
  pub kept : (v : Findings) → r ≡ Ok v → Kept D clock ks v.count rows

-- the same with the words of its tasks' columns
pub record Stood (D : Device) (clock : ℕ) (ks : List Task) (rows masks : List ℕ) (r : Result Findings Findings) : Type 0 where
  pub tested : Tested D clock ks rows r
  pub wide : length masks ≡ 256
  pub masked : (v : Findings) → r ≡ Ok v → Masked v.count rows masks
