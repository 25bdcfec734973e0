-- What the demands speak of, in plain clauses: the table "Given exactly when" of each call, and what each call does where it is not refused. Assumes nothing.
use Prim.Native.Nat.{ℕ, suc, ◌+◌, ◌*◌, ◌≤◌, ◌<◌}
use mathlib.Core.Path.{◌≡◌}
use mathlib.Core.Logic.{◌⊎◌}
use mathlib.Core.Bool.{cond, not}
use mathlib.Core.List.{List, [], ◌∷◌, ◌++◌}
use lib.Dec.{T, ltb}
use lib.ListN.{length, drop}
use Rattle.lists.specs.Lists.{◌∈◌, pairwise?}
use Rattle.lists.proofs.Order.{Sorted}
use Rattle.tasks.specs.declared.Phase.{Phase}
use Rattle.tasks.specs.declared.Phase.TheVariants.{Ended, Waiting, Running}
use Rattle.tasks.specs.declared.Task.{Task}
use Rattle.tasks.specs.declared.Submission.{Submission}
use Rattle.tasks.specs.Tasks.{finish, live, in_phase, free_slot}
use Rattle.tasks.proofs.Laws.{Holds}
use Rattle.lookups.specs.Lookups.{Strip, strip_numbers}
use Rattle.lookups.proofs.HorizonList.{EqualRelease, Earlier}
use Rattle.board.specs.declared.Board.{Board}
use Rattle.board.specs.Refusals.{live_of, horizon_of}
use Rattle.board.proofs.Kept.{SoundBoard, slot_at}
use Rattle.events.specs.declared.Event.{Event}
use Rattle.std.specs.Prelude.{Ok, Err, Some, None}
use Rattle.events.specs.Records.{Reading}
use Rattle.events.specs.declared.ReadError.TheVariants.{CutShort, Unknown}
use Rattle.events.proofs.Found.{Known, NoKind}

-- what is asked of a call's lifetimes and arguments holds of any
abbrev pub Any {κ ℓ} : {K : Type κ} {A : Type ℓ} → (K → A → Type 0) → Type (κ ⊔ ℓ)
Any {K} {A} asked = (κs : K) (a : A) → asked κs a

-- A ROW of "Answer numbers": the number, "given exactly when"
pub record Row : Type 1 where
  pub number : ℕ
  pub given : Type 0

abbrev pub ◌when◌ : ℕ → Type 0 → Row
◌when◌ n P = record { number = n; given = P }

infix 5 ◌when◌
-- THE FIRST ROW THAT HOLDS, in the order of the list, has the number k
pub data First : List Row → ℕ → Type 1 where
  this : {r : Row} {rows : List Row} → r.given → First (r ∷ rows) r.number
  later : {r : Row} {rows : List Row} {k : ℕ} → (r.given → ⊥) → First rows k → First (r ∷ rows) k

-- NO ROW HOLDS
pub data Clear : List Row → Type 1 where
  empty : Clear []
  next : {r : Row} {rows : List Row} → (r.given → ⊥) → Clear rows → Clear (r ∷ rows)

-- WHAT THE ROWS GIVE: 0 where no row holds, and otherwise the number of the first that does, which is not 0
pub data Given (rows : List Row) (k : ℕ) : Type 1 where
  done : Clear rows → k ≡ 0 → Given rows k
  refused : First rows k → 0 < k → Given rows k

-- a row of the number k, wherever it stands, holds
pub data Holding : List Row → ℕ → Type 1 where
  here : {r : Row} {rows : List Row} → r.given → Holding (r ∷ rows) r.number
  there : {r : Row} {rows : List Row} {k : ℕ} → Holding rows k → Holding (r ∷ rows) k

-- the numbers of the rows, and that they rise
abbrev pub numbers : List Row → List ℕ
numbers [] = []
numbers (r ∷ rows) = r.number ∷ numbers rows

abbrev pub Rises : List Row → Type 0
Rises rows = T (pairwise? ltb (numbers rows))

-- "out of range": below lo, or over hi
abbrev pub Outside : ℕ → ℕ → ℕ → Type 0
Outside lo hi n = (n < lo) ⊎ (hi < n)

-- n is a multiple of g: so many steps
abbrev pub Steps : ℕ → ℕ → Type 0
Steps g n = (k : ℕ) × (n ≡ k * g)

-- a live task of the id n
pub record LiveTask (b : Board) (n : ℕ) : Type 0 where
  pub task : Task
  pub among : task ∈ live_of b
  pub id : task.id ≡ n

-- THE ROWS, each once
-- "1 the board is not sound"
abbrev pub not_sound : Board → Row
not_sound b = 1 when (SoundBoard b → ⊥)

-- "5 width or height out of range"; document 02, Q-3: "5 also for a width that is not [a multiple]"
abbrev pub bad-size : Board → Submission → Row
bad-size b a = 5 when ((Outside 1 b.device.columns a.w ⊎ Outside 1 b.device.rows a.h) ⊎ (Steps b.device.grid a.w → ⊥))

-- "6 e or d out of range"
abbrev pub bad-time : Submission → Row
bad-time a = 6 when (Outside 1 1000000 a.e ⊎ (2000000000 < a.d))

-- "8 d < now + e"
abbrev pub too-late : Board → Submission → Row
too-late b a = 8 when (a.d < b.now + a.e)

-- document 02, Q-2: "18, laxity too large": over 10,000,000
abbrev pub too-lax : Board → Submission → Row
too-lax b a = 18 when (b.now + a.e + 10000000 < a.d)

-- "2 new board: W or H out of range"; document 02, Q-3: "2 also for g out of range or W not a multiple"
abbrev pub new-board-rows : ℕ → ℕ → ℕ → List Row
new-board-rows W H g = (2 when (((Outside 1 256 W ⊎ Outside 1 1024 H) ⊎ Outside 1 16 g) ⊎ (Steps g W → ⊥))) ∷ []

-- "Submission tests 1 and 3 to 10", and 18 "after 8 and before 9": "3 planner is not 0 to 3", "4 submitted id is 0", "7 id is live already", "9 64 tasks are live"; 10 is no refusal
abbrev pub submission-rows : Board → ℕ → Submission → List Row
submission-rows b n a =
    not_sound b ∷ (3 when (3 < n)) ∷ (4 when (a.id ≡ 0)) ∷ bad-size b a ∷ bad-time a ∷ (7 when LiveTask b a.id) ∷ too-late b a
    ∷ too-lax b a ∷ (9 when (64 ≤ length (live_of b))) ∷ []

-- "clock 1, 11, 12", "busy count 1, 11, 12": "11 instant before now", "12 instant over 2,000,000,000"
abbrev pub instant-rows : Board → ℕ → List Row
instant-rows b i = not_sound b ∷ (11 when (i < b.now)) ∷ (12 when (2000000000 < i)) ∷ []

-- "withdrawal 1, 13, 14": "13 id to withdraw is not live", "14 task to withdraw is running"
abbrev pub withdrawal-rows : Board → ℕ → List Row
withdrawal-rows b n =
    not_sound b ∷ (13 when (LiveTask b n → ⊥)) ∷ (14 when ((k : LiveTask b n) × (k.task.phase ≡ Running))) ∷ []

-- "openings 1, 5, 6, 8 (id not read)", then 18
abbrev pub openings-rows : Board → Submission → List Row
openings-rows b a = not_sound b ∷ bad-size b a ∷ bad-time a ∷ too-late b a ∷ too-lax b a ∷ []

-- "horizon list 1, 17": "Fewer than three words a run gives 17"
abbrev pub horizon-rows : Board → ℕ → List Row
horizon-rows b words = not_sound b ∷ (17 when (words < 3 * length (horizon_of b))) ∷ []

-- WHAT READING IS: "No kind byte left is the end"; a known kind and its body; "a known kind with too few bytes is 15"; an unknown kind byte is 16
pub data Reads : List ℕ → Reading → Type 0 where
  at-end : Reads [] (Ok None)
  whole : {kind n : ℕ} {f : List ℕ → Event} {body : List ℕ} → Known kind n f → n ≤ length body → Reads (kind ∷ body) (Ok (Some (f body, suc n)))
  cut : {kind n : ℕ} {f : List ℕ → Event} {body : List ℕ} → Known kind n f → length body < n → Reads (kind ∷ body) (Err (CutShort kind))
  unknown : {kind : ℕ} {body : List ℕ} → NoKind kind → Reads (kind ∷ body) (Err (Unknown kind))

-- "running exactly if its start is ≤ now and otherwise waiting"
abbrev pub begun_by : ℕ → ℕ → Phase
begun_by now s = cond (ltb now s) Waiting Running

-- BOOKING: "A task answered 0 takes the lowest free slot, its record as submitted with the column and start answered, and nothing else in the board changes"
pub record Books (b : Board) (a : Submission) (c s f : ℕ) (b' : Board) : Type 0 where
  -- the finish that is told
  pub finish : f ≡ s + a.e
  -- the slot is free, and every slot below it is live
  pub slot : ℕ
  pub inside : slot < length b.tasks
  pub free : slot_at b slot ≡ free_slot
  pub lowest : (i : ℕ) → i < slot → T (live (slot_at b i))
  -- it holds the record now
  pub holds : slot_at b' slot ≡ record { id = a.id; e = a.e; d = a.d; start = s; w = a.w; h = a.h; column = c; phase = begun_by b.now s }
  -- nothing else changes
  pub others : (i : ℕ) → (i ≡ slot → ⊥) → slot_at b' i ≡ slot_at b i
  pub slots : length b'.tasks ≡ length b.tasks
  pub now : b'.now ≡ b.now
  pub device : b'.device ≡ b.device

-- CLOCK: "Moves now; drops tasks that have finished by then; waiting tasks whose start has come are running"
pub record Ages (t : ℕ) (b b' : Board) : Type 0 where
  pub now : b'.now ≡ t
  -- a live task that has finished by then is a free slot
  pub ended : (i : ℕ) → T (live (slot_at b i)) → finish (slot_at b i) ≤ t → slot_at b' i ≡ free_slot
  -- another is the same record in the phase of the instant
  pub stands : (i : ℕ) → T (live (slot_at b i)) → t < finish (slot_at b i) → slot_at b' i ≡ in_phase (begun_by t (slot_at b i).start) (slot_at b i)
  -- nothing else changes
  pub free : (i : ℕ) → T (not (live (slot_at b i))) → slot_at b' i ≡ slot_at b i
  pub slots : length b'.tasks ≡ length b.tasks
  pub device : b'.device ≡ b.device

-- WITHDRAWAL: "Removes a waiting task"
pub record Removes (n : ℕ) (b b' : Board) : Type 0 where
  -- the slot of the one live task of that id, which is waiting
  pub slot : ℕ
  pub inside : slot < length b.tasks
  pub id : (slot_at b slot).id ≡ n
  pub waits : (slot_at b slot).phase ≡ Waiting
  pub only : (i : ℕ) → T (live (slot_at b i)) → (slot_at b i).id ≡ n → i ≡ slot
  -- it is free now
  pub freed : slot_at b' slot ≡ free_slot
  -- nothing else changes
  pub others : (i : ℕ) → (i ≡ slot → ⊥) → slot_at b' i ≡ slot_at b i
  pub slots : length b'.tasks ≡ length b.tasks
  pub now : b'.now ≡ b.now
  pub device : b'.device ≡ b.device

-- HORIZON LIST: "First column, last column, release for each longest run of columns with equal release, by release and then column"; "returns the number of runs"
pub record ListsRuns (b : Board) (buffer : List ℕ) (count : ℕ) (after : List ℕ) : Type 0 where
  -- the longest runs of columns with equal release, each once
  pub runs : List Strip
  pub only : (s : Strip) → s ∈ runs → EqualRelease b.device.columns b.now (live_of b) s
  pub every : (s : Strip) → EqualRelease b.device.columns b.now (live_of b) s → s ∈ runs
  pub order : Sorted Earlier runs
  pub counted : count ≡ length runs
  -- three words a run; "words beyond are left as found"
  pub words : after ≡ strip_numbers runs ++ drop (3 * length runs) buffer
  pub room : 3 * length runs ≤ length buffer

-- BUSY COLUMNS: "The number of columns held at an instant"
pub record CountsHeld (b : Board) (i count : ℕ) : Type 0 where
  -- the columns, each once
  pub held : List ℕ
  pub rising : Sorted ◌<◌ held
  pub counted : count ≡ length held
  -- they are those from 1 to W that some live task holds
  pub only : (c : ℕ) → c ∈ held → (1 ≤ c) × (c ≤ b.device.columns) × ((k : Task) × (k ∈ live_of b) × Holds i c k)
  pub every : (c : ℕ) (k : Task) → 1 ≤ c → c ≤ b.device.columns → k ∈ live_of b → Holds i c k → c ∈ held

-- STAMPING: "waiting if t < s, running if s ≤ t < s + e, else ended .. other fields stay"
pub record Stamps (t : ℕ) (k k' : Task) : Type 0 where
  pub fields : k' ≡ in_phase k'.phase k
  pub waiting : t < k.start → k'.phase ≡ Waiting
  pub running : k.start ≤ t → t < k.start + k.e → k'.phase ≡ Running
  pub ended : k.start ≤ t → k.start + k.e ≤ t → k'.phase ≡ Ended
