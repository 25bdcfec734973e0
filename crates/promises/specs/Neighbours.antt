-- Tasks beside another that touch it, or share one tick or one column with it: document 02, Q-4. Assumes nothing.
use Rattle.std.specs.Prelude.{ℕ, ◌-◌, Bool, true, false, List, [], ◌∷◌, ◌++◌, length, replicate}
use Rattle.tasks.specs.declared.Phase.TheVariants.{Waiting}
use Rattle.tasks.specs.declared.Task.{Task}
use Rattle.tasks.specs.Numbers.{device}
use Rattle.tasks.specs.Tasks.{free_slot}
use Rattle.board.specs.declared.Board.{Board}
use Rattle.promises.specs.Cases.{Step, submit, clock, withdraw, Case, case, at, only}

-- a waiting task with an id, on w columns from c on, for e ticks from s on
abbrev pub waiting_at : ℕ → ℕ → ℕ → ℕ → ℕ → Task
waiting_at id c w s e = record { id = id; e = e; d = 99; start = s; w = w; h = 1; column = c; phase = Waiting }

-- the one that the others stand beside: columns 3 and 4, from tick 5 up to 8
abbrev pub middle : Task
middle = waiting_at 1 3 2 5 3

-- a task beside it, and whether the two "share a column at a tick (Definition 1)"
pub record Neighbour : Type 0 where
  pub it : Task
  pub shares : Bool

abbrev pub neighbour : ℕ → ℕ → ℕ → ℕ → Bool → Neighbour
neighbour c w s e b = record { it = waiting_at 2 c w s e; shares = b }

-- column, w, start and e: before and behind, to the left and to the right
unfoldable pub neighbours : List Neighbour
neighbours =
    -- ticks that touch
    neighbour 3 2 2 3 false ∷ neighbour 3 2 8 1 false
    -- columns that touch
    ∷ neighbour 1 2 5 3 false ∷ neighbour 5 4 5 3 false
    -- both
    ∷ neighbour 1 2 2 3 false ∷ neighbour 5 4 8 1 false ∷ neighbour 1 2 8 1 false ∷ neighbour 5 4 2 3 false
    -- one tick in common
    ∷ neighbour 3 2 2 4 true ∷ neighbour 3 2 7 9 true
    -- one column in common
    ∷ neighbour 1 3 5 3 true ∷ neighbour 4 5 5 3 true
    -- one of each
    ∷ neighbour 1 3 2 4 true ∷ neighbour 4 5 7 9 true ∷ neighbour 1 3 7 9 true ∷ neighbour 4 5 2 4 true
    -- one tick in common and columns that touch, one column in common and ticks that touch
    ∷ neighbour 1 2 2 4 false ∷ neighbour 5 4 7 9 false ∷ neighbour 1 3 2 3 false ∷ neighbour 4 5 8 1 false
    ∷ []

-- a board of 8 columns at now 0, lent with these tasks in its first slots
unfoldable pub lent_to : List Task → Board
lent_to ts = record { tasks = ts ++ replicate (64 - length ts) free_slot; now = 0; device = device 8 1 1 }

-- columns 1–3 free, 4 held up to tick 4, columns 3–4 booked from then on to 7, now 1; then others
unfoldable pub beside : List Step → List (List ℕ) → Case
beside vs out =
    case 4 1 (submit 0 1 4 1 1 9 ∷ submit 1 2 2 1 9 20 ∷ submit 1 3 1 1 3 20 ∷ submit 1 4 1 1 3 20 ∷ submit 1 5 2 1 3 20 ∷ withdraw 2 ∷ withdraw 3 ∷ clock 1 ∷ vs)
    (at 1 0 1 ∷ at 1 1 10 ∷ at 3 1 4 ∷ at 4 1 4 ∷ at 3 4 7 ∷ only 0 ∷ only 0 ∷ only 0 ∷ out)

-- Stuffing beside a waiting task
unfoldable pub beside_set : List Case
beside_set =
    -- on columns 1–4 from tick 4 to 7, on 5–6: columns that touch; columns and ticks that touch
    case 6 1 (submit 0 1 4 1 4 9 ∷ submit 1 2 4 1 3 9 ∷ submit 2 3 2 1 9 9 ∷ []) (at 1 0 4 ∷ at 1 4 7 ∷ at 5 0 9 ∷ [])
    ∷ case 6 1 (submit 0 1 4 1 4 9 ∷ submit 1 2 4 1 3 9 ∷ submit 2 3 2 1 4 4 ∷ []) (at 1 0 4 ∷ at 1 4 7 ∷ at 5 0 4 ∷ [])
    -- beside one on columns 1–5: column 5 at tick 4 in common, and ticks that touch
    ∷ case 6 1 (submit 0 1 4 1 4 9 ∷ submit 1 2 5 1 3 9 ∷ submit 2 3 2 1 5 5 ∷ submit 2 3 2 1 4 4 ∷ []) (at 1 0 4 ∷ at 1 4 7 ∷ only 10 ∷ at 5 0 4 ∷ [])
    -- beside one to the right, on columns 3–4 from tick 4 to 7: column 3 at tick 4 in common, ticks that touch, columns that touch
    ∷ beside (submit 2 7 3 1 4 5 ∷ submit 2 7 3 1 3 4 ∷ []) (only 10 ∷ at 1 1 4 ∷ [])
    ∷ beside (submit 2 7 2 1 9 10 ∷ []) (at 1 1 10 ∷ [])
    ∷ []
