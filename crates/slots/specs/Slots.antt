-- The slots of a board: when they are sound, and what booking, the clock and withdrawal make of them. Assumes nothing.
use Rattle.std.specs.Prelude.{ℕ, suc, ◌+◌, Bool, not, cond, ◌&&◌, List, map, leb, ltb, eqb, length}
use Rattle.lists.specs.Lists.{keep, some?, all?, pairwise?, put_first}
use Rattle.tasks.specs.declared.Device.{Device}
use Rattle.tasks.specs.declared.Task.{Task}
use Rattle.tasks.specs.Numbers.{most_tasks, last_instant, largest_id, within, may_begin, device_fits, size_fits, time_fits}
use Rattle.tasks.specs.Tasks.{finish, meets, live, waiting_phase, same_phase, phase_at, stamped, free_slot, zeros}

-- the live tasks, by slot
abbrev pub live_in : List Task → List Task
live_in ks = keep live ks

-- "every live task is within the numbers above, ends by its deadline and ends after now;
-- a task is running exactly if its start is ≤ now and otherwise waiting"; document 02, Q-3: it begins on the grid
unfoldable pub task_sound : Device → ℕ → Task → Bool
task_sound D now k =
    within 1 largest_id k.id && size_fits D k.w k.h && time_fits k.e k.d
    && leb 1 k.column && leb (k.column + k.w) (suc D.columns) && may_begin D.grid k.column
    && leb (finish k) k.d && ltb now (finish k)
    && same_phase k.phase (phase_at now k)

-- "A free slot holds zeros and the phase ended; anything else in it makes the board unsound"
unfoldable pub slot_sound : Device → ℕ → Task → Bool
slot_sound D now k = cond (live k) (task_sound D now k) (zeros k)

-- "ids differ", and "no two share a column at a tick (Definition 1)"
unfoldable pub together : Task → Task → Bool
together k l = not (eqb k.id l.id) && not (meets k l)

-- "A board is sound when W, H and now are in range", the grid too (document 02, Q-3), its 64 slots are and so is every two of its live tasks
unfoldable pub sound : Device → ℕ → List Task → Bool
sound D now ks =
    device_fits D && leb now last_instant && eqb (length ks) most_tasks && all? (slot_sound D now) ks
    && pairwise? together (live_in ks)

-- a live task of that id
unfoldable pub named : ℕ → Task → Bool
named n k = live k && eqb k.id n

-- "id is live already"
unfoldable pub known : ℕ → List Task → Bool
known n ks = some? (named n) ks

-- "A task answered 0 takes the lowest free slot .. and nothing else in the board changes"
unfoldable pub with_booked : Task → List Task → List Task
with_booked k ks = put_first (λ l. not (live l)) k ks

-- "Clock .. drops tasks that have finished by then; waiting tasks whose start has come are running"
unfoldable pub aged_to : ℕ → Task → Task
aged_to i k = cond (live k) (cond (leb (finish k) i) free_slot (stamped i k)) k

-- so every slot of the board
unfoldable pub all_aged_to : ℕ → List Task → List Task
all_aged_to i ks = map (aged_to i) ks

-- "Withdrawal. Removes a waiting task": its slot is free again
unfoldable pub without_named : ℕ → List Task → List Task
without_named n ks = put_first (named n) free_slot ks

-- the live task of that id has begun: it is live and not waiting
unfoldable pub begun_named : ℕ → List Task → Bool
begun_named n ks = some? (λ k. named n k && not (waiting_phase k.phase)) ks
