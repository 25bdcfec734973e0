-- What each call of document 01 answers, the board that follows, and what a lent buffer holds afterwards. Assumes nothing.
use Rattle.std.specs.Prelude.{ℕ, zero, suc, ◌+◌, ◌/◌, false, List, ltb, length, take, replicate}
use Rattle.std.proofs.Math.Option.{Option, none, some}
use Rattle.lists.specs.Lists.{over_front}
use Rattle.ways.specs.Ways.{pair, openings_after}
use Rattle.tasks.specs.declared.Device.{Device}
use Rattle.tasks.specs.declared.Task.{Task}
use Rattle.tasks.specs.declared.Submission.{Submission}
use Rattle.tasks.specs.Numbers.{most_tasks, device}
use Rattle.tasks.specs.Tasks.{free_slot, booked}
use Rattle.planners.specs.Openings.{Place, ways, pair_numbers}
use Rattle.planners.specs.Planners.{planned}
use Rattle.slots.specs.Slots.{with_booked, all_aged_to, without_named}
use Rattle.lookups.specs.Lookups.{strip_numbers, busy_columns}
use Rattle.board.specs.declared.Board.{Board}
use Rattle.board.specs.declared.Answer.TheVariants.{Rejected, Placed, Refused}
use Rattle.board.specs.declared.Created.{Created}
use Rattle.board.specs.declared.Submitted.{Submitted}
use Rattle.board.specs.declared.Clocked.{Clocked}
use Rattle.board.specs.declared.Withdrawn.{Withdrawn}
use Rattle.board.specs.declared.Opened.{Opened}
use Rattle.board.specs.declared.Listed.{Listed}
use Rattle.board.specs.declared.Counted.{Counted}
use Rattle.board.specs.Refusals.{live_of, horizon_of, refused_create, refused_submit, refused_instant, refused_withdraw, refused_openings, refused_horizon}

-- what is done where no test refuses (number 0), or the answer to a refusal
unfoldable pub or_refused : {A : Type 0} → ℕ → (ℕ → A) → A → A
or_refused zero refused done = done
or_refused (suc k) refused done = refused (suc k)

-- the board with other slots
abbrev pub with_tasks : Board → List Task → Board
with_tasks b ks = record { tasks = ks; now = b.now; device = b.device }

-- "A new board has the W and H asked for, now 0 and 64 free slots"; document 02, Q-3: the grid asked for too
unfoldable pub fresh_board : Device → Board
fresh_board D = record { tasks = replicate most_tasks free_slot; now = 0; device = D }

-- "an unsound board of zeros comes back, every phase ended"
abbrev pub zero_board : Board
zero_board = fresh_board (device 0 0 0)

-- NEW BOARD, on a grid g; document 01's has g = 1
unfoldable pub created : ℕ → ℕ → ℕ → Created
created W H g =
    or_refused (refused_create (device W H g)) (λ k. record { number = k; board = zero_board })
    (record { number = 0; board = fresh_board (device W H g) })

-- "A task answered 0 takes the lowest free slot, its record as submitted with the column and start answered"
unfoldable pub with_task : Board → Submission → Place → Board
with_task b a p = with_tasks b (with_booked (booked b.now a p.start p.place) b.tasks)

-- "10 rejection: the named planner finds no place"
unfoldable pub taken : Board → Submission → Option Place → Submitted
taken b a none = record { answer = Rejected; board = b }
taken b a (some p) = record { answer = Placed p.place p.start (p.start + a.e); board = with_task b a p }

-- what planner n answers to a task that is not refused
unfoldable pub answered : Board → ℕ → Submission → Submitted
answered b n a = taken b a (planned b.device.grid b.device.columns b.now (live_of b) a n)

-- SUBMISSION
unfoldable pub submitted : Board → ℕ → Submission → Submitted
submitted b n a =
    let done = answered b n a in
    or_refused (refused_submit b n a) (λ k. record { answer = Refused k; board = b }) done

-- the board with its clock at i
unfoldable pub board_at : Board → ℕ → Board
board_at b i = record { tasks = all_aged_to i b.tasks; now = i; device = b.device }

-- CLOCK
unfoldable pub clocked : Board → ℕ → Clocked
clocked b i =
    or_refused (refused_instant b i) (λ k. record { number = k; board = b }) (record { number = 0; board = board_at b i })

-- WITHDRAWAL
unfoldable pub withdrawn : Board → ℕ → Withdrawn
withdrawn b n =
    or_refused (refused_withdraw b n) (λ k. record { number = k; board = b })
    (record { number = 0; board = with_tasks b (without_named n b.tasks) })

-- "openings strictly after that pair"
unfoldable pub remaining : Board → Submission → ℕ → ℕ → List Place
remaining b a s c = openings_after (ways b.device.grid b.device.columns b.now (live_of b) a) (pair s c)

-- OPENINGS: "for as many openings strictly after that pair as fit .. returns how many, and whether a further one remains"
unfoldable pub opened : Board → Submission → ℕ → ℕ → ℕ → Opened
opened b a s c words =
    let done : Opened = record {
      number = 0;
      count = length (take (words / 2) (remaining b a s c));
      more = ltb (words / 2) (length (remaining b a s c));
      board = b;
    } in
    or_refused (refused_openings b a) (λ k. record { number = k; count = 0; more = false; board = b }) done

-- "Words beyond are untouched, an odd last word too"
unfoldable pub opened_buffer : Board → Submission → ℕ → ℕ → List ℕ → List ℕ
opened_buffer b a s c buffer =
    let done = over_front (pair_numbers (take (length buffer / 2) (remaining b a s c))) buffer in
    or_refused (refused_openings b a) (λ k. buffer) done

-- HORIZON LIST: "returns the number of runs"
unfoldable pub listed : Board → ℕ → Listed
listed b words =
    or_refused (refused_horizon b words) (λ k. record { number = k; count = 0; board = b })
    (record { number = 0; count = length (horizon_of b); board = b })

-- "words beyond are left as found"
unfoldable pub listed_buffer : Board → List ℕ → List ℕ
listed_buffer b buffer =
    or_refused (refused_horizon b (length buffer)) (λ k. buffer) (over_front (strip_numbers (horizon_of b)) buffer)

-- BUSY COLUMNS
unfoldable pub counted : Board → ℕ → Counted
counted b i =
    or_refused (refused_instant b i) (λ k. record { number = k; count = 0; board = b })
    (record { number = 0; count = busy_columns b.device.columns (live_of b) i; board = b })
