-- The refusals of each call of a board: its tests, test 1 first. Assumes nothing.
use Rattle.std.specs.Prelude.{ℕ, Bool, List, ◌∷◌, leb, length}
use Rattle.tasks.specs.declared.Device.{Device}
use Rattle.tasks.specs.declared.Submission.{Submission}
use Rattle.tasks.specs.declared.Task.{Task}
use Rattle.tasks.specs.Numbers.{most_tasks}
use Rattle.slots.specs.Slots.{live_in, sound, known, begun_named}
use Rattle.lookups.specs.Lookups.{Strip, horizon_list}
use Rattle.refusals.specs.Refusals.{unsound, create_tests, submit_tests, instant_tests, withdraw_tests, openings_tests, horizon_tests}
use Rattle.board.specs.declared.Board.{Board}
unfoldable pub use Rattle.refusals.specs.Refusals.{refusal}

-- the live tasks of a board, by slot
abbrev pub live_of : Board → List Task
live_of b = live_in b.tasks

-- "A board is sound when ..": document 01, Numbers
abbrev pub sound_board : Board → Bool
sound_board b = sound b.device b.now b.tasks

-- "2" alone
unfoldable pub refused_create : Device → ℕ
refused_create D = refusal (create_tests D)

-- "Submission tests 1 and 3 to 10", with 18 after 8; 10 is the rejection
unfoldable pub refused_submit : Board → ℕ → Submission → ℕ
refused_submit b n a =
    refusal
    (unsound (sound_board b) ∷ submit_tests b.device b.now n a (known a.id b.tasks) (leb most_tasks (length (live_of b))))

-- "clock 1, 11, 12"; "busy count 1, 11, 12"
unfoldable pub refused_instant : Board → ℕ → ℕ
refused_instant b i = refusal (unsound (sound_board b) ∷ instant_tests b.now i)

-- "withdrawal 1, 13, 14"
unfoldable pub refused_withdraw : Board → ℕ → ℕ
refused_withdraw b n = refusal (unsound (sound_board b) ∷ withdraw_tests (known n b.tasks) (begun_named n b.tasks))

-- "openings 1, 5, 6, 8 (id not read)", then 18
unfoldable pub refused_openings : Board → Submission → ℕ
refused_openings b a = refusal (unsound (sound_board b) ∷ openings_tests b.device b.now a)

-- the horizon of a board
abbrev pub horizon_of : Board → List Strip
horizon_of b = horizon_list b.device.columns b.now (live_of b)

-- "horizon list 1, 17"
unfoldable pub refused_horizon : Board → ℕ → ℕ
refused_horizon b words = refusal (unsound (sound_board b) ∷ horizon_tests (length (horizon_of b)) words)
