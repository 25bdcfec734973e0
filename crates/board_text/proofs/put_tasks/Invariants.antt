-- `board_text::put_tasks` meets its contract: one slot more each turn. Assumes nothing.
use Prim.Native.Nat.{◌+◌, ◌*◌, ◌≤◌}
use mathlib.Core.Path.{◌≡◌}
use lib.ListN.{length, take}
use Rattle.text.specs.Digits.{Put}
use Rattle.board_text.specs.BoardText.{tasks_text}
use Rattle.board_text.proofs.put_tasks.Given as goal

abbrev pub invariant-loop-i : goal.invariant-loop-i
invariant-loop-i l =
    (length l.tasks ≡ 64) × (length l.shown ≡ 64) × (l.place ≤ l.at + l.i * 117) × Put l.initial.out l.at (tasks_text 1 (take l.i l.tasks) (take l.i l.shown)) l.out l.place
