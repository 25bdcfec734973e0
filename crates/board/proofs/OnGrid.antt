-- The live tasks of a sound board lie on its grid: so does its live table, and every planner answers as with g = 1. Assumes nothing.
use Prim.Native.Nat.{ℕ, ◌+◌, ◌-◌}
use mathlib.Core.Path.{◌≡◌, sym, subst}
use mathlib.Core.Bool.{Bool}
use mathlib.Core.List.{List, map}
use native.Mathlib.Omega.{arith}
use lib.Dec.{T, leb}
use Rattle.lists.specs.Lists.{◌∈◌}
use Rattle.lists.proofs.Members.{keep-in, map-in}
use Rattle.lists.proofs.Same.{Same}
use Rattle.tasks.specs.declared.Submission.{Submission}
use Rattle.tasks.specs.declared.Task.{Task}
use Rattle.tasks.specs.Numbers.{multiple, may_begin}
use Rattle.tasks.specs.Tasks.{past, live}
use Rattle.tasks.proofs.Grid.{multiple-zero, multiple-sum}
use Rattle.columns.specs.Columns.{columns, Run, runs}
use Rattle.columns.proofs.Runs.{Longest, longest-runs}
use Rattle.planners.specs.Lent.{Stepped, asked}
use Rattle.planners.specs.Planners.{free, release, on_grid, planned}
use Rattle.planners.proofs.Grid.{free-begin, released-begin, planned-on}
use Rattle.slots.proofs.Soundness.{SoundTask}
use Rattle.live.specs.Live.{bare}
use Rattle.board.specs.declared.Board.{Board}
use Rattle.board.specs.Refusals.{live_of}
use Rattle.board.proofs.Kept.{SoundBoard}

-- BOTH ENDS of a sound task lie on the grid
ends : (b : Board) (k : Task) → SoundTask b.device b.now k → T (may_begin b.device.grid (past k))
unfolding may_begin
ends b k s =
    let z : k.column - 1 + k.w ≡ past k - 1 = omega (arith, s.from_one) in
    subst (λ x. T (multiple b.device.grid x)) z (multiple-sum b.device.grid (k.column - 1) k.w s.on-grid s.stepped)

-- SO EVERYTHING ON A SOUND BOARD does, where the width asked for is a multiple
pub board-stepped : (b : Board) (w : ℕ) → SoundBoard b → T (multiple b.device.grid w) → Stepped b.device.grid b.device.columns w (live_of b)
board-stepped b w s h = record {
  step = s.grid.low;
  device = s.stepped;
  width = h;
  begins = λ u m. let k = keep-in live b.tasks m in (s.tasks u k.0 k.1).on-grid;
  ends = λ u m. let k = keep-in live b.tasks m in ends b u (s.tasks u k.0 k.1);
}

-- tasks by what a planner reads of them
pub bare-stepped : {g W w : ℕ} {ts us : List Task} → Same ts (map bare us) → Stepped g W w us → Stepped g W w ts
bare-stepped {g} {us = us} same s = record {
  step = s.step;
  device = s.device;
  width = s.width;
  begins = λ u m. let k = map-in bare us (same.to u m) in subst (λ x. T (may_begin g x.column)) (sym k.2) (s.begins k.0 k.1);
  ends = λ u m. let k = map-in bare us (same.to u m) in subst (λ x. T (may_begin g (past x))) (sym k.2) (s.ends k.0 k.1);
}

-- EVERY RUN of free columns, and of released ones, begins on the grid
module _ (b : Board) (s : SoundBoard b) (t : ℕ) (r : Run) where
  abbrev W : ℕ
  W = b.device.columns

  abbrev begins : Run → Bool
  begins q = may_begin b.device.grid q.left

  -- a width of no columns is a multiple of any grid
  stepped : Stepped b.device.grid W 0 (live_of b)
  stepped = board-stepped b 0 s (multiple-zero b.device.grid)

  pub free-run-begins : Longest (free (live_of b) t) 1 W r → T (may_begin b.device.grid r.left)
  unfolding on_grid
  free-run-begins o =
      (keep-in begins (runs (free (live_of b) t) (columns W))
      (subst (λ rs. r ∈ rs) (sym (free-begin b.now (asked 0 0 0) stepped t)) (longest-runs (free (live_of b) t) 1 W r o))).1

  pub released-run-begins : Longest (λ c. leb (release b.now (live_of b) c) t) 1 W r → T (may_begin b.device.grid r.left)
  unfolding on_grid
  released-run-begins o =
      (keep-in begins (runs (λ c. leb (release b.now (live_of b) c) t) (columns W))
      (subst (λ rs. r ∈ rs) (sym (released-begin b.now (asked 0 0 0) stepped t)) (longest-runs (λ c. leb (release b.now (live_of b) c) t) 1 W r o))).1

-- EVERY PLANNER ANSWERS on the board of a grid as with g = 1
pub board-planned : (b : Board) (a : Submission) → SoundBoard b → T (multiple b.device.grid a.w) → (n : ℕ)
    → planned b.device.grid b.device.columns b.now (live_of b) a n ≡ planned 1 b.device.columns b.now (live_of b) a n
board-planned b a s h n = planned-on b.now a (board-stepped b a.w s h) n
