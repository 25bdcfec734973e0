-- The openings for a submission on a device of W columns with a grid g at now, among its live tasks; Full takes the first. Assumes nothing.
use Rattle.std.specs.Prelude.{ℕ, suc, ◌+◌, ◌-◌, List, [], ◌∷◌, ltb}
use Rattle.std.proofs.Math.Option.{Option}
use Rattle.lists.specs.Lists.{keep, head?, range}
use Rattle.ways.specs.Ways.{Pair, Ways, openings_in}
use Rattle.tasks.specs.declared.Task.{Task}
use Rattle.tasks.specs.declared.Submission.{Submission}
use Rattle.tasks.specs.Numbers.{may_begin}
use Rattle.tasks.specs.Tasks.{meets, booked}

-- a start and a column
abbrev pub Place : Type 0
Place = Pair ℕ

module _ (g W now : ℕ) (ts : List Task) (a : Submission) where
  -- "a pair (s, c) with now ≤ s ≤ d − e, c + w − 1 ≤ W, and no column shared with a live task at any tick from s up to s + e";
  -- document 02, Q-3: c where a task may begin
  unfoldable pub ways : Ways ℕ Task
  ways = record {
    things = ts;
    in_way = λ s c u. meets (booked now a s c) u;
    places = keep (may_begin g) (range 1 (suc W - a.w));
    before = ltb;
    from = now;
    starts = suc a.d - (now + a.e);
  }

  -- every opening, by start and then column
  abbrev pub openings : List Place
  openings = openings_in ways

  -- "Full takes the earliest start, then the lowest column"
  unfoldable pub full : Option Place
  full = head? openings

-- OPENINGS as they are written: "start, column"
unfoldable pub pair_numbers : List Place → List ℕ
pair_numbers [] = []
pair_numbers (p ∷ ps) = p.start ∷ p.place ∷ pair_numbers ps
