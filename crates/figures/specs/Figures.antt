-- THE ACCEPTANCE FIGURES of a recording, stated from its events. Assumes nothing.
use Rattle.std.specs.Prelude.{ℕ, ◌+◌, ◌-◌, ◌/◌, ◌%◌, Bool, cond, ◌&&◌, ◌||◌, List, [], ◌∷◌, ◌++◌, ltb, eqb, length}
use Rattle.lists.specs.Lists.{keep, each, range}
use Rattle.laxity.specs.Laxity.{laxity, class_of}
use Rattle.sheets.specs.Sheets.{rows}
use Rattle.events.specs.declared.Event.{Event}
use Rattle.events.specs.declared.Event.TheVariants.{NewBoard, Submit, Clock, Withdraw, GridBoard}
use Rattle.steps.specs.declared.State.{State}
use Rattle.session.specs.Recording.{outcome}
use Rattle.figures.specs.declared.Fate.{Fate}
use Rattle.figures.specs.declared.Fate.TheVariants.{Taken, Rejected, Refused, Classless}
use Rattle.figures.specs.declared.Verdict.{Verdict}

-- an event, now before it, its answer, and the start where that is 0
pub record Trial : Type 0 where
  pub now : ℕ
  pub event : Event
  pub answer : ℕ
  pub start : ℕ

-- the events from a state on, each with now before it and its answer
unfoldable pub trials_from : State → List Event → List Trial
trials_from s [] = []
trials_from s (v ∷ vs) =
    let o = outcome s v in
    record { now = s.board.now; event = v; answer = o.answer.number; start = o.answer.start } ∷ trials_from o.state vs

-- THE ONE MAP from an answer's number to a line of the summary: "taken, rejected and refused" are lines of its planner and class;
-- "A submission refused with 1 or 3 to 8 is counted in one refused line without class"; Q-2: one refused with 18 "is a refused one"
abbrev pub fate_of : ℕ → Fate
fate_of n = cond (eqb n 0) Taken (cond (eqb n 10) Rejected (cond (eqb n 9 || eqb n 18) Refused Classless))

-- where a line stands among them
unfoldable pub place_of : Fate → ℕ
place_of Taken = 0
place_of Rejected = 1
place_of Refused = 2
place_of Classless = 3

-- what came of an event, where it is a submission; "ticks waited (start less arrival)"
unfoldable pub verdict_of : ℕ → Event → ℕ → ℕ → List Verdict
verdict_of now (NewBoard W H) answer start = []
verdict_of now (Submit planner a) answer start =
    record { planner = planner; class = class_of (laxity now a.e a.d); fate = fate_of answer; waited = cond (eqb answer 0) (start - now) 0 } ∷ []
verdict_of now (Clock i) answer start = []
verdict_of now (Withdraw n) answer start = []
verdict_of now (GridBoard W H g) answer start = []

unfoldable pub verdicts : List Trial → List Verdict
verdicts ts = each ts (λ t. verdict_of t.now t.event t.answer t.start)

-- "for each planner and laxity class": those of a planner and class
abbrev pub is_of : ℕ → ℕ → Verdict → Bool
is_of p c v = eqb v.planner p && eqb v.class c && ltb (place_of v.fate) 3

unfoldable pub of : ℕ → ℕ → List Verdict → List Verdict
of p c vs = keep (is_of p c) vs

-- those that came to a line
unfoldable pub came : ℕ → List Verdict → ℕ
came fate vs = length (keep (λ v. eqb (place_of v.fate) fate) vs)

-- "the exact sum of ticks waited"
unfoldable pub waited_in : List Verdict → ℕ
waited_in [] = 0
waited_in (v ∷ vs) = v.waited + waited_in vs

-- the figures of a planner and class: "tasks submitted, taken, rejected and refused, and the exact sum of ticks waited"
unfoldable pub figures_of : List Verdict → ℕ → ℕ → List ℕ
figures_of vs p c =
    let here = of p c vs in length here ∷ came 0 here ∷ came 1 here ∷ came 2 here ∷ waited_in here ∷ []

-- all rows in order, those refused without class, events, files
unfoldable pub sheet_with : List Verdict → ℕ → ℕ → List ℕ
sheet_with vs events files = each (range 0 rows) (λ r. figures_of vs (r / 4) (r % 4)) ++ (came 3 vs ∷ events ∷ files ∷ [])

-- THE FIGURES of events in so many files
unfoldable pub sheet_of : ℕ → List Trial → List ℕ
sheet_of files ts = sheet_with (verdicts ts) (length ts) files
