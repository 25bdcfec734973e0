-- Event by event: what `figures::count_event` has counted. Assumes nothing.
use Prim.Native.Nat.{ℕ, ◌+◌, ◌<◌}
use mathlib.Core.Path.{◌≡◌, refl, sym, ap, ◌∙◌}
use mathlib.Core.Bool.{Bool, true, false, cond, ◌&&◌}
use mathlib.Core.List.{List, [], ◌∷◌, append-nil}
use native.Mathlib.Omega.{arith}
use lib.Dec.{leb}
use lib.ListN.{length, get_or, length-set}
use Rattle.lists.specs.Lists.{each}
use Rattle.laxity.specs.Laxity.{class_of}
use Rattle.sheets.specs.Sheets.{plus}
use Rattle.sheets.proofs.Laws.{plus_assoc}
use Rattle.std.specs.Prelude.{Ok, Some}
use Rattle.events.specs.declared.Event.{Event}
use Rattle.figures.specs.declared.Fate.{Fate}
use Rattle.figures.specs.declared.Fate.TheVariants.{Taken, Rejected, Refused, Classless}
use Rattle.figures.specs.declared.Verdict.{Verdict}
use Rattle.figures.specs.Figures.{place_of, verdict_of, verdicts, sheet_with, sheet_of}
use Rattle.figures.specs.Rows.{Roomy, bumped, trial_read}
use Rattle.figures.proofs.Counting.{bumped-most, event-more, blank}
use Rattle.figures.proofs.Laws.{sheets-add}

-- there are four classes
pub class-few : (l : ℕ) → class_of l < 4
class-few l = go (leb 1 l && leb l 50) (leb 51 l && leb l 100) (leb 101 l && leb l 200)
  where
    go : (a b c : Bool) → cond a 0 (cond b 1 (cond c 2 3)) < 4
    go true b c = omega arith
    go false true c = omega arith
    go false false true = omega arith
    go false false false = omega arith

-- and four lines
pub fate-few : (f : Fate) → place_of f < 4
unfolding place_of
fate-few Taken = omega arith
fate-few Rejected = omega arith
fate-few Refused = omega arith
fate-few Classless = omega arith

-- the first three are those of a planner and class
pub classless-last : place_of Classless ≡ 3
unfolding place_of
classless-last = refl

pub fate-classed : (f : Fate) → (f ≡ Classless → ⊥) → place_of f < 3
unfolding place_of
fate-classed Taken n = omega arith
fate-classed Rejected n = omega arith
fate-classed Refused n = omega arith
fate-classed Classless n = absurd (n refl)

-- an event more leaves room
pub room-left : (cs : List ℕ) → Roomy 4611686018427387903 cs → {es : List ℕ} → es ≡ bumped cs 81 1 → Roomy 4611686018427387904 es
room-left cs o {es} e = record {
  size = ap length e ∙ length-set cs 81 (get_or cs 81 0 + 1) ∙ o.size;
  small = λ i. omega (arith, ap (λ l. get_or l i 0) e, bumped-most cs 81 1 i (omega (arith, o.size)), o.small i);
}

-- AN EVENT that is no submission
pub event-alone : (cs : List ℕ) → length cs ≡ 83 → {es : List ℕ} → es ≡ bumped cs 81 1 → (now : ℕ) (v : Event) (answer start : ℕ) → verdict_of now v answer start ≡ []
    → es ≡ plus cs (sheet_with (verdict_of now v answer start) 1 0)
event-alone cs long {es} e now v answer start n = e ∙ event-more cs long ∙ ap (λ vs. plus cs (sheet_with vs 1 0)) (sym n)

-- A SUBMISSION
pub event-submits : (cs : List ℕ) → length cs ≡ 83 → {es fs : List ℕ} → es ≡ bumped cs 81 1 → (x : Verdict) → fs ≡ plus es (sheet_with (x ∷ []) 0 0)
    → (now : ℕ) (v : Event) (answer start : ℕ) → verdict_of now v answer start ≡ x ∷ [] → fs ≡ plus cs (sheet_with (verdict_of now v answer start) 1 0)
event-submits cs long {es} {fs} e x f now v answer start n =
    f
    ∙ ap (λ l. plus l (sheet_with (x ∷ []) 0 0)) (e ∙ event-more cs long)
    ∙ plus_assoc cs (sheet_with [] 1 0) (sheet_with (x ∷ []) 0 0)
    ∙ ap (plus cs) (sheets-add [] (x ∷ []) 1 0 0 0)
    ∙ ap (λ vs. plus cs (sheet_with vs 1 0)) (sym n)

pub verdict-is : (p : ℕ) {c d w x : ℕ} {f g : Fate} → c ≡ d → f ≡ g → w ≡ x
    → ◌≡◌ {A = List Verdict} (record { planner = p; class = c; fate = f; waited = w } ∷ []) (record { planner = p; class = d; fate = g; waited = x } ∷ [])
verdict-is p a b e = λ i. record { planner = p; class = a i; fate = b i; waited = e i } ∷ []

-- THE NEXT RECORD is an event
pub reads-one : (cs : List ℕ) {es : List ℕ} (now : ℕ) (v : Event) (size answer start : ℕ) → es ≡ plus cs (sheet_with (verdict_of now v answer start) 1 0)
    → es ≡ plus cs (sheet_of 0 (trial_read now (Ok (Some (v, size))) answer start))
unfolding sheet_of verdicts each trial_read
reads-one cs now v size answer start e = e ∙ ap (λ vs. plus cs (sheet_with vs 1 0)) (sym (append-nil (verdict_of now v answer start)))

-- or there is none
pub reads_none : (cs : List ℕ) → length cs ≡ 83 → cs ≡ plus cs (sheet_of 0 [])
unfolding sheet_of verdicts each
reads_none cs long = blank cs long
