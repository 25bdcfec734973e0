-- A SUBMISSION REFUSED WITH 18 is in the summary "a refused one in class Other" (document 02, Q-2). Assumes nothing.
use Prim.Native.Nat.{ℕ, zero, suc, ◌<◌}
use mathlib.Core.Path.{◌≡◌, refl, sym, ap, ◌∙◌}
use mathlib.Core.Bool.{cond}
use mathlib.Core.List.{[], ◌∷◌}
use mathlib.Core.Option.{Option, none, some}
use native.Mathlib.Omega.{arith}
use borrow.Author.Tests.{le-leb}
use lib.Dec.{ltb→lt, leb}
use lib.ListN.{length}
use Rattle.laxity.specs.Laxity.{laxity, most_laxity, class_of}
use Rattle.laxity.proofs.Classes.{past-classes}
use Rattle.tasks.specs.declared.Submission.{Submission}
use Rattle.planners.specs.Openings.{Place}
use Rattle.planners.specs.Planners.{planned}
use Rattle.slots.specs.Slots.{known}
use Rattle.refusals.proofs.Lowest.{refused-lax}
use Rattle.board.specs.declared.Board.{Board}
use Rattle.board.specs.Answers.{told}
use Rattle.board.specs.Calls.{taken, submitted}
use Rattle.board.specs.Refusals.{live_of, sound_board, refused_submit}
use Rattle.board.proofs.Kept.{refused-submit-same}
use Rattle.board.proofs.Submit.{accepted-answered}
use Rattle.events.specs.declared.Ask.{Ask}
use Rattle.events.specs.declared.Event.TheVariants.{Submit}
use Rattle.events.specs.Records.{submission_of}
use Rattle.steps.specs.declared.State.{State}
use Rattle.session.specs.Recording.{outcome}
use Rattle.figures.specs.declared.Fate.TheVariants.{Refused}
use Rattle.figures.specs.Figures.{verdict_of}

-- a place is told as 0, a rejection as 10
not-placed : (b : Board) (a : Submission) (o : Option Place) → (told (taken b a o).answer).number ≡ 18 → ⊥
unfolding taken told
not-placed b a none q = omega (arith, q)
not-placed b a (some p) q = omega (arith, q)

refused-with : (b : Board) (n : ℕ) (a : Submission) → (told (submitted b n a).answer).number ≡ 18 → refused_submit b n a ≡ 18
refused-with b n a e = by (refused_submit b n a) refl
  where
    by : (r : ℕ) → refused_submit b n a ≡ r → refused_submit b n a ≡ 18
    by zero q = absurd (not-placed b a (planned b.device.grid b.device.columns b.now (live_of b) a n) (sym (ap (λ x. (told x.answer).number) (accepted-answered b n a q)) ∙ e))
    by (suc r) q = q ∙ sym (ap (λ x. (told x.answer).number) (refused-submit-same b n a r q) ∙ (unfold told in refl)) ∙ e

-- its laxity is over the limit
over-limit : (b : Board) (n : ℕ) (a : Submission) → (told (submitted b n a).answer).number ≡ 18 → most_laxity < laxity b.now a.e a.d
unfolding refused_submit
over-limit b n a e =
    ltb→lt most_laxity (laxity b.now a.e a.d)
    (refused-lax (sound_board b) b.device b.now n a (known a.id b.tasks) (leb 64 (length (live_of b))) (refused-with b n a e))

-- and so its class is Other: it is past the other three
other : (l : ℕ) → most_laxity < l → class_of l ≡ 3
other l h = sym (past-classes l (λ e. omega (arith, h, e)) (past 51 (omega arith)) (past 101 (omega arith)) (past 201 (omega arith)))
  where
    past : (n : ℕ) → n < most_laxity → ◌≡◌ {A = ℕ} 1 (cond (leb n l) 1 0)
    past n k = sym (ap (λ t. cond t 1 0) (le-leb n l (omega (arith, h, k))))

pub lax-other : (s : State) (n : ℕ) (a : Ask) → (outcome s (Submit n a)).answer.number ≡ 18
    → verdict_of s.board.now (Submit n a) (outcome s (Submit n a)).answer.number (outcome s (Submit n a)).answer.start
    ≡ record { planner = n; class = 3; fate = Refused; waited = 0 } ∷ []
unfolding outcome verdict_of
lax-other s n a e = rw (e, other (laxity s.board.now a.e a.d) (over-limit s.board n (submission_of a) e)) refl
