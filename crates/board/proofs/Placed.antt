-- What a submission's answer means: a place is an opening, Full's is the first, a rejection by Full means that there is none. Assumes nothing.
use Prim.Native.Nat.{ℕ, zero, suc, ◌+◌, ◌≤◌, ◌<◌}
use mathlib.Core.Path.{◌≡◌, refl, sym, ap, ◌∙◌}
use mathlib.Core.Logic.{◌⊎◌}
use mathlib.Core.Bool.{not}
use mathlib.Core.Option.{Option, none, some}
use Rattle.lists.specs.Lists.{index_of}
use Rattle.tasks.specs.Tasks.{live}
use native.Mathlib.Omega.{arith}
use Rattle.ways.specs.Ways.{pair}
use Rattle.tasks.specs.declared.Submission.{Submission}
use Rattle.tasks.specs.Numbers.{last_instant}
use Rattle.planners.specs.Openings.{Place}
use Rattle.planners.specs.Planners.{planned}
use Rattle.planners.proofs.Openings.{Opening, Before, full-first, full-rejects}
use Rattle.planners.proofs.Planners.{planned-opens}
use Rattle.board.specs.declared.Board.{Board}
use Rattle.board.specs.declared.Answer.{Answer}
use Rattle.board.specs.declared.Answer.TheVariants.{Rejected, Placed, Refused}
use Rattle.board.specs.Refusals.{live_of, refused_submit}
use Rattle.board.specs.Calls.{taken, submitted}
use Rattle.board.proofs.Kept.{Accepted, submit-accepted, refused-submit-same}
use Rattle.board.specs.Standing.{submitted_booked}
use Rattle.board.proofs.Submit.{accepted-answered, free-inside, booked-there}

module _ (b : Board) (n : ℕ) (a : Submission) where
  abbrev found : Option Place
  found = planned b.device.grid b.device.columns b.now (live_of b) a n

  -- an answer that is no refusal was given by the planner
  unrefused : (x : Answer) → (submitted b n a).answer ≡ x → ((k : ℕ) → x ≡ Refused k → ⊥) → refused_submit b n a ≡ 0
  unrefused x e f = go (refused_submit b n a) refl
    where
      go : (r : ℕ) → refused_submit b n a ≡ r → refused_submit b n a ≡ 0
      go zero q = q
      go (suc r) q = absurd (f (suc r) (sym e ∙ ap (λ y. y.answer) (refused-submit-same b n a r q)))

  taken-place : (o : Option Place) {c s f : ℕ} → (taken b a o).answer ≡ Placed c s f → (o ≡ some (pair s c)) × (f ≡ s + a.e)
  unfolding taken
  taken-place none e = absurd (let z : ◌≡◌ {A = ℕ} 0 1 = cc in omega arith)
  taken-place (some p) {c} {s} {f} e =
      let x : p.place ≡ c = cc in
      let y : p.start ≡ s = cc in
      let z : p.start + a.e ≡ f = cc in
      ((λ i. some (pair (y i) (x i))), sym z ∙ ap (λ t. t + a.e) y)

  taken_none : (o : Option Place) → (taken b a o).answer ≡ Rejected → o ≡ none
  unfolding taken
  taken_none none e = refl
  taken_none (some p) e = absurd (let z : ◌≡◌ {A = ℕ} 0 1 = cc in omega arith)

  -- WHATEVER IS PLACED starts from now to d − e, lies within the device, meets no live task, and its finish is told
  pub placed-opens : {c s f : ℕ} → (submitted b n a).answer ≡ Placed c s f → Opening b.device.grid b.device.columns b.now (live_of b) a (pair s c) × (f ≡ s + a.e)
  placed-opens {c} {s} {f} e =
      let r = unrefused (Placed c s f) e (λ k q. let z : ◌≡◌ {A = ℕ} 0 1 = cc in omega arith) in
      let k = submit-accepted b n a r in
      let t = taken-place found (sym (ap (λ y. y.answer) (accepted-answered b n a r)) ∙ e) in
      (planned-opens b.device.grid b.device.columns b.now (live_of b) a k.reachable n t.0, t.1)

-- FULL takes the first opening
pub full-placed : (b : Board) (a : Submission) {c s f : ℕ} → (submitted b 3 a).answer ≡ Placed c s f → (q : Place) → Opening b.device.grid b.device.columns b.now (live_of b) a q
    → (q ≡ pair s c) ⊎ Before (pair s c) q
unfolding planned
full-placed b a {c} {s} {f} e q o =
    let r = unrefused b 3 a (Placed c s f) e (λ k x. let z : ◌≡◌ {A = ℕ} 0 1 = cc in omega arith) in
    let t = taken-place b 3 a (found b 3 a) (sym (ap (λ y. y.answer) (accepted-answered b 3 a r)) ∙ e) in
    full-first b.device.grid b.device.columns b.now (live_of b) a (pair s c) q t.0 o

-- and rejects only where there is none
pub full-rejected : (b : Board) (a : Submission) → (submitted b 3 a).answer ≡ Rejected → (q : Place) → Opening b.device.grid b.device.columns b.now (live_of b) a q → ⊥
unfolding planned
full-rejected b a e q o =
    let r = unrefused b 3 a Rejected e (λ k x. let z : ◌≡◌ {A = ℕ} 0 1 = cc in omega arith) in
    let t = taken_none b 3 a (found b 3 a) (sym (ap (λ y. y.answer) (accepted-answered b 3 a r)) ∙ e) in
    full-rejects b.device.grid b.device.columns b.now (live_of b) a t q o

-- WHAT A PLACE BOOKS: the lowest free slot, the record with the column and start answered; nothing else changes
pub record BooksAt (b : Board) (n : ℕ) (a : Submission) (free c s f : ℕ) : Type 0 where
  pub accepted : Accepted b n a
  pub inside : free < 64
  pub from-now : b.now ≤ s
  pub fits : s + a.e ≤ last_instant
  pub finish : f ≡ s + a.e
  pub same : submitted b n a ≡ submitted_booked b a free c s

pub placed-books : (b : Board) (n : ℕ) (a : Submission) {free c s f : ℕ} → free ≡ index_of (λ k. not (live k)) b.tasks
    → (submitted b n a).answer ≡ Placed c s f → BooksAt b n a free c s f
placed-books b n a {free} {c} {s} {f} z e =
    let r = unrefused b n a (Placed c s f) e (λ k q. let y : ◌≡◌ {A = ℕ} 0 1 = cc in omega arith) in
    let k = submit-accepted b n a r in
    let t = taken-place b n a (found b n a) (sym (ap (λ y. y.answer) (accepted-answered b n a r)) ∙ e) in
    let o = planned-opens b.device.grid b.device.columns b.now (live_of b) a k.reachable n t.0 in
    record {
      accepted = k;
      inside = omega (arith, z, free-inside b n a k);
      from-now = o.from-now;
      fits = omega (arith, o.in-time, k.d);
      finish = t.1;
      same = accepted-answered b n a r ∙ ap (taken b a) t.0 ∙ booked-there b a c s free z;
    }

-- a rejection and a refusal are no place
pub rejected-places : (c s f : ℕ) → Rejected ≡ Placed c s f → ⊥
rejected-places c s f q = let w : ◌≡◌ {A = ℕ} 0 1 = cc in omega arith

pub refused-places : (m c s f : ℕ) → Refused m ≡ Placed c s f → ⊥
refused-places m c s f q = let w : ◌≡◌ {A = ℕ} 0 1 = cc in omega arith

-- an answer that is no place hands back the same board
pub unplaced-same : (b : Board) (n : ℕ) (a : Submission) (x : Answer) → (submitted b n a).answer ≡ x → ((c s f : ℕ) → x ≡ Placed c s f → ⊥)
    → submitted b n a ≡ record { answer = x; board = b }
unplaced-same b n a x e none? = go (refused_submit b n a) refl
  where
    go : (r : ℕ) → refused_submit b n a ≡ r → submitted b n a ≡ record { answer = x; board = b }
    go (suc r) q = refused-submit-same b n a r q ∙ ap (λ y. record { answer = y; board = b }) (sym (ap (λ y. y.answer) (refused-submit-same b n a r q)) ∙ e)
    go zero q = by (found b n a) (accepted-answered b n a q)
      where
        by : (o : Option Place) → submitted b n a ≡ taken b a o → submitted b n a ≡ record { answer = x; board = b }
        by none u = unfold taken in u ∙ ap (λ y. record { answer = y; board = b }) (sym (ap (λ y. y.answer) u) ∙ e)
        by (some p) u = unfold taken in absurd (none? p.place p.start (p.start + a.e) (sym e ∙ ap (λ y. y.answer) u))
