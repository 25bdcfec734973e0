-- What a submission is answered: not refused where id and table allow it, and then its planner's place or rejection. Full takes the first opening. Assumes nothing.
use Prim.Native.Nat.{ℕ, ◌+◌, ◌≤◌, ◌<◌}
use mathlib.Core.Path.{◌≡◌, refl, sym, ap, ◌∙◌}
use mathlib.Core.Logic.{◌⊎◌, inl, inr}
use mathlib.Core.Bool.{not}
use mathlib.Core.Option.{Option, none, some}
use mathlib.Core.List.{[]}
use native.Mathlib.Omega.{arith}
use lib.Dec.{T, leb, ltb, eqb, le→leb, eqb→eq, not_T}
use lib.ListN.{length}
use borrow.Author.Tests.{le-ltb}
use Rattle.lists.specs.Lists.{◌∈◌}
use Rattle.lists.proofs.Bools.{and_l, and_r, and_i, is_true, is_false}
use Rattle.lists.proofs.Members.{in-keep, pass-none}
use Rattle.ways.specs.Ways.{pair}
use Rattle.tasks.specs.declared.Task.{Task}
use Rattle.tasks.specs.declared.Submission.{Submission}
use Rattle.tasks.specs.Numbers.{within, size_fits, time_fits, last_instant, longest, last_planner, most_tasks}
use Rattle.laxity.specs.Laxity.{laxity, most_laxity}
use Rattle.tasks.specs.Tasks.{live}
use Rattle.tasks.proofs.Laws.{within_in, size_in}
use Rattle.planners.specs.Openings.{Place, full}
use Rattle.planners.specs.Planners.{planned}
use Rattle.planners.proofs.Openings.{Before, earlier, lower, full-takes-one, full-opens, full-first}
use Rattle.slots.specs.Slots.{named, known}
use Rattle.slots.proofs.Soundness.{sound-in}
use Rattle.refusals.proofs.First.{sound-passes, passed_over_lem, none_left}
use Rattle.board.specs.declared.Board.{Board}
use Rattle.board.specs.declared.Answer.TheVariants.{Placed, Rejected}
use Rattle.board.specs.Refusals.{live_of, sound_board, refused_submit}
use Rattle.board.specs.Calls.{taken, submitted}
use Rattle.board.proofs.Kept.{SoundBoard}
use Rattle.board.proofs.Window.{Reachable}
use Rattle.board.proofs.Submit.{accepted-answered}
use Rattle.board.proofs.Placed.{placed-opens, full-placed}
use Rattle.board.proofs.Asking.{IsOpening}

-- "If id and table allow the task": the id is not 0, no live task has it, and fewer than 64 are live
pub record Allows (b : Board) (a : Submission) : Type 0 where
  pub id : 1 ≤ a.id
  pub new : (l : Task) → l ∈ live_of b → l.id ≡ a.id → ⊥
  pub room : length (live_of b) < most_tasks

-- THEN IT IS NOT REFUSED, by a sound board whose window it can reach
pub allowed : (b : Board) (n : ℕ) (a : Submission) → n ≤ last_planner → SoundBoard b → Reachable b a → Allows b a → refused_submit b n a ≡ 0
unfolding refused_submit known
allowed b n a h s k o =
    let sized = size_in b.device a.w a.h (record { width = k.w; height = k.h; stepped = k.stepped }) in
    let timed = and_i (within 1 longest a.e) (leb a.d last_instant) (within_in 1 longest a.e k.e) (le→leb a.d last_instant k.d) in
    sound-passes (sound_board b) _ (is_true (sound_board b) (sound-in b.device b.now b.tasks s))
    ∙ passed_over_lem 3 (ltb last_planner n) _ (le-ltb last_planner n h)
    ∙ passed_over_lem 4 (eqb a.id 0) _ (is_false (eqb a.id 0) (not_T (eqb a.id 0) (λ t. let z = eqb→eq a.id 0 t in omega (arith, o.id))))
    ∙ passed_over_lem 5 (not (size_fits b.device a.w a.h)) _ (ap not (is_true (size_fits b.device a.w a.h) sized))
    ∙ passed_over_lem 6 (not (time_fits a.e a.d)) _ (ap not (is_true (time_fits a.e a.d) timed))
    ∙ passed_over_lem 7 (known a.id b.tasks) _ (is_false (known a.id b.tasks) (pass-none (named a.id) b.tasks unknown))
    ∙ passed_over_lem 8 (ltb a.d (b.now + a.e)) _ (le-ltb a.d (b.now + a.e) k.reachable)
    ∙ passed_over_lem 18 (ltb most_laxity (laxity b.now a.e a.d)) _ (le-ltb most_laxity (laxity b.now a.e a.d) k.lax)
    ∙ passed_over_lem 9 (leb most_tasks (length (live_of b))) [] (le-ltb 63 (length (live_of b)) (omega (arith, o.room)))
    ∙ none_left
  where
    unknown : (l : Task) → l ∈ b.tasks → T (not (named a.id l))
    unknown l m =
        unfold named in
        not_T (named a.id l) (λ t. o.new l (in-keep live m (and_l (live l) (eqb l.id a.id) t)) (eqb→eq l.id a.id (and_r (live l) (eqb l.id a.id) t)))

-- THE FIRST OPENING: an opening, and every other comes after it
pub record FirstOpening (b : Board) (a : Submission) (p : Place) : Type 0 where
  pub opens : IsOpening b a p
  pub first : (q : Place) → IsOpening b a q → (q ≡ p) ⊎ Before p q

module _ (b : Board) (a : Submission) where
  pub full-taken : {c s f : ℕ} → (submitted b 3 a).answer ≡ Placed c s f → FirstOpening b a (pair s c) × (f ≡ s + a.e)
  full-taken e = let o = placed-opens b 3 a e in (record { opens = o.0; first = full-placed b a e }, o.1)

  module _ (r : refused_submit b 3 a ≡ 0) where
    -- the answer, where Full's place is known
    answer-of : (o : Option Place) → full b.device.grid b.device.columns b.now (live_of b) a ≡ o → (submitted b 3 a).answer ≡ (taken b a o).answer
    unfolding planned
    answer-of o e = ap (λ x. x.answer) (accepted-answered b 3 a r ∙ ap (taken b a) e)

    -- FULL TAKES THE FIRST OPENING
    pub takes-full : (p : Place) → FirstOpening b a p → (submitted b 3 a).answer ≡ Placed p.place p.start (p.start + a.e)
    takes-full p o = by (full-takes-one b.device.grid b.device.columns b.now (live_of b) a p o.opens)
      where
        both : (q : Place) → (p ≡ q) ⊎ Before q p → (q ≡ p) ⊎ Before p q → q ≡ p
        both q (inl z) y = sym z
        both q (inr x) (inl z) = z
        both q (inr (earlier g)) (inr (earlier h)) = absurd (omega arith)
        both q (inr (earlier g)) (inr (lower y h)) = absurd (omega arith)
        both q (inr (lower x g)) (inr (earlier h)) = absurd (omega arith)
        both q (inr (lower x g)) (inr (lower y h)) = absurd (omega arith)

        by : (q : Place) × (full b.device.grid b.device.columns b.now (live_of b) a ≡ some q) → (submitted b 3 a).answer ≡ Placed p.place p.start (p.start + a.e)
        by (q, e) =
            let l = full-first b.device.grid b.device.columns b.now (live_of b) a q p e o.opens in
            let m = o.first q (full-opens b.device.grid b.device.columns b.now (live_of b) a q e) in
            unfold taken in answer-of (some p) (e ∙ ap some (both q l m))

    -- where there is an opening there is a first one, and it is placed there
    pub full-places : (q : Place) → IsOpening b a q → (p : Place) × FirstOpening b a p × ((submitted b 3 a).answer ≡ Placed p.place p.start (p.start + a.e))
    unfolding taken
    full-places q o =
        let f = full-takes-one b.device.grid b.device.columns b.now (live_of b) a q o in
        let p = f.0 in
        let opens = full-opens b.device.grid b.device.columns b.now (live_of b) a p f.1 in
        (p, record { opens = opens; first = λ x y. full-first b.device.grid b.device.columns b.now (live_of b) a p x f.1 y }, answer-of (some p) f.1)

    -- AND REJECTS where there is none
    pub rejects-full : ((p : Place) → IsOpening b a p → ⊥) → (submitted b 3 a).answer ≡ Rejected
    rejects-full g = go (full b.device.grid b.device.columns b.now (live_of b) a) refl
      where
        go : (o : Option Place) → full b.device.grid b.device.columns b.now (live_of b) a ≡ o → (submitted b 3 a).answer ≡ Rejected
        go none e = unfold taken in answer-of none e
        go (some q) e = absurd (g q (full-opens b.device.grid b.device.columns b.now (live_of b) a q e))
