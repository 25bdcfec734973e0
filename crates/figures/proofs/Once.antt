-- EACH SUBMISSION IS TOLD ONCE: in a row those taken, rejected and refused are those submitted; all rows and the line without class together are all submissions. Assumes nothing.
use Prim.Native.Nat.{ℕ, zero, suc, ◌+◌, ◌-◌, ◌*◌, ◌/◌, ◌%◌, ◌<◌}
use mathlib.Core.Path.{◌≡◌, refl, sym, ap, ap₂, ◌∙◌, subst}
use mathlib.Core.Bool.{Bool, true, false, cond, ◌&&◌}
use mathlib.Core.List.Memᴰ
use mathlib.Core.List.{List, [], ◌∷◌}
use mathlib.Core.List.Memᴰ.{cases_cons as cases}
use mathlib.Core.List.Memᴰ.{head as here}
use mathlib.Core.List.Memᴰ.{not-nil as nowhere}
use mathlib.Core.List.Memᴰ.{tail as there}
use mathlib.Core.Logic.{◌⊎◌, inl, inr}
use native.Mathlib.Decide.{dec_lt}
use native.Mathlib.Omega.{arith}
use borrow.Author.Tests.{lt-ltb, le-ltb, eq-eqb, ne_eqb}
use lib.Dec.{ltb, eqb, ltb→lt}
use lib.ListN.{length, get_or}
use Rattle.lists.specs.Lists.{◌∈◌, keep, each, range}
use Rattle.lists.proofs.Bools.{and_r}
use Rattle.lists.proofs.Members.{keep-in}
use Rattle.laxity.specs.Laxity.{laxity, class_of}
use Rattle.board.specs.declared.Board.{Board}
use Rattle.board.specs.Answers.{told}
use Rattle.board.specs.Calls.{or_refused, submitted}
use Rattle.board.specs.Refusals.{refusal, sound_board, refused_submit}
use Rattle.tasks.specs.declared.Submission.{Submission}
use Rattle.events.specs.declared.Ask.{Ask}
use Rattle.events.specs.declared.Event.{Event}
use Rattle.events.specs.declared.Event.TheVariants.{NewBoard, Submit, Clock, Withdraw, GridBoard}
use Rattle.events.specs.Records.{submission_of}
use Rattle.steps.specs.declared.State.{State}
use Rattle.session.specs.Recording.{outcome}
use Rattle.figures.specs.declared.Verdict.{Verdict}
use Rattle.figures.specs.Figures.{Trial, trials_from, place_of, fate_of, verdict_of, verdicts, is_of, of, came, figures_of, sheet_of}
use Rattle.figures.proofs.Counting.{sheet-row, sheet-foot}
use Rattle.figures.proofs.Tallying.{class-few, fate-few}

-- one more
came-more : (f : ℕ) (v : Verdict) (vs : List Verdict) → came f (v ∷ vs) ≡ cond (eqb (place_of v.fate) f) 1 0 + came f vs
unfolding came keep
came-more f v vs = go (eqb (place_of v.fate) f)
  where
    go : (t : Bool) → length (cond t (v ∷ keep (λ u. eqb (place_of u.fate) f) vs) (keep (λ u. eqb (place_of u.fate) f) vs)) ≡ cond t 1 0 + length (keep (λ u. eqb (place_of u.fate) f) vs)
    go true = omega arith
    go false = omega arith

of-more : (p c : ℕ) (v : Verdict) (vs : List Verdict) → length (of p c (v ∷ vs)) ≡ cond (is_of p c v) 1 0 + length (of p c vs)
unfolding of keep
of-more p c v vs = go (is_of p c v)
  where
    go : (t : Bool) → length (cond t (v ∷ keep (is_of p c) vs) (keep (is_of p c) vs)) ≡ cond t 1 0 + length (keep (is_of p c) vs)
    go true = omega arith
    go false = omega arith

-- A ROW ADDS UP
three-fates : (vs : List Verdict) → ((v : Verdict) → v ∈ vs → (place_of v.fate) < 3) → length vs ≡ came 0 vs + came 1 vs + came 2 vs
three-fates [] h = unfold came keep in refl
three-fates (v ∷ vs) h = go (place_of v.fate) refl (h v (here refl)) (three-fates vs (λ u q. h u (there q)))
  where
    counts : {n : ℕ} (f m : ℕ) → (place_of v.fate) ≡ n → cond (eqb n f) 1 0 ≡ m → came f (v ∷ vs) ≡ m + came f vs
    counts f m e q = came-more f v vs ∙ ap (λ k. k + came f vs) (ap (λ k. cond (eqb k f) 1 0) e ∙ q)

    go : (n : ℕ) → (place_of v.fate) ≡ n → n < 3 → length vs ≡ came 0 vs + came 1 vs + came 2 vs → suc (length vs) ≡ came 0 (v ∷ vs) + came 1 (v ∷ vs) + came 2 (v ∷ vs)
    go zero e l more = omega (arith, more, counts 0 1 e refl, counts 1 0 e refl, counts 2 0 e refl)
    go (suc zero) e l more = omega (arith, more, counts 0 0 e refl, counts 1 1 e refl, counts 2 0 e refl)
    go (suc (suc zero)) e l more = omega (arith, more, counts 0 0 e refl, counts 1 0 e refl, counts 2 1 e refl)
    go (suc (suc (suc n))) e l more = absurd (omega (arith, l))

of-told : (p c : ℕ) (vs : List Verdict) → length (of p c vs) ≡ came 0 (of p c vs) + came 1 (of p c vs) + came 2 (of p c vs)
unfolding of
of-told p c vs = three-fates (keep (is_of p c) vs) (λ v q. ltb→lt (place_of v.fate) 3 (and_r (eqb v.planner p && eqb v.class c) (ltb (place_of v.fate) 3) (keep-in (is_of p c) vs q).1))

-- OF EACH PLANNER AND CLASS taken + rejected + refused is submitted
pub row_told : (files : ℕ) (ts : List Trial) (r : ℕ) → r < 16
    → get_or (sheet_of files ts) (r * 5) 0 ≡ get_or (sheet_of files ts) (r * 5 + 1) 0 + get_or (sheet_of files ts) (r * 5 + 2) 0 + get_or (sheet_of files ts) (r * 5 + 3) 0
unfolding sheet_of
row_told files ts r h = omega (arith, first ∙ figure 0 (omega arith), figure 1 (omega arith), figure 2 (omega arith), figure 3 (omega arith), told_in)
  where
    vs : List Verdict
    vs = verdicts ts

    row : List ℕ
    row = figures_of vs (r / 4) (r % 4)

    figure : (k : ℕ) → k < 5 → get_or (sheet_of files ts) (r * 5 + k) 0 ≡ get_or row k 0
    figure k q =
        let place : (r * 5 + k) / 5 ≡ r = omega arith in
        let left : (r * 5 + k) % 5 ≡ k = omega arith in
        sheet-row vs (length ts) files (r * 5 + k) (omega arith) ∙ ap₂ (λ i j. get_or (figures_of vs (i / 4) (i % 4)) j 0) place left

    first : get_or (sheet_of files ts) (r * 5) 0 ≡ get_or (sheet_of files ts) (r * 5 + 0) 0
    first = let e : r * 5 ≡ r * 5 + 0 = omega arith in ap (λ i. get_or (sheet_of files ts) i 0) e

    told_in : get_or row 0 0 ≡ get_or row 1 0 + get_or row 2 0 + get_or row 3 0
    told_in = unfold figures_of in of-told (r / 4) (r % 4) vs

-- SUMS OVER ROWS
unfoldable pub over : List ℕ → (ℕ → ℕ) → ℕ
over [] f = 0
over (r ∷ rs) f = f r + over rs f

over-plus : (f g h : ℕ → ℕ) → ((r : ℕ) → h r ≡ f r + g r) → (rs : List ℕ) → over rs h ≡ over rs f + over rs g
unfolding over
over-plus f g h e [] = refl
over-plus f g h e (r ∷ rs) = omega (arith, e r, over-plus f g h e rs)

over_none : (f : ℕ → ℕ) → ((r : ℕ) → f r ≡ 0) → (rs : List ℕ) → over rs f ≡ 0
unfolding over
over_none f e [] = refl
over_none f e (r ∷ rs) = omega (arith, e r, over_none f e rs)

over-same : (f g : ℕ → ℕ) (a n : ℕ) → ((r : ℕ) → r < a + n → f r ≡ g r) → over (range a n) f ≡ over (range a n) g
unfolding over range
over-same f g a zero e = refl
over-same f g a (suc n) e = omega (arith, e a (omega arith), over-same f g (suc a) n (λ r h. e r (omega (arith, h))))

-- ONE ROW of the sixteen is that of a planner and class
one-row : (p c : ℕ) → p < 4 → c < 4 → over (range 0 16) (λ r. cond ((eqb p (r / 4) && eqb c (r % 4)) && true) 1 0) ≡ 1
unfolding over range
one-row zero zero h k = refl
one-row zero (suc zero) h k = refl
one-row zero (suc (suc zero)) h k = refl
one-row zero (suc (suc (suc zero))) h k = refl
one-row (suc zero) zero h k = refl
one-row (suc zero) (suc zero) h k = refl
one-row (suc zero) (suc (suc zero)) h k = refl
one-row (suc zero) (suc (suc (suc zero))) h k = refl
one-row (suc (suc zero)) zero h k = refl
one-row (suc (suc zero)) (suc zero) h k = refl
one-row (suc (suc zero)) (suc (suc zero)) h k = refl
one-row (suc (suc zero)) (suc (suc (suc zero))) h k = refl
one-row (suc (suc (suc zero))) zero h k = refl
one-row (suc (suc (suc zero))) (suc zero) h k = refl
one-row (suc (suc (suc zero))) (suc (suc zero)) h k = refl
one-row (suc (suc (suc zero))) (suc (suc (suc zero))) h k = refl
one-row (suc (suc (suc (suc p)))) c h k = absurd (omega (arith, h))
one-row zero (suc (suc (suc (suc c)))) h k = absurd (omega (arith, k))
one-row (suc zero) (suc (suc (suc (suc c)))) h k = absurd (omega (arith, k))
one-row (suc (suc zero)) (suc (suc (suc (suc c)))) h k = absurd (omega (arith, k))
one-row (suc (suc (suc zero))) (suc (suc (suc (suc c)))) h k = absurd (omega (arith, k))

no_row : (a b : Bool) → ◌≡◌ {A = ℕ} (cond ((a && b) && false) 1 0) 0
no_row true true = refl
no_row true false = refl
no_row false b = refl

-- a verdict as submissions have it: a class and a line of four, and a known planner where it is classed
pub record Classed (v : Verdict) : Type 0 where
  pub class : v.class < 4
  pub fate : (place_of v.fate) < 4
  pub planner : (place_of v.fate) < 3 → v.planner < 4

one_line : (v : Verdict) → Classed v → over (range 0 16) (λ r. cond (is_of (r / 4) (r % 4) v) 1 0) + cond (eqb (place_of v.fate) 3) 1 0 ≡ 1
one_line v o = go (dec_lt (place_of v.fate) 3)
  where
    go : Dec ((place_of v.fate) < 3) → over (range 0 16) (λ r. cond (is_of (r / 4) (r % 4) v) 1 0) + cond (eqb (place_of v.fate) 3) 1 0 ≡ 1
    go (yes h) = rw (lt-ltb (place_of v.fate) 3 h, ne_eqb (place_of v.fate) 3 (λ e. omega (arith, h, e))) (omega (arith, one-row v.planner v.class (o.planner h) o.class))
    go (no h) =
        rw (le-ltb (place_of v.fate) 3 (omega (arith, h)), eq-eqb (place_of v.fate) 3 (omega (arith, h, o.fate)))
        (omega (arith, over_none _ (λ r. no_row (eqb v.planner (r / 4)) (eqb v.class (r % 4))) (range 0 16)))

all_lines : (vs : List Verdict) → ((v : Verdict) → v ∈ vs → Classed v) → over (range 0 16) (λ r. length (of (r / 4) (r % 4) vs)) + came 3 vs ≡ length vs
all_lines [] h = omega (arith, over_none (λ r. length (of (r / 4) (r % 4) [])) (λ r. unfold of keep in refl) (range 0 16), (let e : came 3 [] ≡ 0 = unfold came keep in refl in e))
all_lines (v ∷ vs) h =
    omega (
      arith,
      over-plus (λ r. cond (is_of (r / 4) (r % 4) v) 1 0) (λ r. length (of (r / 4) (r % 4) vs)) (λ r. length (of (r / 4) (r % 4) (v ∷ vs))) (λ r. of-more (r / 4) (r % 4) v vs) (range 0 16),
      came-more 3 v vs,
      one_line v (h v (here refl)),
      all_lines vs (λ u q. h u (there q)),
    )

-- a planner that is none is refused, with 1 or 3: without class
no-planner : (b : Board) (n : ℕ) (a : Submission) → 3 < n → (refused_submit b n a ≡ 1) ⊎ (refused_submit b n a ≡ 3)
unfolding refused_submit refusal
no-planner b n a h = go (sound_board b) refl
  where
    go : (t : Bool) → sound_board b ≡ t → (refused_submit b n a ≡ 1) ⊎ (refused_submit b n a ≡ 3)
    go false e = inl (rw e refl)
    go true e = inr (rw (e, lt-ltb 3 n h) refl)

refused-number : (b : Board) (n : ℕ) (a : Submission) (k : ℕ) → refused_submit b n a ≡ suc k → (told (submitted b n a).answer).number ≡ suc k
unfolding submitted or_refused told
refused-number b n a k e = rw e refl

classed-planner : (s : State) (n : ℕ) (a : Ask) → place_of (fate_of (outcome s (Submit n a)).answer.number) < 3 → n < 4
unfolding outcome
classed-planner s n a h = go (dec_lt n 4)
  where
    number : ℕ
    number = (told (submitted s.board n (submission_of a)).answer).number

    strange : (refused_submit s.board n (submission_of a) ≡ 1) ⊎ (refused_submit s.board n (submission_of a) ≡ 3) → n < 4
    strange (inl e) = absurd (let y : place_of (fate_of number) ≡ 3 = unfold place_of in ap (λ m. place_of (fate_of m)) (refused-number s.board n (submission_of a) 0 e) in omega (arith, h, y))
    strange (inr e) = absurd (let y : place_of (fate_of number) ≡ 3 = unfold place_of in ap (λ m. place_of (fate_of m)) (refused-number s.board n (submission_of a) 2 e) in omega (arith, h, y))

    go : Dec (n < 4) → n < 4
    go (yes q) = q
    go (no q) = strange (no-planner s.board n (submission_of a) (omega (arith, q)))

-- the verdict of an event
event-classed : (s : State) (e : Event) (v : Verdict) → v ∈ verdict_of s.board.now e (outcome s e).answer.number (outcome s e).answer.start → Classed v
unfolding verdict_of
event-classed s (NewBoard W H) v q = absurd (nowhere q)
event-classed s (Clock i) v q = absurd (nowhere q)
event-classed s (Withdraw n) v q = absurd (nowhere q)
event-classed s (GridBoard W H g) v q = absurd (nowhere q)
event-classed s (Submit n a) v q = pick (cases q)
  where
    this : Verdict
    this = record {
      planner = n;
      class = class_of (laxity s.board.now a.e a.d);
      fate = fate_of (outcome s (Submit n a)).answer.number;
      waited = cond (eqb (outcome s (Submit n a)).answer.number 0) ((outcome s (Submit n a)).answer.start - s.board.now) 0;
    }

    pick : (v ≡ this) ⊎ (v ∈ []) → Classed v
    pick (inl e) = subst Classed (sym e)
        (record { class = class-few (laxity s.board.now a.e a.d); fate = fate-few (fate_of (outcome s (Submit n a)).answer.number); planner = classed-planner s n a })
    pick (inr m) = absurd (nowhere m)

all-classed : (s : State) (es : List Event) (v : Verdict) → v ∈ verdicts (trials_from s es) → Classed v
unfolding trials_from verdicts each
all-classed s [] v q = absurd (nowhere q)
all-classed s (e ∷ es) v q = go (λ m. all-classed (outcome s e).state es v m)
    (Memᴰ.append_cases (verdict_of s.board.now e (outcome s e).answer.number (outcome s e).answer.start) q)
  where
    go : (v ∈ verdicts (trials_from (outcome s e).state es) → Classed v)
        → (v ∈ verdict_of s.board.now e (outcome s e).answer.number (outcome s e).answer.start) ⊎ (v ∈ verdicts (trials_from (outcome s e).state es)) → Classed v
    go next (inl m) = event-classed s e v m
    go next (inr m) = next m

-- an event that is a submission
abbrev pub submits? : Event → Bool
submits? (NewBoard W H) = false
submits? (Submit n a) = true
submits? (Clock i) = false
submits? (Withdraw n) = false
submits? (GridBoard W H g) = false

one-verdict : (s : State) (es : List Event) → length (verdicts (trials_from s es)) ≡ length (keep submits? es)
unfolding trials_from verdicts each keep verdict_of
one-verdict s [] = refl
one-verdict s (NewBoard W H ∷ es) = one-verdict (outcome s (NewBoard W H)).state es
one-verdict s (Submit n a ∷ es) = ap suc (one-verdict (outcome s (Submit n a)).state es)
one-verdict s (Clock i ∷ es) = one-verdict (outcome s (Clock i)).state es
one-verdict s (Withdraw n ∷ es) = one-verdict (outcome s (Withdraw n)).state es
one-verdict s (GridBoard W H g ∷ es) = one-verdict (outcome s (GridBoard W H g)).state es

-- ALL CLASSES AND THE LINE WITHOUT CLASS TOGETHER ARE ALL SUBMISSIONS
pub all_told : (files : ℕ) (s : State) (es : List Event)
    → over (range 0 16) (λ r. get_or (sheet_of files (trials_from s es)) (r * 5) 0) + get_or (sheet_of files (trials_from s es)) 80 0 ≡ length (keep submits? es)
unfolding sheet_of
all_told files s es =
    omega (
      arith,
      over-same (λ r. get_or (sheet_of files (trials_from s es)) (r * 5) 0) (λ r. length (of (r / 4) (r % 4) vs)) 0 16 (λ r h. figure r (omega (arith, h))),
      sheet-foot vs (length (trials_from s es)) files 0,
      all_lines vs (all-classed s es),
      one-verdict s es,
    )
  where
    vs : List Verdict
    vs = verdicts (trials_from s es)

    figure : (r : ℕ) → r < 16 → get_or (sheet_of files (trials_from s es)) (r * 5) 0 ≡ length (of (r / 4) (r % 4) vs)
    figure r h =
        let place : r * 5 / 5 ≡ r = omega arith in
        let left : r * 5 % 5 ≡ 0 = omega arith in
        sheet-row vs (length (trials_from s es)) files (r * 5) (omega (arith, h)) ∙ ap₂ (λ i j. get_or (figures_of vs (i / 4) (i % 4)) j 0) place left ∙ (unfold figures_of in refl)
