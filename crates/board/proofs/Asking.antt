-- DEMAND 3 about the call: what its answer and buffer give is every opening after the pair, once, in order; asking on reaches the end; Full takes the first. Assumes nothing.
use Prim.Native.Nat.{ℕ, zero, suc, ◌+◌, ◌/◌, ◌≤◌}
use mathlib.Core.Path.{◌≡◌, refl, sym, ap, ◌∙◌}
use mathlib.Core.Logic.{◌⊎◌, inl, inr}
use mathlib.Core.Bool.{Bool, true, false, cond, not}
use mathlib.Core.List.Memᴰ
use mathlib.Core.List.{List, [], ◌∷◌, ◌++◌, append-nil}
use native.Mathlib.Omega.{arith}
use borrow.Author.Tests.{le-ltb, ltb-false}
use lib.Dec.{leb, ltb, le→leb}
use lib.ListN.{length, take, drop, get_or, length-take, length-drop, take-append-drop, length-append}
use lib.Seq.{take_all}
use Rattle.lists.specs.Lists.{◌∈◌, head?, last_or}
use Rattle.lists.proofs.Bools.{and_i, is_true}
use Rattle.lists.proofs.Order.{Sorted}
use Rattle.ways.specs.Ways.{pair}
use Rattle.tasks.specs.declared.Submission.{Submission}
use Rattle.tasks.specs.Numbers.{within, size_fits, time_fits, last_instant, longest}
use Rattle.laxity.specs.Laxity.{laxity, most_laxity}
use Rattle.tasks.proofs.Laws.{within_in, size_in}
use Rattle.planners.specs.Openings.{Place, openings, pair_numbers, full}
use Rattle.planners.specs.Planners.{planned}
use Rattle.planners.proofs.Openings.{Opening, Before, after-listed, listed-after, after-ordered, after_last, after_none}
use Rattle.slots.proofs.Soundness.{sound-in}
use Rattle.openings.proofs.Writing.{words-length}
use Rattle.board.specs.declared.Board.{Board}
use Rattle.board.specs.Refusals.{refusal, live_of, sound_board, refused_openings, refused_submit}
use Rattle.board.specs.Calls.{or_refused, taken, submitted, remaining, opened, opened_buffer}
use Rattle.refusals.specs.Refusals.{openings_tests}
use Rattle.refusals.proofs.First.{sound-passes, passed_over_lem}
use Rattle.board.proofs.Kept.{SoundBoard}
use Rattle.board.proofs.Submit.{accepted-answered}
use Rattle.board.proofs.Window.{Reachable}

-- n openings as they are read from the front of a buffer: start, column
pub pairs_from : ℕ → List ℕ → List Place
pairs_from zero ws = []
pairs_from (suc n) ws = pair (get_or ws 0 0) (get_or ws 1 0) ∷ pairs_from n (drop 2 ws)

read_back : (ps : List Place) (ws : List ℕ) → pairs_from (length ps) (pair_numbers ps ++ ws) ≡ ps
unfolding pairs_from pair_numbers
read_back [] ws = refl
read_back (p ∷ ps) ws = ap (λ qs. pair p.start p.place ∷ qs) (read_back ps ws)

-- a request on a sound board for a well-formed task whose deadline can still be reached, within the laxity of document 02, is not refused
pub not-refused : (b : Board) (a : Submission) → SoundBoard b → Reachable b a → refused_openings b a ≡ 0
unfolding refused_openings
not-refused b a s k =
    let sized = size_in b.device a.w a.h (record { width = k.w; height = k.h; stepped = k.stepped }) in
    let timed = and_i (within 1 longest a.e) (leb a.d last_instant) (within_in 1 longest a.e k.e) (le→leb a.d last_instant k.d) in
    sound-passes (sound_board b) (openings_tests b.device b.now a) (is_true (sound_board b) (sound-in b.device b.now b.tasks s))
    ∙ passed_over_lem 5 (not (size_fits b.device a.w a.h)) _ (ap not (is_true (size_fits b.device a.w a.h) sized))
    ∙ passed_over_lem 6 (not (time_fits a.e a.d)) _ (ap not (is_true (time_fits a.e a.d) timed))
    ∙ passed_over_lem 8 (ltb a.d (b.now + a.e)) _ (le-ltb a.d (b.now + a.e) k.reachable)
    ∙ passed_over_lem 18 (ltb most_laxity (laxity b.now a.e a.d)) [] (le-ltb most_laxity (laxity b.now a.e a.d) k.lax)
    ∙ (unfold refusal in refl)

module _ (b : Board) (a : Submission) where
  -- what a call after the pair p gives, as its caller reads it: as many pairs as the answer counts, from the front of the buffer
  pub given : Place → List ℕ → List Place
  given p buffer = pairs_from (opened b a p.start p.place (length buffer)).count (opened_buffer b a p.start p.place buffer)

  -- n calls, each after the last pair that the one before gave, for as long as the answer says that a further one remains
  pub asking : ℕ → Place → List ℕ → List Place
  asking zero p buffer = []
  asking (suc n) p buffer =
      given p buffer ++ cond (opened b a p.start p.place (length buffer)).more
      (asking n (last_or p (given p buffer)) (opened_buffer b a p.start p.place buffer)) []

  -- the openings of documents 01 and 02 on this board
  abbrev pub IsOpening : Place → Type 0
  IsOpening = Opening b.device.grid b.device.columns b.now (live_of b) a

  module _ (s : SoundBoard b) (k : Reachable b a) where
    none-refused : refused_openings b a ≡ 0
    none-refused = not-refused b a s k

    abbrev left : Place → List Place
    left p = remaining b a p.start p.place

    -- A CALL GIVES THE FIRST OF WHAT COMES AFTER THE PAIR, as many as fit, and says whether there are more
    pub given-first : (p : Place) (buffer : List ℕ) → given p buffer ≡ take (length buffer / 2) (left p)
    unfolding given opened opened_buffer or_refused
    given-first p buffer = rw none-refused (read_back (take (length buffer / 2) (left p)) (drop (length (pair_numbers (take (length buffer / 2) (left p)))) buffer))

    pub more_left : (p : Place) (words : ℕ) → (opened b a p.start p.place words).more ≡ ltb (words / 2) (length (left p))
    unfolding opened or_refused
    more_left p words = rw none-refused

    -- the buffer keeps its length
    pub same_length : (p : Place) (buffer : List ℕ) → length (opened_buffer b a p.start p.place buffer) ≡ length buffer
    unfolding opened_buffer or_refused
    same_length p buffer =
        let ps = take (length buffer / 2) (left p) in
        let fits : length ps ≤ length buffer / 2 = omega (arith, length-take (length buffer / 2) (left p)) in
        rw none-refused (length-append (pair_numbers ps) (drop (length (pair_numbers ps)) buffer) ∙ let h = words-length ps in omega (arith, length-drop (length (pair_numbers ps)) buffer))

    -- AN OPENING IS IN THE LIST EXACTLY WHEN it starts from now on, lies within the device, overlaps no live task, meets the deadline, and comes after the pair
    pub left-opens : (p q : Place) → q ∈ left p → IsOpening q × Before p q
    unfolding remaining
    left-opens p q m = after-listed b.device.grid b.device.columns b.now (live_of b) a p q m

    pub opens-left : (p q : Place) → IsOpening q → Before p q → q ∈ left p
    unfolding remaining
    opens-left p q o c = listed-after b.device.grid b.device.columns b.now (live_of b) a p q o c

    -- EACH EXACTLY ONCE, BY START AND THEN COLUMN
    pub left-ordered : (p : Place) → Sorted Before (left p)
    unfolding remaining
    left-ordered p = after-ordered b.device.grid b.device.columns b.now (live_of b) a p

    -- what comes after the last pair given is what is left
    after-given : (p : Place) (buffer : List ℕ) → left (last_or p (given p buffer)) ≡ drop (length buffer / 2) (left p)
    unfolding remaining
    after-given p buffer = ap (λ ps. left (last_or p ps)) (given-first p buffer) ∙ after_last b.device.grid b.device.columns b.now (live_of b) a (length buffer / 2) p

    -- TWO CALLS NEVER BOTH MISS ONE: an opening after the pair is given, or comes after the last one given
    pub none-missed : (p q : Place) (buffer : List ℕ) → IsOpening q → Before p q → (q ∈ given p buffer) ⊎ Before (last_or p (given p buffer)) q
    none-missed p q buffer o c = pick (Memᴰ.append_cases (take (length buffer / 2) (left p)) (rw (take-append-drop (length buffer / 2) (left p)) (opens-left p q o c)))
      where
        pick : (q ∈ take (length buffer / 2) (left p)) ⊎ (q ∈ drop (length buffer / 2) (left p)) → (q ∈ given p buffer) ⊎ Before (last_or p (given p buffer)) q
        pick (inl m) = inl (rw (given-first p buffer) m)
        pick (inr m) = inr (left-opens (last_or p (given p buffer)) q (rw (after-given p buffer) m)).1

    -- ASKING ON, with room for one or more, REACHES THE END
    pub asking-all : (n : ℕ) (p : Place) (buffer : List ℕ) → 2 ≤ length buffer → length (left p) ≤ n → asking n p buffer ≡ left p
    unfolding asking
    asking-all zero p buffer h l = none_of_lem (left p) l
      where
        none_of_lem : (ps : List Place) → length ps ≤ 0 → [] ≡ ps
        none_of_lem [] l = refl
        none_of_lem (q ∷ ps) l = absurd (omega arith)
    asking-all (suc n) p buffer h l =
        ap (λ m. given p buffer ++ cond m (asking n last again) []) (more_left p (length buffer))
        ∙ go (λ q ws x y. asking-all n q ws x y) (ltb (length buffer / 2) (length (left p))) refl
      where
        k' : ℕ
        k' = length buffer / 2

        -- the pair and the buffer of the next call
        last : Place
        last = last_or p (given p buffer)

        again : List ℕ
        again = opened_buffer b a p.start p.place buffer

        go : ((q : Place) (ws : List ℕ) → 2 ≤ length ws → length (left q) ≤ n → asking n q ws ≡ left q) → (m : Bool) → ltb k' (length (left p)) ≡ m
            → given p buffer ++ cond m (asking n last again) [] ≡ left p
        go next true e =
            let r = after-given p buffer in
            let fewer : length (left last) ≤ n = omega (arith, ap length r, length-drop k' (left p)) in
            let on = next last again (omega (arith, same_length p buffer)) fewer in
            ap (λ ps. given p buffer ++ ps) (on ∙ r) ∙ ap (λ ps. ps ++ drop k' (left p)) (given-first p buffer) ∙ take-append-drop k' (left p)
        go next false e = append-nil (given p buffer) ∙ given-first p buffer ∙ take_all k' (left p) (ltb-false k' (length (left p)) e)

    -- from (0, 0) on: every opening there is
    pub asking-from-none : (n : ℕ) (buffer : List ℕ) → 2 ≤ length buffer → length (openings b.device.grid b.device.columns b.now (live_of b) a) ≤ n
        → asking n (pair 0 0) buffer ≡ openings b.device.grid b.device.columns b.now (live_of b) a
    unfolding remaining
    asking-from-none n buffer h l =
        let e = after_none b.device.grid b.device.columns b.now (live_of b) a in
        asking-all n (pair 0 0) buffer h (rw e l) ∙ e

    -- FULL TAKES THE FIRST that the call gives, and REJECTS EXACTLY WHEN it gives none
    pub full-takes-given : (buffer : List ℕ) → 2 ≤ length buffer → refused_submit b 3 a ≡ 0 → submitted b 3 a ≡ taken b a (head? (given (pair 0 0) buffer))
    unfolding planned full remaining
    full-takes-given buffer h e =
        let from-none = ap head? (sym (after_none b.device.grid b.device.columns b.now (live_of b) a)) in
        let same = first (left (pair 0 0)) (length buffer / 2) (omega arith) in
        accepted-answered b 3 a e ∙ ap (taken b a) (from-none ∙ same ∙ ap head? (sym (given-first (pair 0 0) buffer)))
      where
        first : (ps : List Place) (k : ℕ) → 1 ≤ k → head? ps ≡ head? (take k ps)
        first [] zero h = refl
        first [] (suc k) h = refl
        first (p ∷ ps) zero h = absurd (omega arith)
        first (p ∷ ps) (suc k) h = unfold head? in refl
