-- Demand 3 to its end: what a request for openings says of itself, and asking on with any buffers up to the call that says that none remains. Assumes nothing.
use Prim.Native.Nat.{ℕ, zero, suc, ◌/◌, ◌≤◌, ◌<◌}
use mathlib.Core.Path.{◌≡◌, refl, sym, ap, ◌∙◌, subst}
use mathlib.Core.Bool.{Bool, true, false, cond}
use mathlib.Core.List.Memᴰ.{head as here}
use mathlib.Core.List.Memᴰ.{not-nil as nowhere}
use mathlib.Core.List.Memᴰ.{tail as there}
use mathlib.Core.List.{List, [], ◌∷◌, ◌++◌, append-nil}
use native.Mathlib.Omega.{arith}
use borrow.Author.Tests.{ltb-true, ltb-false}
use lib.Dec.{T, ltb}
use lib.ListN.{length, drop, get_or, replicate, length-drop, take-append-drop}
use lib.Seq.{take_all}
use Rattle.lists.specs.Lists.{◌∈◌, last_or, over_front}
use Rattle.lists.proofs.Members.{get_or-in}
use Rattle.lists.proofs.Order.{Sorted, Sorted·head, Sorted·tail}
use Rattle.ways.specs.Ways.{pair}
use Rattle.tasks.specs.declared.Submission.{Submission}
use Rattle.planners.specs.Openings.{Place, openings, pair_numbers}
use Rattle.planners.proofs.Openings.{Before, earlier, lower, after_last, after_none}
use Rattle.board.specs.declared.Board.{Board}
use Rattle.board.specs.declared.Opened.{Opened}
use Rattle.board.specs.Refusals.{live_of}
use Rattle.board.specs.Calls.{or_refused, remaining, opened, opened_buffer}
use Rattle.board.proofs.Kept.{SoundBoard}
use Rattle.board.proofs.Window.{Reachable}
use Rattle.board.proofs.Asking.{given, IsOpening, not-refused, given-first, more_left, left-opens, opens-left}

module _ (b : Board) (a : Submission) where
  -- the list of openings of document 01, by start and then column
  abbrev pub all_openings : List Place
  all_openings = openings b.device.grid b.device.columns b.now (live_of b) a

  -- the answer to a request after the pair p with a lent buffer
  abbrev pub reply : Place → List ℕ → Opened
  reply p buffer = opened b a p.start p.place (length buffer)

-- ASKING ON: a call with each buffer in turn, on the board that the call before handed back and after the last pair that it gave, for as long as it said that a further one remains
unfoldable pub asking_on : Board → Submission → Place → List (List ℕ) → List Place
asking_on b a p [] = []
asking_on b a p (buffer ∷ rest) =
    given b a p buffer ++ cond (reply b a p buffer).more (asking_on (reply b a p buffer).board a (last_or p (given b a p buffer)) rest) []

-- what each of these calls says: whether a further one remains
unfoldable pub said_more : Board → Submission → Place → List (List ℕ) → List Bool
said_more b a p [] = []
said_more b a p (buffer ∷ rest) =
    (reply b a p buffer).more ∷ cond (reply b a p buffer).more (said_more (reply b a p buffer).board a (last_or p (given b a p buffer)) rest) []

-- every buffer has room for one opening or more
abbrev pub Roomy : List (List ℕ) → Type 0
Roomy buffers = (buffer : List ℕ) → buffer ∈ buffers → 2 ≤ length buffer

-- no pair comes before itself
irreflexive : (p : Place) → Before p p → ⊥
irreflexive p (earlier h) = omega arith
irreflexive p (lower e h) = omega arith

-- EACH ONCE: what stands at two places of an ordered list differs
pub ordered-once : (ps : List Place) → Sorted Before ps → (d : Place) (i j : ℕ) → i < j → j < length ps → get_or ps i d ≡ get_or ps j d → ⊥
ordered-once [] s d i j l h e = absurd (omega arith)
ordered-once (p ∷ ps) s d i zero l h e = absurd (omega arith)
ordered-once (p ∷ ps) s d zero (suc j) l h e = irreflexive p (subst (λ q. Before p q) (sym e) (Sorted·head Before s (get_or ps j d) (get_or-in ps j d (omega arith))))
ordered-once (p ∷ ps) s d (suc i) (suc j) l h e = ordered-once ps (Sorted·tail Before s) d i j (omega arith) (omega arith) e

module _ (b : Board) (a : Submission) (s : SoundBoard b) (k : Reachable b a) where
  abbrev left : Place → List Place
  left p = remaining b a p.start p.place

  -- what comes after the last pair given is what is left
  after-given : (p : Place) (buffer : List ℕ) → left (last_or p (given b a p buffer)) ≡ drop (length buffer / 2) (left p)
  unfolding remaining
  after-given p buffer = ap (λ ps. left (last_or p ps)) (given-first b a s k p buffer) ∙ after_last b.device.grid b.device.columns b.now (live_of b) a (length buffer / 2) p

  -- THE ANSWER: number 0, as many as are given, and the same board
  pub reply-answers : (p : Place) (buffer : List ℕ)
      → ((reply b a p buffer).number ≡ 0) × ((reply b a p buffer).count ≡ length (given b a p buffer)) × ((reply b a p buffer).board ≡ b)
  unfolding opened or_refused
  reply-answers p buffer = (rw (not-refused b a s k), rw (not-refused b a s k) (ap length (sym (given-first b a s k p buffer))), rw (not-refused b a s k))

  same-board : (p : Place) (buffer : List ℕ) → (reply b a p buffer).board ≡ b
  same-board p buffer = (reply-answers p buffer).2

  -- THE BUFFER: the pairs given at its front, and every other word as it was
  pub reply-writes : (p : Place) (buffer : List ℕ) → opened_buffer b a p.start p.place buffer ≡ over_front (pair_numbers (given b a p buffer)) buffer
  unfolding opened_buffer or_refused
  reply-writes p buffer = rw (not-refused b a s k) (ap (λ ps. over_front (pair_numbers ps) buffer) (sym (given-first b a s k p buffer)))

  -- MORE: said exactly when an opening comes after the last one given
  pub more-true : (p : Place) (buffer : List ℕ) → (reply b a p buffer).more ≡ true → (q : Place) × IsOpening b a q × Before (last_or p (given b a p buffer)) q
  more-true p buffer e =
      let l = ltb-true n (length (left p)) (sym (more_left b a s k p (length buffer)) ∙ e) in
      go (left last) refl (omega (arith, ap length (after-given p buffer), length-drop n (left p)))
    where
      n : ℕ
      n = length buffer / 2

      last : Place
      last = last_or p (given b a p buffer)

      go : (ps : List Place) → left last ≡ ps → 0 < length ps → (q : Place) × IsOpening b a q × Before last q
      go [] z h = absurd (omega arith)
      go (q ∷ ps) z h = let m = left-opens b a s k last q (rw z (here refl)) in (q, m.0, m.1)

  pub more-false : (p : Place) (buffer : List ℕ) → (reply b a p buffer).more ≡ false → (q : Place) → IsOpening b a q → Before (last_or p (given b a p buffer)) q → ⊥
  more-false p buffer e q o h =
      let l = ltb-false n (length (left p)) (sym (more_left b a s k p (length buffer)) ∙ e) in
      none_in (left last) (opens-left b a s k last q o h) (omega (arith, ap length (after-given p buffer), length-drop n (left p)))
    where
      n : ℕ
      n = length buffer / 2

      last : Place
      last = last_or p (given b a p buffer)

      none_in : (ps : List Place) → q ∈ ps → length ps ≤ 0 → ⊥
      none_in [] m l = nowhere m
      none_in (x ∷ ps) m l = omega arith

  -- ASKING ON GIVES ALL, whatever the buffers, if each has room for one or more and there are as many as openings
  on-gives : (p : Place) (buffers : List (List ℕ)) → Roomy buffers → length (left p) ≤ length buffers → asking_on b a p buffers ≡ left p
  unfolding asking_on
  on-gives p [] r l = none_of_lem (left p) l
    where
      none_of_lem : (ps : List Place) → length ps ≤ 0 → [] ≡ ps
      none_of_lem [] l = refl
      none_of_lem (q ∷ ps) l = absurd (omega arith)
  on-gives p (buffer ∷ rest) r l =
      ap (λ c. given b a p buffer ++ cond (reply b a p buffer).more (asking_on c a last rest) []) (same-board p buffer)
      ∙ ap (λ m. given b a p buffer ++ cond m (asking_on b a last rest) []) (more_left b a s k p (length buffer))
      ∙ go (λ h. on-gives last rest (λ w m. r w (there m)) h) (ltb n (length (left p))) refl
    where
      n : ℕ
      n = length buffer / 2

      last : Place
      last = last_or p (given b a p buffer)

      go : (length (left last) ≤ length rest → asking_on b a last rest ≡ left last) → (m : Bool) → ltb n (length (left p)) ≡ m
          → given b a p buffer ++ cond m (asking_on b a last rest) [] ≡ left p
      go next true e =
          let z = after-given p buffer in
          let fewer : length (left last) ≤ length rest = omega (arith, ap length z, length-drop n (left p), r buffer (here refl)) in
          ap (λ ps. given b a p buffer ++ ps) (next fewer ∙ z) ∙ ap (λ ps. ps ++ drop n (left p)) (given-first b a s k p buffer) ∙ take-append-drop n (left p)
      go next false e = append-nil (given b a p buffer) ∙ given-first b a s k p buffer ∙ take_all n (left p) (ltb-false n (length (left p)) e)

  -- AND IT ENDS: the last of the calls says that none remains, every one before it that one does
  on-ends : (p : Place) (buffers : List (List ℕ)) → Roomy buffers → 1 ≤ length buffers → length (left p) ≤ length buffers
      → (n : ℕ) × (said_more b a p buffers ≡ replicate n true ++ (false ∷ []))
  unfolding said_more
  on-ends p [] r one l = absurd (omega arith)
  on-ends p (buffer ∷ rest) r one l =
      subst (λ c. Ends ((reply b a p buffer).more ∷ cond (reply b a p buffer).more (said_more c a last rest) [])) (sym (same-board p buffer))
      (go (λ h i. on-ends last rest (λ w m. r w (there m)) h i) (reply b a p buffer).more (more_left b a s k p (length buffer)))
    where
      n : ℕ
      n = length buffer / 2

      last : Place
      last = last_or p (given b a p buffer)

      Ends : List Bool → Type 0
      Ends ms = (i : ℕ) × (ms ≡ replicate i true ++ (false ∷ []))

      go : (1 ≤ length rest → length (left last) ≤ length rest → Ends (said_more b a last rest)) → (m : Bool) → m ≡ ltb n (length (left p))
          → Ends (m ∷ cond m (said_more b a last rest) [])
      go next false e = (0, refl)
      go next true e =
          let z = ap length (after-given p buffer) ∙ length-drop n (left p) in
          let more = ltb-true n (length (left p)) (sym e) in
          let room : 1 ≤ n = omega (arith, r buffer (here refl)) in
          let x = next (omega arith) (omega arith) in
          (suc x.0, ap (λ ms. true ∷ ms) {y = replicate x.0 true ++ (false ∷ [])} x.1)

  -- WHEN A CALL HAS SAID THAT NONE REMAINS, all have been given, whatever the buffers
  off-gave : (p : Place) (buffers : List (List ℕ)) (n : ℕ) → said_more b a p buffers ≡ replicate n true ++ (false ∷ []) → asking_on b a p buffers ≡ left p
  unfolding asking_on said_more
  off-gave p [] zero e = absurd (let z : ◌≡◌ {A = ℕ} 0 1 = cc in omega arith)
  off-gave p [] (suc n) e = absurd (let z : ◌≡◌ {A = ℕ} 0 1 = cc in omega arith)
  off-gave p (buffer ∷ rest) n e =
      ap (λ c. given b a p buffer ++ cond (reply b a p buffer).more (asking_on c a last rest) []) (same-board p buffer)
      ∙ go (λ i h. off-gave last rest i h) (reply b a p buffer).more (more_left b a s k p (length buffer)) n
      (ap (λ c. (reply b a p buffer).more ∷ cond (reply b a p buffer).more (said_more c a last rest) []) (sym (same-board p buffer)) ∙ e)
    where
      size : ℕ
      size = length buffer / 2

      last : Place
      last = last_or p (given b a p buffer)

      go : ((i : ℕ) → said_more b a last rest ≡ replicate i true ++ (false ∷ []) → asking_on b a last rest ≡ left last) → (m : Bool) → m ≡ ltb size (length (left p))
          → (i : ℕ) → m ∷ cond m (said_more b a last rest) [] ≡ replicate i true ++ (false ∷ []) → given b a p buffer ++ cond m (asking_on b a last rest) [] ≡ left p
      go below false l i h = append-nil (given b a p buffer) ∙ given-first b a s k p buffer ∙ take_all size (left p) (ltb-false size (length (left p)) (sym l))
      go below true l zero h = absurd (let z : true ≡ false = cc in subst T z tt)
      go below true l (suc i) h =
          let z = after-given p buffer in
          let on : said_more b a last rest ≡ replicate i true ++ (false ∷ []) = cc in
          ap (λ ps. given b a p buffer ++ ps) (below i on ∙ z) ∙ ap (λ ps. ps ++ drop size (left p)) (given-first b a s k p buffer) ∙ take-append-drop size (left p)

  -- from (0, 0) on
  pub from-none : remaining b a 0 0 ≡ all_openings b a
  unfolding remaining
  from-none = after_none b.device.grid b.device.columns b.now (live_of b) a

  pub asking-gives-all : (buffers : List (List ℕ)) → Roomy buffers → length (all_openings b a) ≤ length buffers → asking_on b a (pair 0 0) buffers ≡ all_openings b a
  asking-gives-all buffers r l = on-gives (pair 0 0) buffers r (rw from-none l) ∙ from-none

  pub asking-ends : (buffers : List (List ℕ)) → Roomy buffers → 1 ≤ length buffers → length (all_openings b a) ≤ length buffers
      → (n : ℕ) × (said_more b a (pair 0 0) buffers ≡ replicate n true ++ (false ∷ []))
  asking-ends buffers r one l = on-ends (pair 0 0) buffers r one (rw from-none l)

  pub asked-to-end : (buffers : List (List ℕ)) (n : ℕ) → said_more b a (pair 0 0) buffers ≡ replicate n true ++ (false ∷ []) → asking_on b a (pair 0 0) buffers ≡ all_openings b a
  asked-to-end buffers n e = off-gave (pair 0 0) buffers n e ∙ from-none
