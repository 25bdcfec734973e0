-- The loop of `feed`: what is left of the piece gives what is left to do. Assumes nothing.
use Prim.Native.Nat.{ℕ, ◌+◌, ◌-◌, ◌≤◌, ◌<◌}
use mathlib.Core.Path.{◌≡◌, refl, sym, ap, ap₂, ◌∙◌}
use mathlib.Core.Bool.{Bool, true, false, cond, ◌&&◌}
use mathlib.Core.List.{List, [], ◌++◌}
use native.Mathlib.Omega.{arith}
use borrow.Author.Tests.{lt-ltb, le-leb, ltb-true, ltb-false, leb-true}
use lib.Dec.{leb, ltb}
use lib.ListN.{length, take, drop, length-append, length-drop, drop_of_length-le}
use lib.Seq.{sets, length-sets, drop-drop, length-take-le, take_all}
use Rattle.lists.specs.Lists.{index_of, over_front}
use Rattle.lists.proofs.Stores.{sets-append}
use Rattle.text.specs.Output.{Output, nothing, before}
use Rattle.recorder.proofs.Reading.{part, onward}
use Rattle.tokens.specs.declared.Sort.TheVariants.{Newline}
use Rattle.tokens.specs.Tokens.{stops_at}
use Rattle.recorder.specs.declared.Recorder.{Recorder}
use Rattle.recorder.specs.declared.Fed.{Fed}
use Rattle.recorder.specs.Recorder.{lines_on}
use Rattle.recorder.specs.Machine.{Feeding, part_fed, after, goes_on, parts_fed, taking_all, unfed, feeding, fed_of}
use Rattle.recorder.proofs.Feeding.{Parted, parted, part-quiet, part-short, part-few, part-most, part-all, part-some, Does, sets-front, front_long}
use Rattle.recorder.proofs.Feeding.{lines-on, lines-last, parts-stop, parts_last, parts_more, parts-end}

-- both hold, the first does not, the second does not
both_l : (a b : Bool) → (a && b) ≡ true → a ≡ true
both_l true b e = refl
both_l false b e = e

both_r : (a b : Bool) → (a && b) ≡ true → b ≡ true
both_r true b e = e
both_r false b e = absurd (let z : ◌≡◌ {A = ℕ} 0 1 = cc in omega arith)

and-true : (a : Bool) → ((true && a) && true) ≡ a
and-true true = refl
and-true false = refl

-- whether the code goes on: no line was wrong, bytes are left, there is room for a record
abbrev pub turns : Recorder → ℕ → ℕ → Bool
turns r left room = (r.more && ltb 0 left) && leb 18 room

-- where the machine stands in the middle of a piece
abbrev standing : Recorder → List ℕ → ℕ → Output → Feeding
standing r held at acc = record { recorder = r; held = held; taken = at; output = acc }

-- WHAT HOLDS IN THE LOOP
pub record Going (r₀ : Recorder) (held₀ piece out₀ err₀ held out err : List ℕ) (r : Recorder) (at used said : ℕ) : Type 0 where
  pub acc : Output
  pub place : at ≤ length piece
  pub few : r.held < 65536
  pub fits : used ≤ length out₀
  pub stored : out ≡ sets out₀ 0 acc.out
  pub told : err ≡ over_front acc.err err₀
  pub count : used ≡ length acc.out
  pub words : said ≡ length acc.err
  pub quiet : r.more ≡ true → acc.err ≡ []
  pub left : parts_fed (length out₀) (standing r held at acc) (lines_on [] (drop at piece)) ≡ parts_fed (length out₀) (unfed r₀ held₀) (lines_on [] piece)

-- nothing is taken yet
pub going-none : (r : Recorder) (held piece out err : List ℕ) → r.held < 65536 → Going r held piece out err held out err r 0 0 0
going-none r held piece out err h =
    record {
      acc = nothing;
      place = omega arith;
      few = h;
      fits = omega arith;
      stored = refl;
      told = refl;
      count = refl;
      words = refl;
      quiet = λ e. refl;
      left = refl;
    }

module _ {r₀ : Recorder} {held₀ piece out₀ err₀ held out err : List ℕ} {r : Recorder} {at used said : ℕ} (g : Going r₀ held₀ piece out₀ err₀ held out err r at used said) where
  pub same-room : length out ≡ length out₀
  same-room = ap length g.stored ∙ length-sets out₀ 0 g.acc.out

  -- A TURN
  module _ (go : turns r (length piece - at) (length out - used) ≡ true) where
    pub more-is : r.more ≡ true
    more-is = both_l r.more (ltb 0 (length piece - at)) (both_l _ (leb 18 (length out - used)) go)

    pub some_left : at < length piece
    some_left = let h : 0 < length piece - at = ltb-true _ _ (both_r r.more _ (both_l _ (leb 18 (length out - used)) go)) in omega arith

    pub room-left : used + 18 ≤ length out
    room-left = let h : 18 ≤ length out - used = leb-true _ _ (both_r (r.more && ltb 0 (length piece - at)) _ go) in omega arith

    goes : goes_on (length out₀) (standing r held at g.acc) ≡ true
    goes = rw (more-is) (le-leb 18 (length out₀ - length g.acc.out) (omega (arith, room-left, same-room, g.count)))

    module _ (end : ℕ) (found : end ≡ at + index_of (stops_at Newline) (part at (length piece) piece)) (most : end ≤ length piece) where
      abbrev text : List ℕ
      text = drop at piece

      abbrev first : ℕ
      first = index_of (stops_at Newline) text

      abbrev fed : Feeding
      fed = part_fed r held (part at end piece) (ltb end (length piece))

      abbrev how : Parted r held (part at end piece) (ltb end (length piece)) fed
      how = parted r held (part at end piece) (ltb end (length piece))

      is-first : end ≡ at + first
      is-first = found ∙ ap (λ t. at + index_of (stops_at Newline) t) (onward piece at)

      size : length text ≡ length piece - at
      size = length-drop at piece

      this : part at end piece ≡ take first text
      this = ap (λ k. take k text) (let z : end - at ≡ first = omega (arith, is-first) in z)

      this-size : length (part at end piece) ≡ first
      this-size = ap length this ∙ length-take-le first text (omega (arith, is-first, size))

      -- what is left behind the part
      left-ends : (t : Bool) → ltb end (length piece) ≡ t
          → parts_fed (length out₀) (standing r held at g.acc) (lines_on [] text)
          ≡ parts_fed (length out₀) (after (standing r held at g.acc) (part_fed r held (part at end piece) t)) (lines_on [] (drop (length (part at end piece) + cond t 1 0) text))
      left-ends true e =
          let h : end < length piece = ltb-true _ _ e in
          ap (parts_fed (length out₀) (standing r held at g.acc)) (lines-on [] text (lt-ltb first (length text) (omega (arith, is-first, size))))
          ∙ parts_more (length out₀) (standing r held at g.acc) goes (take first text) [] (drop (first + 1) text)
          ∙ rw (this-size, this) refl
      left-ends false e =
          let h : length piece ≤ end = ltb-false _ _ e in
          let all : part at end piece ≡ text = this ∙ take_all first text (omega (arith, is-first, size)) in
          let none : drop (length (part at end piece) + 0) text ≡ [] = drop_of_length-le text {i = length (part at end piece) + 0} (omega (arith, this-size, is-first, size)) in
          let kept = part-few (parted r held (part at end piece) false) g.few in
          ap (parts_fed (length out₀) (standing r held at g.acc)) (lines-last [] text (omega (arith, is-first, size)))
          ∙ parts_last (length out₀) (standing r held at g.acc) goes text
          ∙ ap (λ p. after (standing r held at g.acc) (part_fed r held p false)) (sym all)
          ∙ sym (ap (λ t. parts_fed (length out₀) (after (standing r held at g.acc) (part_fed r held (part at end piece) false)) (lines_on [] t)) none
          ∙ parts-end (length out₀) (after (standing r held at g.acc) (part_fed r held (part at end piece) false)) kept)

      -- it is behind what was taken, or the machine has stopped
      behind : parts_fed (length out₀) (after (standing r held at g.acc) fed) (lines_on [] (drop (length (part at end piece) + cond (ltb end (length piece)) 1 0) text))
          ≡ parts_fed (length out₀) (after (standing r held at g.acc) fed) (lines_on [] (drop (at + fed.taken) piece))
      behind = by fed.recorder.more refl
        where
          by : (t : Bool) → fed.recorder.more ≡ t
              → parts_fed (length out₀) (after (standing r held at g.acc) fed) (lines_on [] (drop (length (part at end piece) + cond (ltb end (length piece)) 1 0) text))
              ≡ parts_fed (length out₀) (after (standing r held at g.acc) fed) (lines_on [] (drop (at + fed.taken) piece))
          by true e =
              ap (λ t. parts_fed (length out₀) (after (standing r held at g.acc) fed) (lines_on [] t))
              (drop-drop (length (part at end piece) + cond (ltb end (length piece)) 1 0) at piece ∙ ap (λ k. drop (at + k) piece) (sym (part-all how e)))
          by false e =
              let stop : goes_on (length out₀) (after (standing r held at g.acc) fed) ≡ false = rw e refl in
              parts-stop (length out₀) (after (standing r held at g.acc) fed) stop _ ∙ sym (parts-stop (length out₀) (after (standing r held at g.acc) fed) stop _)

      within : at + fed.taken ≤ length piece
      within = by (ltb end (length piece)) refl (part-most how)
        where
          by : (t : Bool) → ltb end (length piece) ≡ t → fed.taken ≤ length (part at end piece) + cond t 1 0 → at + fed.taken ≤ length piece
          by true e h = let k : end < length piece = ltb-true _ _ e in omega (arith, this-size, is-first)
          by false e h = omega (arith, this-size, is-first)

      moves : 0 < fed.taken
      moves = part-some how g.few (by (ltb end (length piece)) refl)
        where
          by : (t : Bool) → ltb end (length piece) ≡ t → 0 < length (part at end piece) + cond t 1 0
          by true e = omega arith
          by false e = let k : length piece ≤ end = ltb-false _ _ e in omega (arith, this-size, is-first, some_left)

      going-fed : Going r₀ held₀ piece out₀ err₀ fed.held (sets out used fed.output.out) (over_front fed.output.err err) fed.recorder (at + fed.taken)
          (used + length fed.output.out) (length fed.output.err)
      going-fed =
          let silent : g.acc.err ≡ [] = g.quiet more-is in
          let at-end : used ≡ 0 + length g.acc.out = omega (arith, g.count) in
          record {
            acc = before g.acc fed.output;
            place = within;
            few = part-few how g.few;
            fits = omega (arith, room-left, same-room, part-short how);
            stored =
                ap (λ l. sets l used fed.output.out) g.stored ∙ ap (λ k. sets (sets out₀ 0 g.acc.out) k fed.output.out) at-end
                ∙ sets-append out₀ 0 g.acc.out fed.output.out;
            told = ap (over_front fed.output.err) (g.told ∙ ap (λ t. over_front t err₀) silent) ∙ ap (λ t. over_front (t ++ fed.output.err) err₀) (sym silent);
            count = ap (λ k. k + length fed.output.out) g.count ∙ sym (length-append g.acc.out fed.output.out);
            words = ap (λ t. length (t ++ fed.output.err)) (sym silent);
            quiet = λ e. ap (λ t. t ++ fed.output.err) silent ∙ part-quiet how e;
            left = sym behind ∙ sym (left-ends (ltb end (length piece)) refl) ∙ g.left;
          }

      pub going_more : {q : Fed} {held' out' err' : List ℕ} → Does (part_fed r held (part at end piece) (ltb end (length piece))) used out err q held' out' err'
          → Going r₀ held₀ piece out₀ err₀ held' out' err' q.recorder (at + q.taken) (used + q.used) q.said
      going_more d = rw (d.0, d.1.0, d.1.1.0, d.1.1.1) going-fed

      pub goes_further : {q : Fed} → q ≡ fed_of (part_fed r held (part at end piece) (ltb end (length piece)))
          → (0 < q.taken) × (at + q.taken ≤ length piece) × (used + q.used ≤ length out₀)
      goes_further e = rw e (moves, within, omega (arith, room-left, same-room, part-short how))

  -- THE END of the loop
  module _ (stop : turns r (length piece - at) (length out - used) ≡ false) where
    ended : parts_fed (length out₀) (standing r held at g.acc) (lines_on [] (drop at piece)) ≡ standing r held at g.acc
    ended = by (goes_on (length out₀) (standing r held at g.acc)) refl
      where
        by : (t : Bool) → goes_on (length out₀) (standing r held at g.acc) ≡ t
            → parts_fed (length out₀) (standing r held at g.acc) (lines_on [] (drop at piece)) ≡ standing r held at g.acc
        by false e = parts-stop (length out₀) (standing r held at g.acc) e _
        by true e =
            let m : r.more ≡ true = both_l r.more _ e in
            let room : leb 18 (length out - used) ≡ true = ap₂ (λ a b. leb 18 (a - b)) same-room g.count ∙ both_r r.more _ e in
            let none : ltb 0 (length piece - at) ≡ false = sym (rw (m, room) (and-true (ltb 0 (length piece - at)))) ∙ stop in
            let all : length piece - at ≤ 0 = ltb-false _ _ none in
            ap (λ t. parts_fed (length out₀) (standing r held at g.acc) (lines_on [] t)) (drop_of_length-le piece {i = at} (omega arith))
            ∙ parts-end (length out₀) (standing r held at g.acc) g.few

    whole : feeding r₀ held₀ piece (length out₀) ≡ taking_all (length piece) (standing r held at g.acc)
    unfolding feeding
    whole = ap (taking_all (length piece)) (sym g.left ∙ ended)

    pub going_done : {taken : ℕ} → taken ≡ cond r.more at (length piece) → let f = feeding r₀ held₀ piece (length out₀) in
        (record { recorder = r; taken = taken; used = used; said = said } ≡ fed_of f)
        × ((held ≡ f.held) × ((out ≡ over_front f.output.out out₀) × ((err ≡ over_front f.output.err err₀)
        × ((taken ≤ length piece) × (used ≤ length out) × (said ≤ length err)))))
    going_done {taken} e =
        let most : taken ≤ length piece = by r.more e in
        let told-fits : said ≤ length err = rw (g.words, g.told) (front_long g.acc.err err₀) in
        let front : sets out₀ 0 g.acc.out ≡ over_front g.acc.out out₀ = sets-front out₀ g.acc.out (omega (arith, g.fits, g.count)) in
        rw whole (rw (e, g.count, g.words) refl, (refl, (g.stored ∙ front, (g.told, (most, omega (arith, g.fits, same-room), told-fits)))))
      where
        by : (t : Bool) {k : ℕ} → k ≡ cond t at (length piece) → k ≤ length piece
        by true e = omega (arith, g.place)
        by false e = omega arith
