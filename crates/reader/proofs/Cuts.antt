-- FOR EVERY WAY TO CUT A RECORDING INTO PIECES: what the reader tells of them, one after the other, is how the whole goes. Assumes nothing.
use Prim.Native.Nat.{ℕ, suc, ◌+◌, ◌-◌, ◌≤◌, ◌<◌, min}
use mathlib.Core.Path.{◌≡◌, refl, sym, ap, ap₂, ◌∙◌, subst}
use mathlib.Core.Logic.{◌⊎◌, inl, inr}
use mathlib.Core.Bool.{Bool, true, false, cond}
use mathlib.Core.List.{List, [], ◌∷◌, ◌++◌, append-nil, append_assoc}
use native.Mathlib.Decide.{dec_lt, ℕ_discrete as dec_eq}
use native.Mathlib.Omega.{arith}
use borrow.Author.Tests.{lt-ltb, le-ltb, eq-eqb, ne_eqb}
use lib.Dec.{ltb, eqb}
use lib.ListN.{length, take, drop, length-append, length-take, length-drop, take-append-drop}
use lib.Seq.{drop-append-le, drop-append-add, drop-append_seam, take-append_seam, take-append-add}
use Rattle.lists.specs.Lists.{over_front}
use Rattle.events.specs.declared.Event.{Event}
use Rattle.std.specs.Prelude.{Ok, Err, Some, None}
use Rattle.events.specs.Records.{Reading}
use Rattle.events.specs.declared.ReadError.TheVariants.{CutShort, Unknown}
use Rattle.events.specs.Records.{read_from}
use Rattle.events.proofs.Pieces.{Begun, begun-few, got-shorter, unknown-longer}
use Rattle.session.specs.declared.Ending.{Ending}
use Rattle.session.specs.declared.Ending.TheVariants.{NotYet, AtEnd, In15, In16, AtLast, PastLast}
use Rattle.session.specs.Recording.{Line, stop_line, Story, ends_in, story_from, story, Run, ran_from, room_for, most_events}
use Rattle.session.proofs.Recorded.{told, run-story, run-stops, run_inside, Began, run-began, story-none, story-cut, story-strange, story-end}
use Rattle.reader.specs.declared.Reader.{Reader}
use Rattle.reader.specs.Reader.{first_reader, held_of, Heard, after, is_full, holds_on, meets_stranger, heard_over, passed_over, open?, later_end, heard, end_in, end_of, last_lines}
use Rattle.reader.proofs.Cases.{over_by, heard-by}
use Rattle.reader.proofs.Ends.{end-open, end-closed}

-- what a reader has still to tell, where these bytes are all that comes
unfoldable pub rest_of : Reader → List ℕ → Story
rest_of r bytes =
    cond (open? r.end) (story_from (most_events - r.number) r.state r.number (held_of r ++ bytes)) (ends_in [] r.state (later_end r.end bytes))

-- a reader that has come from the first one
pub record Sane (r : Reader) : Type 0 where
  pub held : length r.held ≡ 18
  pub size : r.size ≤ 17
  pub begun : Begun (held_of r)
  pub going : open? r.end ≡ true → r.number < most_events
  pub not-15 : (k : ℕ) → r.end ≡ In15 k → ⊥

pub rest-open : (r : Reader) (bytes : List ℕ) → open? r.end ≡ true → rest_of r bytes ≡ story_from (most_events - r.number) r.state r.number (held_of r ++ bytes)
unfolding rest_of
rest-open r bytes e = rw e

pub rest-closed : (r : Reader) (bytes : List ℕ) → open? r.end ≡ false → rest_of r bytes ≡ ends_in [] r.state (later_end r.end bytes)
unfolding rest_of
rest-closed r bytes e = rw e

-- no byte begins no record
begun-none : Begun []
unfolding read_from
begun-none = record {
  not-whole = λ v n e. let z : ◌≡◌ {A = ℕ} 0 1 = cc in omega arith;
  no-stranger = λ k e. let z : ◌≡◌ {A = ℕ} 0 1 = cc in omega arith;
}

open-not-15 : (e : Ending) → open? e ≡ true → (k : ℕ) → e ≡ In15 k → ⊥
unfolding open?
open-not-15 e h k q = let x : open? e ≡ false = ap open? q in let y : true ≡ false = sym h ∙ x in let z : ◌≡◌ {A = ℕ} 0 1 = cc in omega arith

open-not-last : (e : Ending) → open? e ≡ true → e ≡ AtLast → ⊥
unfolding open?
open-not-last e h q = let x : open? e ≡ false = ap open? q in let y : true ≡ false = sym h ∙ x in let z : ◌≡◌ {A = ℕ} 0 1 = cc in omega arith

-- A PIECE: what it tells, and what is then left to tell
pub record Goes (r : Reader) (bytes : List ℕ) (h : Heard) : Type 0 where
  pub tells : rest_of r bytes ≡ told h.lines h.events (rest_of h.reader (drop h.taken bytes))
  pub sane : Sane h.reader

-- A RUN OVER THE HELD BYTES AND SOME MORE
module _ (r : Reader) (s : Sane r) (o : open? r.end ≡ true) (p more : List ℕ) (words : ℕ) where
  abbrev bytes : List ℕ
  bytes = held_of r ++ p

  abbrev kept : ℕ
  kept = length (held_of r)

  abbrev room : ℕ
  room = room_for words r.number

  abbrev run : Run
  run = ran_from room r.state r.number bytes

  abbrev n : ℕ
  n = r.number + length run.lines

  abbrev rest : List ℕ
  rest = drop run.taken bytes

  few-held : kept ≤ 17
  few-held = begun-few (held_of r) s.begun

  long : length bytes ≡ kept + length p
  long = length-append (held_of r) p

  -- the run, and what follows it
  follows : rest_of r (p ++ more) ≡ told run.lines run.events (story_from (most_events - n) run.state n (rest ++ more))
  follows =
      let same : most_events - r.number - length run.lines ≡ most_events - n = omega arith in
      rest-open r (p ++ more) o
      ∙ ap (story_from (most_events - r.number) r.state r.number) (sym (append_assoc (held_of r) p more))
      ∙ run-story (most_events - r.number) room r.state r.number bytes more (omega arith)
      ∙ ap (λ m. told run.lines run.events (story_from m run.state n (rest ++ more))) same

  -- what the run has taken is more than what was held
  past-held : (0 < run.taken) ⊎ (0 < length run.lines) → kept < run.taken
  past-held h =
      let b = run-began room r.state r.number bytes h in
      go b (dec_lt kept b.size)
    where
      go : (b : Began bytes run) → Dec (kept < b.size) → kept < run.taken
      go b (yes q) = omega (arith, b.within)
      go b (no q) = absurd (s.begun.not-whole b.event b.size (got-shorter (held_of r) p b.event b.size (omega arith) b.reads))

  -- THE ROOM IS FULL
  module _ (full : length run.lines ≡ room) where
    abbrev size : ℕ
    size = cond (eqb run.taken 0) r.size 0

    abbrev then : Reader
    then = after r run r.held size (cond (ltb n most_events) NotYet AtLast)

    left_over : held_of then ++ drop (run.taken - kept) (p ++ more) ≡ rest ++ more
    left_over = go (dec_eq run.taken 0)
      where
        go : Dec (run.taken ≡ 0) → held_of then ++ drop (run.taken - kept) (p ++ more) ≡ rest ++ more
        go (yes q) =
            let none : run.taken - kept ≡ 0 = omega arith in
            rw (eq-eqb run.taken 0 q, none) (sym (append_assoc (held_of r) p more) ∙ ap (λ m. drop m bytes ++ more) (sym q))
        go (no q) =
            let over = past-held (inl (omega arith)) in
            let sum : kept + (run.taken - kept) ≡ run.taken = omega arith in
            rw (ne_eqb run.taken 0 q)
            (sym (drop-append-add (held_of r) (p ++ more) (run.taken - kept)) ∙ ap (λ m. drop m (held_of r ++ (p ++ more))) sum
            ∙ ap (drop run.taken) (sym (append_assoc (held_of r) p more)) ∙ drop-append-le run.taken bytes more (run_inside room r.state r.number bytes))

    open-end : n < most_events → open? then.end ≡ true
    unfolding open?
    open-end q = rw (lt-ltb n most_events q)

    full-step : Goes r (p ++ more) (is_full r kept run)
    full-step = record { tells = follows ∙ ap (told run.lines run.events) (go (dec_lt n most_events)); sane = sane-then }
      where
        go : Dec (n < most_events) → story_from (most_events - n) run.state n (rest ++ more) ≡ rest_of then (drop (run.taken - kept) (p ++ more))
        go (yes q) = sym (rest-open then (drop (run.taken - kept) (p ++ more)) opened ∙ ap (story_from (most_events - n) run.state n) left_over)
          where
            opened : open? then.end ≡ true
            opened = open-end q
        go (no q) =
            let over = past-held (inr (omega (arith, full, s.going o))) in
            let none : most_events - n ≡ 0 = omega arith in
            let all : drop (run.taken - kept) (p ++ more) ≡ rest ++ more =
            subst (λ b. take (cond b r.size 0) r.held ++ drop (run.taken - kept) (p ++ more) ≡ rest ++ more) (ne_eqb run.taken 0 (λ z. omega arith)) left_over in
            ap (λ m. story_from m run.state n (rest ++ more)) none ∙ story-none run.state n (rest ++ more)
            ∙ ap (λ l. ends_in [] run.state (cond (eqb (length l) 0) AtLast PastLast)) (sym all)
            ∙ sym (rest-closed then (drop (run.taken - kept) (p ++ more)) closed ∙ ended)
          where
            last : then.end ≡ AtLast
            last = rw (le-ltb n most_events (omega arith))

            closed : open? then.end ≡ false
            closed = ap open? last ∙ unfold open? in refl

            ended : ends_in [] run.state (later_end then.end (drop (run.taken - kept) (p ++ more)))
                ≡ ends_in [] run.state (cond (eqb (length (drop (run.taken - kept) (p ++ more))) 0) AtLast PastLast)
            ended = ap (λ e. ends_in [] run.state (later_end e (drop (run.taken - kept) (p ++ more)))) last ∙ unfold later_end in refl

        sane-then : Sane then
        sane-then = record { held = s.held; size = small (dec_eq run.taken 0); begun = still-begun (dec_eq run.taken 0); going = goes (dec_lt n most_events); not-15 = never (dec_lt n most_events) }
          where
            small : Dec (run.taken ≡ 0) → size ≤ 17
            small (yes q) = rw (eq-eqb run.taken 0 q) s.size
            small (no q) = rw (ne_eqb run.taken 0 q) (omega arith)

            still-begun : Dec (run.taken ≡ 0) → Begun (held_of then)
            still-begun (yes q) = rw (eq-eqb run.taken 0 q) s.begun
            still-begun (no q) = rw (ne_eqb run.taken 0 q) begun-none

            goes : Dec (n < most_events) → open? then.end ≡ true → n < most_events
            goes (yes q) e = q
            goes (no q) e = absurd (open-not-last then.end e (rw (le-ltb n most_events (omega arith))))

            never : Dec (n < most_events) → (k : ℕ) → then.end ≡ In15 k → ⊥
            never (yes q) k e = let x : NotYet ≡ In15 k = sym (rw (lt-ltb n most_events q)) ∙ e in let z : ◌≡◌ {A = ℕ} 0 1 = cc in omega arith
            never (no q) k e = let x : AtLast ≡ In15 k = sym (rw (le-ltb n most_events (omega arith))) ∙ e in let z : ◌≡◌ {A = ℕ} 0 1 = cc in omega arith

  -- THERE WAS ROOM FOR MORE
  module _ (roomy : length run.lines < room) where
    below : n < most_events
    below = omega arith

    suc-left : most_events - n ≡ suc (most_events - n - 1)
    suc-left = omega (arith, below)

    taken_is : length bytes - kept ≡ length p
    taken_is = omega (arith, long)

    -- an unknown kind
    strange-step : (k : ℕ) → read_from rest ≡ Err (Unknown k) → Goes r (p ++ more) (meets_stranger r run (length bytes - kept) k)
    unfolding open? later_end
    strange-step k e = record {
      tells =
          follows ∙ ap (told run.lines run.events) (ap (λ m. story_from m run.state n (rest ++ more)) suc-left ∙ stranger)
          ∙ ap (λ ls. record { lines = ls; events = run.events ++ []; state = run.state; end = In16 k }) (sym (append-nil (run.lines ++ line)))
          ∙ ap (told (run.lines ++ line) run.events) (sym (rest-closed then (drop (length bytes - kept) (p ++ more)) refl));
      sane = record {
        held = s.held;
        size = omega arith;
        begun = begun-none;
        going = λ x. absurd (let z : ◌≡◌ {A = ℕ} 0 1 = cc in omega arith);
        not-15 = λ j x. let z : ◌≡◌ {A = ℕ} 0 1 = cc in omega arith;
      };
    }
      where
        line : List Line
        line = stop_line (suc n) k 16 ∷ []

        then : Reader
        then = after r run r.held 0 (In16 k)

        stranger : story_from (suc (most_events - n - 1)) run.state n (rest ++ more) ≡ ends_in line run.state (In16 k)
        stranger = story-strange (most_events - n - 1) run.state n (rest ++ more) k (unknown-longer rest more k e)

    -- the begin of a record
    hold-step : ((k : ℕ) → read_from rest ≡ Err (Unknown k) → ⊥) → Goes r (p ++ more) (holds_on r run rest (length bytes - kept))
    unfolding open?
    hold-step f = record {
      tells = follows ∙ ap (told run.lines run.events) (ap (story_from (most_events - n) run.state n) (sym left_over) ∙ sym (rest-open then (drop (length bytes - kept) (p ++ more)) refl));
      sane = record {
        held = omega (arith, length-append rest (drop (length rest) r.held), length-drop (length rest) r.held, few, s.held);
        size = few;
        begun = subst Begun (sym front) began;
        going = λ x. below;
        not-15 = λ j x. let z : ◌≡◌ {A = ℕ} 0 1 = cc in omega arith;
      };
    }
      where
        then : Reader
        then = after r run (over_front rest r.held) (length rest) NotYet

        began : Begun rest
        began = record { not-whole = run-stops room r.state r.number bytes roomy; no-stranger = f }

        few : length rest ≤ 17
        few = begun-few rest began

        front : held_of then ≡ rest
        front = take-append_seam rest (drop (length rest) r.held)

        left_over : held_of then ++ drop (length bytes - kept) (p ++ more) ≡ rest ++ more
        left_over = ap₂ (λ x m. x ++ drop m (p ++ more)) front taken_is ∙ ap (λ x. rest ++ x) (drop-append_seam p more)

  pub over-step : Goes r (p ++ more) (heard_over r kept bytes words)
  over-step = over_by (Goes r (p ++ more)) r kept bytes words full-step strange-step hold-step

  -- WHERE THERE IS ROOM FOR A LINE something is taken
  over-takes : 0 < length p → 0 < room → 0 < (heard_over r kept bytes words).taken
  over-takes h w =
      over_by (λ x. 0 < x.taken) r kept bytes words (λ q. let k = past-held (inr (omega arith)) in omega arith) (λ q k e. omega (arith, long)) (λ q f. omega (arith, long))

-- an end stays an end, and bytes that come in two pieces are as many as they are
closed-later : (e : Ending) (piece : List ℕ) → open? e ≡ false → open? (later_end e piece) ≡ false
unfolding open? later_end
closed-later NotYet piece h = h
closed-later AtEnd piece h = refl
closed-later (In15 k) piece h = refl
closed-later (In16 k) piece h = refl
closed-later AtLast [] h = refl
closed-later AtLast (b ∷ bs) h = rw (ne_eqb (suc (length bs)) 0 (λ x. omega arith))
closed-later PastLast piece h = refl

later-later : (e : Ending) (piece more : List ℕ) → later_end (later_end e piece) more ≡ later_end e (piece ++ more)
unfolding later_end
later-later NotYet piece more = refl
later-later AtEnd piece more = refl
later-later (In15 k) piece more = refl
later-later (In16 k) piece more = refl
later-later AtLast [] more = refl
later-later AtLast (b ∷ bs) more = rw (ne_eqb (suc (length bs)) 0 (λ x. omega arith), ne_eqb (suc (length (bs ++ more))) 0 (λ x. omega arith))
later-later PastLast piece more = refl

later-not-15 : (e : Ending) (piece : List ℕ) → ((k : ℕ) → e ≡ In15 k → ⊥) → (k : ℕ) → later_end e piece ≡ In15 k → ⊥
unfolding later_end
later-not-15 NotYet piece f k q = let z : ◌≡◌ {A = ℕ} 0 1 = cc in omega arith
later-not-15 AtEnd piece f k q = let z : ◌≡◌ {A = ℕ} 0 1 = cc in omega arith
later-not-15 (In15 j) piece f k q = f k q
later-not-15 (In16 j) piece f k q = let z : ◌≡◌ {A = ℕ} 0 1 = cc in omega arith
later-not-15 AtLast [] f k q = let z : ◌≡◌ {A = ℕ} 0 1 = cc in omega arith
later-not-15 AtLast (b ∷ bs) f k q =
    let y : PastLast ≡ In15 k = ap (λ t. cond t AtLast PastLast) (sym (ne_eqb (suc (length bs)) 0 (λ x. omega arith))) ∙ q in
    let z : ◌≡◌ {A = ℕ} 0 1 = cc in omega arith
later-not-15 PastLast piece f k q = let z : ◌≡◌ {A = ℕ} 0 1 = cc in omega arith

no_length : (l : List ℕ) → length l ≡ 0 → l ≡ []
no_length [] h = refl
no_length (x ∷ l) h = absurd (omega arith)

-- the held bytes and so much of a piece are the window, and the rest of the piece follows it
module _ (r : Reader) (s : Sane r) (piece : List ℕ) where
  abbrev front : List ℕ
  front = take (18 - length (held_of r)) piece

  window : held_of r ++ front ≡ take 18 (held_of r ++ piece)
  window =
      let few = begun-few (held_of r) s.begun in
      let sum : length (held_of r) + (18 - length (held_of r)) ≡ 18 = omega arith in
      sym (take-append-add (held_of r) piece (18 - length (held_of r))) ∙ ap (λ m. take m (held_of r ++ piece)) sum

  behind-front : (more : List ℕ) → front ++ (drop (18 - length (held_of r)) piece ++ more) ≡ piece ++ more
  behind-front more = sym (append_assoc front (drop (18 - length (held_of r)) piece) more) ∙ ap (λ l. l ++ more) (take-append-drop (18 - length (held_of r)) piece)

pub heard-goes : (r : Reader) → Sane r → (piece more : List ℕ) (words : ℕ) → Goes r (piece ++ more) (heard r piece words)
heard-goes r s piece more words = heard-by (Goes r (piece ++ more)) r piece words by_itself in-the-window closed
  where
    by_itself : open? r.end ≡ true → length (held_of r) ≡ 0 → Goes r (piece ++ more) (heard_over r 0 piece words)
    by_itself o q = subst (λ l. Goes r (piece ++ more) (heard_over r (length l) (l ++ piece) words)) (no_length (held_of r) q) (over-step r s o piece more words)

    in-the-window : open? r.end ≡ true → (length (held_of r) ≡ 0 → ⊥) → Goes r (piece ++ more) (heard_over r (length (held_of r)) (take 18 (held_of r ++ piece)) (min words 6))
    in-the-window o q =
        subst (λ l. Goes r (piece ++ more) (heard_over r (length (held_of r)) l (min words 6))) (window r s piece)
        (subst (λ l. Goes r l (heard_over r (length (held_of r)) (held_of r ++ front r s piece) (min words 6))) (behind-front r s piece more)
        (over-step r s o (front r s piece) (drop (18 - length (held_of r)) piece ++ more) (min words 6)))

    closed : open? r.end ≡ false → Goes r (piece ++ more) (passed_over r piece (later_end r.end piece))
    closed e = record {
      tells =
          let then : Reader = (passed_over r piece (later_end r.end piece)).reader in
          rest-closed r (piece ++ more) e
          ∙ ap (ends_in [] r.state) (sym (later-later r.end piece more))
          ∙ ap (λ l. ends_in [] r.state (later_end (later_end r.end piece) l)) (sym (drop-append_seam piece more))
          ∙ sym (rest-closed then (drop (length piece) (piece ++ more)) (closed-later r.end piece e));
      sane = record {
        held = s.held;
        size = s.size;
        begun = s.begun;
        going = λ x. absurd (let y : true ≡ false = sym x ∙ closed-later r.end piece e in let z : ◌≡◌ {A = ℕ} 0 1 = cc in omega arith);
        not-15 = later-not-15 r.end piece s.not-15;
      };
    }

-- AT THE END OF THE INPUT
later-none : (e : Ending) → later_end e [] ≡ e
unfolding later_end
later-none NotYet = refl
later-none AtEnd = refl
later-none (In15 k) = refl
later-none (In16 k) = refl
later-none AtLast = refl
later-none PastLast = refl

no_line : (n : ℕ) (e : Ending) → ((k : ℕ) → e ≡ In15 k → ⊥) → last_lines n e ≡ []
unfolding last_lines
no_line n NotYet f = refl
no_line n AtEnd f = refl
no_line n (In15 k) f = absurd (f k refl)
no_line n (In16 k) f = refl
no_line n AtLast f = refl
no_line n PastLast f = refl

-- what is told behind the last piece
abbrev pub closing : Reader → Story
closing r = ends_in (last_lines r.number (end_of r)) r.state (end_of r)

pub closed-tells : (r : Reader) → Sane r → rest_of r [] ≡ closing r
closed-tells r s = go (open? r.end) refl
  where
    closed : open? r.end ≡ false → rest_of r [] ≡ closing r
    closed e =
        rest-closed r [] e ∙ ap (ends_in [] r.state) (later-none r.end)
        ∙ ap (λ ls. ends_in ls r.state r.end) (sym (no_line r.number r.end s.not-15))
        ∙ ap (λ x. ends_in (last_lines r.number x) r.state x) (sym (end-closed r e))

    left : open? r.end ≡ true → most_events - r.number ≡ suc (most_events - r.number - 1)
    left o = omega (arith, s.going o)

    ends : (o : open? r.end ≡ true) (x : Reading) → read_from (held_of r) ≡ x
        → story_from (suc (most_events - r.number - 1)) r.state r.number (held_of r) ≡ ends_in (last_lines r.number (end_in x)) r.state (end_in x)
    ends o (Ok None) e = story-end (most_events - r.number - 1) r.state r.number (held_of r) e ∙ nothing
      where
        nothing : ends_in [] r.state AtEnd ≡ ends_in (last_lines r.number (end_in (Ok None))) r.state (end_in (Ok None))
        nothing = unfold last_lines end_in in refl
    ends o (Err (CutShort k)) e = story-cut (most_events - r.number - 1) r.state r.number (held_of r) k e ∙ its-line
      where
        its-line : ends_in (stop_line (suc r.number) k 15 ∷ []) r.state (In15 k) ≡ ends_in (last_lines r.number (end_in (Err (CutShort k)))) r.state (end_in (Err (CutShort k)))
        its-line = unfold last_lines end_in in refl
    ends o (Ok (Some (v, n))) e = absurd (s.begun.not-whole v n e)
    ends o (Err (Unknown k)) e = absurd (s.begun.no-stranger k e)

    go : (b : Bool) → open? r.end ≡ b → rest_of r [] ≡ closing r
    go false e = closed e
    go true o =
        rest-open r [] o ∙ ap (λ m. story_from m r.state r.number (held_of r ++ [])) (left o)
        ∙ ap (story_from (suc (most_events - r.number - 1)) r.state r.number) (append-nil (held_of r))
        ∙ ends o (read_from (held_of r)) refl
        ∙ ap (λ x. ends_in (last_lines r.number x) r.state x) (sym (end-open r o))

-- A WAY TO READ: a piece of what is left, with any room, until no byte is left; the lines and events told on the way, and the reader at its end
pub data Reads : Reader → List ℕ → List Line → List Event → Reader → Type 0 where
  done : (r : Reader) → Reads r [] [] [] r
  feed : (r : Reader) (p more : List ℕ) (words : ℕ) {ls : List Line} {vs : List Event} {last : Reader}
      → Reads (heard r p words).reader (drop (heard r p words).taken (p ++ more)) ls vs last → Reads r (p ++ more) ((heard r p words).lines ++ ls) ((heard r p words).events ++ vs) last

told-told : (ks ls : List Line) (us vs : List Event) (s : Story) → told ks us (told ls vs s) ≡ told (ks ++ ls) (us ++ vs) s
told-told ks ls us vs s =
    λ i. record { lines = sym (append_assoc ks ls s.lines) i; events = sym (append_assoc us vs s.events) i; state = s.state; end = s.end }

pub reads-tell : {r last : Reader} {bytes : List ℕ} {ls : List Line} {vs : List Event} → Sane r → Reads r bytes ls vs last
    → (rest_of r bytes ≡ told ls vs (rest_of last [])) × Sane last
reads-tell s (done r) = (refl, s)
reads-tell s (feed r p more words {ls} {vs} {last} next) =
    let h : Heard = heard r p words in
    let g = heard-goes r s p more words in
    let below = reads-tell g.sane next in (
      g.tells ∙ ap (told h.lines h.events) below.0
          ∙ told-told h.lines ls h.events vs (rest_of last []),
      below.1,
    )

pub first-sane : Sane first_reader
unfolding first_reader open?
first-sane = record {
  held = refl;
  size = omega arith;
  begun = begun-none;
  going = λ x. omega arith;
  not-15 = λ k x. let z : ◌≡◌ {A = ℕ} 0 1 = cc in omega arith;
}

first_rest : (bytes : List ℕ) → rest_of first_reader bytes ≡ story bytes
unfolding rest_of first_reader open? story
first_rest bytes = refl

-- THE THEOREM: however the recording comes, its lines, its events, its last state and its end are those of the whole
pub reads_whole : {last : Reader} {bytes : List ℕ} {ls : List Line} {vs : List Event} → Reads first_reader bytes ls vs last → story bytes ≡ told ls vs (closing last)
reads_whole {last} {bytes} {ls} {vs} w =
    let x = reads-tell first-sane w in
    sym (first_rest bytes) ∙ x.0 ∙ ap (told ls vs) (closed-tells last x.1)

-- PROGRESS: where there is room for a line, something is taken of a piece that has a byte
pub heard-takes : (r : Reader) → Sane r → (piece : List ℕ) (words : ℕ) → 0 < length piece → 6 ≤ words → 0 < (heard r piece words).taken
heard-takes r s piece words h w =
    heard-by (λ x. 0 < x.taken) r piece words
    (λ o q. subst (λ l. 0 < (heard_over r (length l) (l ++ piece) words).taken) (no_length (held_of r) q) (over-takes r s o piece [] words h (omega (arith, s.going o))))
    (λ o q.
    let few = begun-few (held_of r) s.begun in
    subst (λ l. 0 < (heard_over r (length (held_of r)) l (min words 6)).taken) (window r s piece)
    (over-takes r s o (front r s piece) [] (min words 6) (omega (arith, length-take (18 - length (held_of r)) piece)) (omega (arith, s.going o))))
    (λ c. h)

-- and so however the reader has come there
pub reads-takes : {last : Reader} {bytes : List ℕ} {ls : List Line} {vs : List Event} → Reads first_reader bytes ls vs last
    → (piece : List ℕ) (words : ℕ) → 0 < length piece → 6 ≤ words → 0 < (heard last piece words).taken
reads-takes {last} w piece words h k = heard-takes last (reads-tell first-sane w).1 piece words h k
