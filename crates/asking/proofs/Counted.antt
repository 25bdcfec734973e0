-- How many bytes a reader takes: no more than come; how many events: as many as it has told, and fewer than may be where a recording ends in 15 or 16. Assumes nothing.
use Prim.Native.Nat.{ℕ, zero, suc, ◌+◌, ◌-◌, ◌≤◌, ◌<◌, min}
use mathlib.Core.Path.{◌≡◌, refl, sym, ap, ◌∙◌, subst}
use mathlib.Core.Bool.{Bool, true, false, cond}
use mathlib.Core.List.{List, [], ◌∷◌, ◌++◌}
use native.Mathlib.Omega.{arith}
use lib.Dec.{ltb, eqb}
use lib.ListN.{length, take, drop, length-append, length-take}
use Rattle.steps.specs.declared.State.{State}
use Rattle.events.specs.declared.Event.{Event}
use Rattle.std.specs.Prelude.{Ok, Err, Some, None}
use Rattle.events.specs.Records.{Reading, read_from}
use Rattle.events.specs.declared.ReadError.TheVariants.{CutShort, Unknown}
use Rattle.session.specs.declared.Ending.{Ending}
use Rattle.session.specs.declared.Ending.TheVariants.{NotYet, AtEnd, In15, In16, AtLast, PastLast}
use Rattle.session.specs.Recording.{Line, Story, outcome, story_from, story, Run, ran_from, room_for, most_events, first_state}
use Rattle.session.proofs.Running.{ran-got}
use Rattle.session.proofs.Recorded.{run_inside, story-got, story-cut, story-strange, story-end}
use Rattle.reader.specs.declared.Reader.{Reader}
use Rattle.reader.specs.Reader.{held_of, Heard, after, stops_before, heard_over, goes_on_with, passed_over, later_end, open?, heard}
use Rattle.reader.proofs.Cuts.{Reads, done, feed}
use Rattle.asking.specs.Asking.{end_text}
use Rattle.asking.specs.Machine.{next_event}

-- A RUN has a line for each event
run-events : (room : ℕ) (s : State) (n : ℕ) (bytes : List ℕ) → length (ran_from room s n bytes).lines ≡ length (ran_from room s n bytes).events
unfolding ran_from
run-events zero s n bytes = refl
run-events (suc room) s n bytes = go (λ c m ws. run-events room c m ws) (read_from bytes) refl
  where
    Same : Run → Type 0
    Same x = length x.lines ≡ length x.events

    go : ((c : State) (m : ℕ) (ws : List ℕ) → Same (ran_from room c m ws)) → (r : Reading) → read_from bytes ≡ r → Same (ran_from (suc room) s n bytes)
    go next (Ok None) e = rw (e, ran_from)
    go next (Err (CutShort k)) e = rw (e, ran_from)
    go next (Err (Unknown k)) e = rw (e, ran_from)
    go next (Ok (Some (v, size))) e = subst Same (sym (ran-got room s n bytes v size e)) (ap suc (next (outcome s v).state (suc n) (drop size bytes)))

-- A PIECE: so many events more
module _ (r : Reader) where
  abbrev Counts : Heard → Type 0
  Counts h = h.reader.number ≡ r.number + length h.events

  over-counts : (kept : ℕ) (bytes : List ℕ) (words : ℕ) → Counts (heard_over r kept bytes words)
  unfolding heard_over
  over-counts kept bytes words = go (ltb (length run.lines) (room_for words r.number))
    where
      run : Run
      run = ran_from (room_for words r.number) r.state r.number bytes

      same : r.number + length run.lines ≡ r.number + length run.events
      same = ap (λ n. r.number + n) (run-events (room_for words r.number) r.state r.number bytes)

      stops : (x : Reading) → Counts (stops_before r run (drop run.taken bytes) (length bytes - kept) x)
      stops (Ok x) = unfold stops_before in same
      stops (Err (CutShort k)) = unfold stops_before in same
      stops (Err (Unknown k)) = unfold stops_before in same

      go : (t : Bool) → Counts (cond t (stops_before r run (drop run.taken bytes) (length bytes - kept) (read_from (drop run.taken bytes)))
          record {
            lines = run.lines;
            events = run.events;
            reader = after r run r.held (cond (eqb run.taken 0) r.size 0) (cond (ltb (r.number + length run.lines) most_events) NotYet AtLast);
            taken = run.taken - kept;
          })
      go true = stops (read_from (drop run.taken bytes))
      go false = same

  heard-counts : (piece : List ℕ) (words : ℕ) → Counts (heard r piece words)
  unfolding heard goes_on_with
  heard-counts piece words = go (open? r.end) (eqb (length (held_of r)) 0)
    where
      go : (t u : Bool)
          → Counts (cond t (cond u (heard_over r 0 piece words) (heard_over r (length (held_of r)) (take 18 (held_of r ++ piece)) (min words 6))) (passed_over r piece (later_end r.end piece)))
      go true true = over-counts 0 piece words
      go true false = over-counts (length (held_of r)) (take 18 (held_of r ++ piece)) (min words 6)
      go false u = let z : r.number ≡ r.number + 0 = omega arith in z

  -- NO MORE IS TAKEN than comes
  over-inside : (kept : ℕ) (bytes : List ℕ) (words : ℕ) → (heard_over r kept bytes words).taken ≤ length bytes - kept
  unfolding heard_over
  over-inside kept bytes words = go (ltb (length run.lines) (room_for words r.number))
    where
      run : Run
      run = ran_from (room_for words r.number) r.state r.number bytes

      stops : (x : Reading) → (stops_before r run (drop run.taken bytes) (length bytes - kept) x).taken ≤ length bytes - kept
      stops (Ok x) = unfold stops_before in omega arith
      stops (Err (CutShort k)) = unfold stops_before in omega arith
      stops (Err (Unknown k)) = unfold stops_before in omega arith

      go : (t : Bool) → (cond t (stops_before r run (drop run.taken bytes) (length bytes - kept) (read_from (drop run.taken bytes)))
          record {
            lines = run.lines;
            events = run.events;
            reader = after r run r.held (cond (eqb run.taken 0) r.size 0) (cond (ltb (r.number + length run.lines) most_events) NotYet AtLast);
            taken = run.taken - kept;
          }).taken ≤ length bytes - kept
      go true = stops (read_from (drop run.taken bytes))
      go false = omega (arith, run_inside (room_for words r.number) r.state r.number bytes)

  pub heard-inside : (piece : List ℕ) (words : ℕ) → (heard r piece words).taken ≤ length piece
  unfolding heard goes_on_with
  heard-inside piece words = go (open? r.end) (eqb (length (held_of r)) 0)
    where
      go : (t u : Bool)
          → (cond t (cond u (heard_over r 0 piece words) (heard_over r (length (held_of r)) (take 18 (held_of r ++ piece)) (min words 6))) (passed_over r piece (later_end r.end piece))).taken
          ≤ length piece
      go true true = let h = over-inside 0 piece words in omega arith
      go true false =
          omega (arith, over-inside (length (held_of r)) (take 18 (held_of r ++ piece)) (min words 6), length-take 18 (held_of r ++ piece), length-append (held_of r) piece)
      go false u = omega arith

-- A WAY TO READ: the events told on the way
pub reads-count : {r last : Reader} {bytes : List ℕ} {ls : List Line} {vs : List Event} → Reads r bytes ls vs last → last.number ≡ r.number + length vs
reads-count (done r) = let z : r.number ≡ r.number + 0 = omega arith in z
reads-count (feed r p more words {ls} {vs} {last} next) =
    let h = heard-counts r p words in
    let below = reads-count next in
    omega (arith, length-append (heard r p words).events vs)

-- A RECORDING that does not end for the number of its events has fewer than may be
story-few : (left : ℕ) (s : State) (n : ℕ) (bytes : List ℕ) → ((story_from left s n bytes).end ≡ AtLast → ⊥) → ((story_from left s n bytes).end ≡ PastLast → ⊥)
    → length (story_from left s n bytes).events < left
unfolding story_from
story-few zero s n [] f g = absurd (f refl)
story-few zero s n (b ∷ bytes) f g = absurd (g refl)
story-few (suc left) s n bytes f g = go (λ c m ws. story-few left c m ws) (read_from bytes) refl
  where
    Few : ℕ → Story → Type 0
    Few most x = (x.end ≡ AtLast → ⊥) → (x.end ≡ PastLast → ⊥) → length x.events < most

    go : ((c : State) (m : ℕ) (ws : List ℕ) → Few left (story_from left c m ws)) → (r : Reading) → read_from bytes ≡ r → length (story_from (suc left) s n bytes).events < suc left
    go next (Ok None) e = subst (λ (x : Story). length x.events < suc left) (sym (story-end left s n bytes e)) (omega arith)
    go next (Err (CutShort k)) e = subst (λ (x : Story). length x.events < suc left) (sym (story-cut left s n bytes k e)) (omega arith)
    go next (Err (Unknown k)) e = subst (λ (x : Story). length x.events < suc left) (sym (story-strange left s n bytes k e)) (omega arith)
    go next (Ok (Some (v, size))) e =
        let q = story-got left s n bytes v size e in
        let h = next (outcome s v).state (suc n) (drop size bytes) (λ x. f (ap (λ (y : Story). y.end) q ∙ x)) (λ x. g (ap (λ (y : Story). y.end) q ∙ x)) in
        subst (λ (x : Story). length x.events < suc left) (sym q) (omega arith)

-- THE MESSAGE names the event behind those that were read
pub names-event : (bytes : List ℕ) {n : ℕ} {end : Ending} → n ≡ length (story bytes).events → end ≡ (story bytes).end → end_text (next_event n) end ≡ end_text (suc n) end
names-event bytes {n} {end} c e = go end e
  where
    inside : ((story bytes).end ≡ AtLast → ⊥) → ((story bytes).end ≡ PastLast → ⊥) → next_event n ≡ suc n
    inside f g =
        let h : length (story bytes).events < most_events = few f g in
        let z : min (suc n) most_events ≡ suc n = omega arith in z
      where
        few : ((story bytes).end ≡ AtLast → ⊥) → ((story bytes).end ≡ PastLast → ⊥) → length (story bytes).events < most_events
        few = unfold story in story-few most_events first_state 0 bytes

    go : (x : Ending) → x ≡ (story bytes).end → end_text (next_event n) x ≡ end_text (suc n) x
    go NotYet q = unfold end_text in refl
    go AtEnd q = unfold end_text in refl
    go (In15 k) q = ap (λ m. end_text m (In15 k)) (inside (λ y. let z : ◌≡◌ {A = ℕ} 0 1 = cc in omega arith) (λ y. let z : ◌≡◌ {A = ℕ} 0 1 = cc in omega arith))
    go (In16 k) q = ap (λ m. end_text m (In16 k)) (inside (λ y. let z : ◌≡◌ {A = ℕ} 0 1 = cc in omega arith) (λ y. let z : ◌≡◌ {A = ℕ} 0 1 = cc in omega arith))
    go AtLast q = unfold end_text in refl
    go PastLast q = unfold end_text in refl
