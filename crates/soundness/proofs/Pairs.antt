-- The pair test: counting equal ids is testing that all differ, and what the table says of two tasks is what the tasks say. Assumes nothing.
use Prim.Native.Nat.{ℕ, ◌+◌, ◌-◌, ◌≤◌, ◌<◌}
use mathlib.Core.Path.{◌≡◌, refl, sym, ap, ap₂, ◌∙◌, subst}
use mathlib.Core.Bool.{Bool, true, false, not, cond, true≢false, ◌&&◌}
use mathlib.Core.List.{List}
use native.Mathlib.Omega.{arith}
use native.Mathlib.Decide.{dec_lt, ℕ_discrete as dec_eq}
use lib.Dec.{T, leb, eqb, eqb→eq, eqb_refl, not_T, T_not}
use lib.ListN.{length, get_or}
use borrow.Author.Tests.{eq-eqb, ne_eqb}
use Rattle.lists.specs.Lists.{all?, pairwise?, range}
use Rattle.lists.proofs.Bools.{and_l, and_r, and_i, same_bool, is_true}
use Rattle.lists.proofs.Members.{get_or-in, all_pass}
use Rattle.lists.proofs.Order.{Sorted, sorted-at, at-sorted, range-pairs, pairs-range}
use Rattle.lists.proofs.Append.{and-true, all-range-more, range-first}
use Rattle.tasks.specs.declared.Device.{Device}
use Rattle.tasks.specs.declared.Task.{Task}
use Rattle.tasks.specs.Numbers.{device_fits, last_instant}
use Rattle.tasks.specs.Tasks.{meets, live, free_slot}
use Rattle.tasks.proofs.Laws.{columns-fit, meets-share, share-meets}
use Rattle.slots.specs.Slots.{live_in, slot_sound, together, sound}
use Rattle.slots.proofs.Soundness.{SoundTask, task-out, Together, together-sym, pairs-in, pairs-out}
use Rattle.live.specs.Live.{id_at, slot_at, task_at, OnDevice}
use Rattle.live.specs.Kept.{Stands, Kept}
use Rattle.live.proofs.Planned.{entry-id, entry-task, entries-device}
use Rattle.live.proofs.Standing.{exchanged-stands}
use Rattle.std.proofs.Common.{Result, Ok, Err, IsErrAnd}
use Rattle.survey.specs.declared.Findings.{Findings}
use Rattle.survey.specs.Survey.{Surveyed}
use Rattle.sorting.specs.Sorting.{Sorted as InOrder}
use Rattle.soundness.specs.Tested.{Judged, Tested}

-- the tasks from i + 1 up to j that clash are counted
pub record CountedTo (clash : ℕ → Bool) (i n hits j : ℕ) : Type 0 where
  pub from : i + 1 ≤ j
  pub upto : j ≤ n
  pub few : hits + (i + 1) ≤ j
  pub none : eqb hits 0 ≡ all? (λ k. not (clash k)) (range (i + 1) (j - (i + 1)))

pub count_none : (clash : ℕ → Bool) (i n : ℕ) → i < n → CountedTo clash i n 0 (i + 1)
count_none clash i n h =
    let z : i + 1 - (i + 1) ≡ 0 = omega arith in
    record { from = omega arith; upto = omega arith; few = omega arith; none = rw z (unfold all? range in refl) }

pub count-one : {clash : ℕ → Bool} {i n hits j : ℕ} → CountedTo clash i n hits j → j < n → {h : ℕ} → h ≡ cond (clash j) 1 0 → CountedTo clash i n (hits + h) (j + 1)
count-one {clash} {i} {n} {hits} {j} k l {h} e = record {
  from = omega (arith, k.from);
  upto = omega arith;
  few = few (clash j) e;
  none = step (clash j) e ∙ ap (λ b. b && not (clash j)) k.none ∙ sym more;
}
  where
    few : (b : Bool) → h ≡ cond b 1 0 → hits + h + (i + 1) ≤ j + 1
    few true z = omega (arith, k.few)
    few false z = omega (arith, k.few)

    m : ℕ
    m = j - (i + 1)

    more : all? (λ v. not (clash v)) (range (i + 1) (j + 1 - (i + 1))) ≡ (all? (λ v. not (clash v)) (range (i + 1) m) && not (clash j))
    more =
        let x : j + 1 - (i + 1) ≡ m + 1 = omega (arith, k.from) in
        let y : i + 1 + m ≡ j = omega (arith, k.from) in
        rw x (all-range-more (λ v. not (clash v)) (i + 1) m ∙ ap (λ v. all? (λ u. not (clash u)) (range (i + 1) m) && not (clash v)) y)

    step : (b : Bool) → h ≡ cond b 1 0 → eqb (hits + h) 0 ≡ (eqb hits 0 && not b)
    step true z =
        same_bool (eqb (hits + h) 0) (eqb hits 0 && false) (λ t. absurd (let a = eqb→eq (hits + h) 0 t in omega arith)) (λ t. absurd (and_r (eqb hits 0) false t))
    step false z = let a : hits + h ≡ hits = omega arith in rw a (sym (and-true (eqb hits 0)))

-- the pairs of the numbers from i on: those of i with the later ones, and the rest
pairs_first : (p : ℕ → ℕ → Bool) (i n : ℕ) → i < n → pairwise? p (range i (n - i)) ≡ (all? (p i) (range (i + 1) (n - (i + 1))) && pairwise? p (range (i + 1) (n - (i + 1))))
unfolding pairwise?
pairs_first p i n h = ap (pairwise? p) (range-first i n h)

-- r hits of i were counted: none, and the rest decides; some, and that decides; all are passed
pub pairs-on : (p : ℕ → ℕ → Bool) (i n r : ℕ) → i < n → eqb r 0 ≡ all? (p i) (range (i + 1) (n - (i + 1))) → r ≡ 0
    → pairwise? p (range i (n - i)) ≡ pairwise? p (range (i + 1) (n - (i + 1)))
pairs-on p i n r h e z = pairs_first p i n h ∙ ap (λ b. b && pairwise? p (range (i + 1) (n - (i + 1)))) (sym e ∙ eq-eqb r 0 z)

pub pairs-off : (p : ℕ → ℕ → Bool) (i n r : ℕ) → i < n → eqb r 0 ≡ all? (p i) (range (i + 1) (n - (i + 1))) → 0 < r → pairwise? p (range i (n - i)) ≡ false
pairs-off p i n r h e z = pairs_first p i n h ∙ ap (λ b. b && pairwise? p (range (i + 1) (n - (i + 1)))) (sym e ∙ ne_eqb r 0 (λ q. omega arith))

pub pairs_end : (p : ℕ → ℕ → Bool) (i n : ℕ) → n ≤ i → pairwise? p (range i (n - i)) ≡ true
pairs_end p i n h = let z : n - i ≡ 0 = omega arith in rw z (unfold pairwise? range in refl)

module _ (D : Device) (now : ℕ) (ks : List Task) (n : ℕ) (rows : List ℕ) (o : Stands 64 ks n rows) (good : T (all? (slot_sound D now) ks)) where
  -- the task of place i
  abbrev task : ℕ → Task
  task i = get_or ks (slot_at rows i) free_slot

  each : (i : ℕ) → i < n → SoundTask D now (task i)
  unfolding slot_sound
  each i h =
      let e = o.each i h in
      let m = get_or-in ks (slot_at rows i) free_slot (omega (arith, o.slots, e.inside)) in
      task-out D now (task i) e.there (rw (is_true (live (task i)) e.there) at (all_pass (slot_sound D now) ks good m))

  -- ON THE WIDEST DEVICE
  pub on-widest : D.columns ≤ 256 → OnDevice 256 n rows
  on-widest w =
      let d = entries-device w o each in
      record {
        wide = omega arith;
        few = d.few;
        from = d.from;
        columns = d.columns;
        past = λ i h. omega (arith, d.past i h);
        ticks = d.ticks;
        until = d.until;
      }

  -- two places meet exactly if their tasks do
  meet-same : (i j : ℕ) → i < n → j < n → meets (task_at rows i) (task_at rows j) ≡ meets (task i) (task j)
  unfolding meets
  meet-same i j g h = ap₂ meets (entry-task (o.each i g)) (entry-task (o.each j h))

  -- two slots, whichever stands first
  both : Sorted Together (live_in ks) → (s t : ℕ) → s < 64 → t < 64 → (s ≡ t → ⊥)
      → T (live (get_or ks s free_slot)) → T (live (get_or ks t free_slot)) → Together (get_or ks s free_slot) (get_or ks t free_slot)
  both p s t a b e u v = go (dec_lt s t)
    where
      go : Dec (s < t) → Together (get_or ks s free_slot) (get_or ks t free_slot)
      go (yes l) = sorted-at Together live ks free_slot p s t l (omega (arith, o.slots)) u v
      go (no l) = together-sym (get_or ks t free_slot) (get_or ks s free_slot) (sorted-at Together live ks free_slot p t s (omega arith) (omega (arith, o.slots)) v u)

  -- THE TESTS OVER THE TABLE ARE THE BOOK'S
  pub pairs-same : {differ apart : Bool} → differ ≡ pairwise? (λ i j. not (eqb (id_at rows i) (id_at rows j))) (range 0 n) → Judged n rows apart
      → (differ && apart) ≡ pairwise? together (live_in ks)
  pairs-same {differ} {apart} d q = same_bool (differ && apart) (pairwise? together (live_in ks)) to back
    where
      back : T (pairwise? together (live_in ks)) → T (differ && apart)
      back t = and_i differ apart (rw d (range-pairs (λ i j. not (eqb (id_at rows i) (id_at rows j))) 0 n ids)) (none apart q)
        where
          two : (i j : ℕ) → i < j → j < n → Together (task i) (task j)
          two i j l h =
              let a = o.each i (omega arith) in
              let b = o.each j h in
              both (pairs-out (live_in ks) t) (slot_at rows i) (slot_at rows j) a.inside b.inside (o.once i j l h) a.there b.there

          ids : (i j : ℕ) → 0 ≤ i → i < j → j < 0 + n → T (not (eqb (id_at rows i) (id_at rows j)))
          ids i j h l m =
              let a = entry-id (o.each i (omega arith)) in
              let b = entry-id (o.each j (omega arith)) in
              not_T (eqb (id_at rows i) (id_at rows j)) (λ e. (two i j l (omega arith)).ids (sym a ∙ eqb→eq (id_at rows i) (id_at rows j) e ∙ b))

          none : (b : Bool) → Judged n rows b → T b
          none true j = tt
          none false j =
              let m = j.meeting refl in
              let e : meets (task m.one) (task m.other) ≡ true = sym (meet-same m.one m.other (omega (arith, m.order, m.inside)) m.inside) ∙ m.meet in
              absurd ((two m.one m.other m.order m.inside).apart (meets-share (task m.one) (task m.other) (rw e tt)))

      to : T (differ && apart) → T (pairwise? together (live_in ks))
      to t = pairs-in (at-sorted Together live ks free_slot (λ s r l h u v. two s r l (omega (arith, o.slots)) (o.every s (omega (arith, o.slots)) u) (o.every r (omega (arith, o.slots)) v)))
        where
          free : (i j : ℕ) → i < j → j < n → Together (task i) (task j)
          free i j l h = record {
            ids = λ e.
                T_not (eqb (id_at rows i) (id_at rows j))
                (pairs-range (λ i j. not (eqb (id_at rows i) (id_at rows j))) 0 n (subst T d (and_l differ apart t)) i j (omega arith) l (omega arith))
                (rw (entry-id (o.each i (omega arith)), e, ← entry-id (o.each j h)) (eqb_refl (id_at rows j)));
            apart = λ s.
                true≢false
                (sym (is_true (meets (task i) (task j)) (share-meets (task i) (task j) s))
                ∙ sym (meet-same i j (omega arith) h) ∙ q.apart (is_true apart (and_r differ apart t)) i j l h);
          }

          two : (s r : ℕ) → s < r → r < 64 → (i : ℕ) × (i < n) × (slot_at rows i ≡ s) → (j : ℕ) × (j < n) × (slot_at rows j ≡ r)
              → Together (get_or ks s free_slot) (get_or ks r free_slot)
          two s r l h p q =
              let here = go (dec_lt p.0 q.0) (dec_eq p.0 q.0) in
              subst (λ a. Together (get_or ks a free_slot) (get_or ks r free_slot)) p.2 (subst (λ b. Together (task p.0) (get_or ks b free_slot)) q.2 here)
            where
              go : Dec (p.0 < q.0) → Dec (p.0 ≡ q.0) → Together (task p.0) (task q.0)
              go (yes z) d = free p.0 q.0 z q.1
              go (no z) (yes d) = absurd (omega (arith, p.2, q.2, ap (slot_at rows) d))
              go (no z) (no d) = together-sym (task q.0) (task p.0) (free q.0 p.0 (omega arith) p.1)

-- NOT SOUND: a slot by itself, the device or the clock
module _ (D : Device) (now : ℕ) (ks : List Task) (raw : List ℕ) where
  fails : (a s p : Bool) → (a && s) ≡ false → (a && true && s && p) ≡ false
  fails true true p q = absurd (subst T q tt)
  fails true false p q = refl
  fails false s p q = refl

  pub tested-slots : (v : Findings) → Surveyed D now ks raw (Err v) → {rows : List ℕ} → length rows ≡ 384 → Tested D now ks rows (Err v)
  unfolding sound
  tested-slots v o z = record {
    size = z;
    slots = o.slots;
    sound = sym (rw (o.slots, ← o.sound) (fails (device_fits D && leb now last_instant) false _ (and-false (device_fits D && leb now last_instant))));
    few = o.few;
    used = o.used;
    kept = λ v q. cc;
  }
    where
      and-false : (a : Bool) → (a && false) ≡ false
      and-false true = refl
      and-false false = refl

  -- and what `?` hands on of that
  pub tested-err : {v : Findings} → Surveyed D now ks raw (Err v) → {rows : List ℕ} → length rows ≡ 384
      → (r : Result Findings Findings) → IsErrAnd r (λ w. w ≡ v) → Tested D now ks rows r
  tested-err o z (Ok w) e = elim e [ ]
  tested-err {v} o z (Err w) e = rw e (tested-slots v o z)

  module _ (v : Findings) (o : Surveyed D now ks raw (Ok v)) where
    pub tested-off : (device_fits D && leb now last_instant) ≡ false → {rows : List ℕ} → length rows ≡ 384 → Tested D now ks rows (Err v)
    unfolding sound
    tested-off e z = record {
      size = z;
      slots = o.slots;
      sound = sym (rw (o.slots, ← o.sound) (fails (device_fits D && leb now last_instant) true _ (and-true (device_fits D && leb now last_instant) ∙ e)));
      few = o.few;
      used = o.used;
      kept = λ v q. cc;
    }

    -- where neither fails, the table sorted stands for the slots
    module _ (e : (device_fits D && leb now last_instant) ≡ true) {rows : List ℕ} (s : InOrder v.count raw rows) where
      fits : T (device_fits D && leb now last_instant)
      fits = rw e tt

      good : T (all? (slot_sound D now) ks)
      good = rw (← o.sound) tt

      stands : Stands 64 ks v.count rows
      stands = exchanged-stands (o.stands v refl) s.exchanged

      pub sorted-device : OnDevice 256 v.count rows
      sorted-device =
          on-widest D now ks v.count rows stands good
          (columns-fit D (and_l (device_fits D) (leb now last_instant) fits))

      -- and the pairs decide
      module _ {differ apart : Bool} (d : differ ≡ pairwise? (λ i j. not (eqb (id_at rows i) (id_at rows j))) (range 0 v.count)) (q : Judged v.count rows apart) where
        found : (differ && apart) ≡ sound D now ks
        unfolding sound
        found =
            rw (is_true (device_fits D && leb now last_instant) fits, o.slots, is_true (all? (slot_sound D now) ks) good)
            (pairs-same D now ks v.count rows stands good d q)

        pub tested-sound : (differ && apart) ≡ true → Tested D now ks rows (Ok v)
        tested-sound z = record {
          size = s.size;
          slots = o.slots;
          few = o.few;
          used = o.used;
          sound = sym z ∙ found;
          kept = λ w y. let x : v ≡ w = cc in subst (λ u. Kept D now ks u.count rows) x (record { good = sym found ∙ z; stands = stands; falling = s.falling });
        }

        pub tested-clash : (differ && apart) ≡ false → Tested D now ks rows (Err v)
        tested-clash z = record { size = s.size; slots = o.slots; few = o.few; used = o.used; sound = sym z ∙ found; kept = λ v q. cc }
