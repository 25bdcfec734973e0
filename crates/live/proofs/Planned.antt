-- The live table of a sound board is what planners ask for, and its tasks are the board's. Assumes nothing.
use Prim.Native.Nat.{ℕ, ◌+◌, ◌-◌, ◌≤◌, ◌<◌}
use mathlib.Core.Path.{◌≡◌, sym, ap, ap₂, ◌∙◌, subst}
use mathlib.Core.Bool.{true, ◌&&◌}
use mathlib.Core.List.{List, map}
use native.Mathlib.Omega.{arith}
use native.Mathlib.Decide.{dec_lt}
use lib.Dec.{T, eqb, not_T}
use lib.ListN.{get_or}
use Rattle.lists.specs.Lists.{◌∈◌, some?, range}
use Rattle.lists.proofs.Bools.{and_l, and_r, and_i, is_false, same_bool}
use Rattle.lists.proofs.Members.{keep-in, in-keep, map-in, in_map, range-in, in-range, some-pass, pass-some, get_or-in, in-get_or}
use Rattle.lists.proofs.Order.{sorted-at}
use Rattle.lists.proofs.Same.{Same}
use Rattle.tasks.specs.declared.Phase.TheVariants.{Ended}
use Rattle.tasks.specs.declared.Device.{Device}
use Rattle.tasks.specs.declared.Task.{Task}
use Rattle.tasks.specs.Tasks.{meets, live, free_slot}
use Rattle.tasks.proofs.Laws.{meets-share}
use Rattle.slots.specs.Slots.{live_in, sound, named, known}
use Rattle.slots.proofs.Soundness.{SoundTask, Together, together-sym, Sound, sound-out}
use Rattle.live.specs.Live.{from_at, finish_at, left_at, past_at, id_at, slot_at, number, task_at, bare, tasks_of, OnDevice, Apart, Masked, Lent, LentTo}
use Rattle.live.specs.Kept.{Entry, Stands, Kept}

-- THE NUMBERS OF AN ENTRY are those of its task
module _ {ks : List Task} {rows : List ℕ} {i : ℕ} (e : Entry ks rows i) where
  abbrev its : Task
  its = get_or ks (slot_at rows i) free_slot

  entry-start : from_at rows i ≡ its.start
  unfolding number
  entry-start = e.numbers 0 (omega arith)

  pub entry-finish : finish_at rows i ≡ its.start + its.e
  unfolding number
  entry-finish = e.numbers 1 (omega arith)

  entry-left : left_at rows i ≡ its.column
  unfolding number
  entry-left = e.numbers 2 (omega arith)

  entry_past : past_at rows i ≡ its.column + its.w
  unfolding number
  entry_past = e.numbers 3 (omega arith)

  pub entry-id : id_at rows i ≡ its.id
  unfolding number
  entry-id = e.numbers 4 (omega arith)

  pub entry-task : task_at rows i ≡ bare its
  entry-task =
      let x : finish_at rows i - from_at rows i ≡ its.e = omega (arith, entry-start, entry-finish) in
      let y : past_at rows i - left_at rows i ≡ its.w = omega (arith, entry-left, entry_past) in
      λ j. record { id = 0; e = x j; d = 0; start = entry-start j; w = y j; h = 0; column = entry-left j; phase = Ended }

-- ON THE DEVICE, where each of the tasks is sound
pub entries-device : {D : Device} {now : ℕ} {ks : List Task} {n : ℕ} {rows : List ℕ} → D.columns ≤ 256 → Stands 64 ks n rows
    → ((i : ℕ) → i < n → SoundTask D now (get_or ks (slot_at rows i) free_slot)) → OnDevice D.columns n rows
entries-device w o each = record {
  wide = w;
  few = o.few;
  from = λ i h. omega (arith, entry-left (o.each i h), (each i h).from_one);
  columns = λ i h. omega (arith, entry-left (o.each i h), entry_past (o.each i h), (each i h).w.low);
  past = λ i h. omega (arith, entry_past (o.each i h), (each i h).on-device);
  ticks = λ i h. omega (arith, entry-start (o.each i h), entry-finish (o.each i h), (each i h).e.low);
  until = λ i h. omega (arith, entry-finish (o.each i h), (each i h).in-time, (each i h).d);
}

module _ (D : Device) (now : ℕ) (ks : List Task) (n : ℕ) (rows : List ℕ) (o : Stands 64 ks n rows) (good : sound D now ks ≡ true) where
  s : Sound D now ks
  s = sound-out D now ks (rw good tt)

  -- the task of place i
  abbrev task : ℕ → Task
  task i = get_or ks (slot_at rows i) free_slot

  among : (i : ℕ) → i < n → task i ∈ ks
  among i h = get_or-in ks (slot_at rows i) free_slot (omega (arith, o.slots, (o.each i h).inside))

  each : (i : ℕ) → i < n → SoundTask D now (task i)
  each i h = s.tasks (task i) (among i h) (o.each i h).there

  -- its numbers
  module _ (i : ℕ) (h : i < n) where
    pub start-at : from_at rows i ≡ (task i).start
    start-at = entry-start (o.each i h)

    pub id-at : id_at rows i ≡ (task i).id
    id-at = entry-id (o.each i h)

    task-is : task_at rows i ≡ bare (task i)
    task-is = entry-task (o.each i h)

  pub on-device : OnDevice D.columns n rows
  on-device = entries-device s.columns.high o each

  -- NONE IN ANOTHER'S WAY
  two : (i j : ℕ) → i < j → j < n → Together (task i) (task j)
  two i j l h = go (dec_lt (slot_at rows i) (slot_at rows j))
    where
      a : i < n
      a = omega arith

      go : Dec (slot_at rows i < slot_at rows j) → Together (task i) (task j)
      go (yes z) = sorted-at Together live ks free_slot s.together (slot_at rows i) (slot_at rows j) z (omega (arith, o.slots, (o.each j h).inside)) (o.each i a).there (o.each j h).there
      go (no z) =
          let q = o.once i j l h in
          together-sym (task j) (task i)
          (sorted-at Together live ks free_slot s.together (slot_at rows j) (slot_at rows i) (before q z) (omega (arith, o.slots, (o.each i a).inside)) (o.each j h).there (o.each i a).there)
        where
          before : (slot_at rows i ≡ slot_at rows j → ⊥) → (slot_at rows i < slot_at rows j → ⊥) → slot_at rows j < slot_at rows i
          before q z = omega arith

  pub apart : Apart n rows
  unfolding meets
  apart i j l h =
      ap₂ meets (task-is i (omega arith)) (task-is j h)
      ∙ is_false (meets (task i) (task j)) (not_T (meets (task i) (task j)) (λ t. (two i j l h).apart (meets-share (task i) (task j) t)))

  -- THE TASKS of the table are those of the board, by what a planner reads of them
  pub same-tasks : Same (tasks_of n rows) (map bare (live_in ks))
  unfolding tasks_of
  same-tasks = record {
    to = λ u m. to u (map-in (task_at rows) (range 0 n) m);
    back = λ u m. back u (map-in bare (live_in ks) m);
  }
    where
      to : (u : Task) → (i : ℕ) × (i ∈ range 0 n) × (u ≡ task_at rows i) → u ∈ map bare (live_in ks)
      to u k =
          let w = range-in 0 n k.1 in
          let h : k.0 < n = omega (arith, w.high) in
          subst (λ x. x ∈ map bare (live_in ks)) (sym (k.2 ∙ task-is k.0 h)) (in_map bare (in-keep live (among k.0 h) (o.each k.0 h).there))

      back : (u : Task) → (k : Task) × (k ∈ live_in ks) × (u ≡ bare k) → u ∈ map (task_at rows) (range 0 n)
      back u k =
          let m = keep-in live ks k.1 in
          let p = in-get_or ks free_slot m.0 in
          let e = o.every p.0 (omega (arith, p.1, o.slots)) (subst (λ x. T (live x)) p.2 m.1) in
          let z : task_at rows e.0 ≡ u = task-is e.0 e.1 ∙ ap (λ j. bare (get_or ks j free_slot)) e.2 ∙ ap bare (sym p.2) ∙ sym k.2 in
          subst (λ x. x ∈ map (task_at rows) (range 0 n)) z (in_map (task_at rows) (in-range 0 n e.0 (omega arith) (omega (arith, e.1))))

  -- AN ID is live exactly if it stands in the table
  pub known_same : (id : ℕ) → some? (λ (i : ℕ). eqb (id_at rows i) id) (range 0 n) ≡ known id ks
  unfolding known named
  known_same id = same_bool (some? (λ (i : ℕ). eqb (id_at rows i) id) (range 0 n)) (some? (named id) ks) to back
    where
      to : T (some? (λ (i : ℕ). eqb (id_at rows i) id) (range 0 n)) → T (some? (λ k. live k && eqb k.id id) ks)
      to t =
          let p = some-pass (λ (i : ℕ). eqb (id_at rows i) id) (range 0 n) t in
          let w = range-in 0 n p.among in
          let h : p.it < n = omega (arith, w.high) in
          pass-some (λ k. live k && eqb k.id id) ks (among p.it h)
          (and_i (live (task p.it)) (eqb (task p.it).id id) (o.each p.it h).there (subst (λ x. T (eqb x id)) (id-at p.it h) p.passes))

      back : T (some? (λ k. live k && eqb k.id id) ks) → T (some? (λ (i : ℕ). eqb (id_at rows i) id) (range 0 n))
      back t =
          let p = some-pass (λ k. live k && eqb k.id id) ks t in
          let m = in-get_or ks free_slot p.among in
          let e = o.every m.0 (omega (arith, m.1, o.slots)) (subst (λ x. T (live x)) m.2 (and_l (live p.it) (eqb p.it.id id) p.passes)) in
          let z : p.it.id ≡ id_at rows e.0 = ap (λ k. k.id) m.2 ∙ ap (λ j. (get_or ks j free_slot).id) (sym e.2) ∙ sym (id-at e.0 e.1) in
          pass-some (λ (i : ℕ). eqb (id_at rows i) id) (range 0 n) (in-range 0 n e.0 (omega arith) (omega (arith, e.1)))
          (subst (λ x. T (eqb x id)) z (and_r (live p.it) (eqb p.it.id id) p.passes))

-- WHAT A PLANNER IS LENT
module _ {D : Device} {now : ℕ} {ks : List Task} {n : ℕ} {rows : List ℕ} (k : Kept D now ks n rows) where
  pub kept-device : OnDevice D.columns n rows
  kept-device = on-device D now ks n rows k.stands k.good

  pub kept-apart : Apart n rows
  kept-apart = apart D now ks n rows k.stands k.good

  pub kept-lent-to : {p : ℕ} {masks : List ℕ} → ((p ≡ 1 → ⊥) → (p ≡ 2 → ⊥) → Masked n rows masks) → LentTo p D.columns n rows masks
  kept-lent-to m = record { device = kept-device; falling = k.falling; apart = kept-apart; masked = m }

  pub kept-lent : {masks : List ℕ} → Masked n rows masks → Lent D.columns n rows masks
  kept-lent m = record { device = kept-device; falling = k.falling; apart = kept-apart; masked = m }
