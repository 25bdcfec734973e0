-- The table goes on standing for the slots: a task more, a task less, tasks that have finished, the places exchanged. Assumes nothing.
use Prim.Native.Nat.{ℕ, zero, suc, ◌+◌, ◌-◌, ◌*◌, ◌≤◌, ◌<◌}
use mathlib.Core.Path.{◌≡◌, refl, sym, ap, ◌∙◌, subst}
use mathlib.Core.Bool.{false, cond, true≢false, ◌&&◌}
use mathlib.Core.List.{List}
use native.Mathlib.Omega.{arith}
use native.Mathlib.Decide.{dec_lt, ℕ_discrete as dec_eq}
use borrow.Author.Tests.{lt-ltb, le-ltb}
use lib.Dec.{T, leb, ltb}
use lib.ListN.{length, get_or, set, replicate, length-set, length-replicate, get_or-replicate}
use lib.Seq.{get_or-set_same, get_or-set_other}
use Rattle.lists.proofs.Bools.{is_true}
use Rattle.lists.proofs.Crowd.{crowd}
use Rattle.tasks.specs.declared.Task.{Task}
use Rattle.tasks.specs.Tasks.{finish, live, stamped, free_slot}
use Rattle.slots.specs.Slots.{aged_to, all_aged_to}
use Rattle.slots.proofs.Ageing.{aged-at, aged-length, aged-live, aged-stands, stamped-live}
use Rattle.words.specs.Words.{bit}
use Rattle.live.specs.Live.{at, finish_at, left_at, past_at, slot_at, number, After, Falling, Masked}
use Rattle.live.specs.Kept.{Entry, Stands, Opened, Closed, Inserted, Exchanged}
use Rattle.live.proofs.Laws.{after-stays}
use Rattle.live.proofs.Planned.{entry-finish}

-- an entry at another place, or of other slots, that has the same numbers
pub carry : {ks js : List Task} {rows next : List ℕ} {i j : ℕ} → Entry ks rows j → ((r : ℕ) → r < 6 → at r next i ≡ at r rows j)
    → T (live (get_or js (slot_at rows j) free_slot)) → ((r : ℕ) → number r (slot_at rows j) (get_or js (slot_at rows j) free_slot) ≡ number r (slot_at rows j) (get_or ks (slot_at rows j) free_slot))
    → Entry js next i
carry {ks} {js} {rows} {next} {i} {j} e f t g =
    let z : slot_at next i ≡ slot_at rows j = f 5 (omega arith) in
    record {
      inside = rw z e.inside;
      there = rw z t;
      numbers = λ r h. f r h ∙ e.numbers r h ∙ sym (g r) ∙ ap (λ s. number r s (get_or js s free_slot)) (sym z);
    }

-- another slot keeps its task
other : (ks : List Task) (n : ℕ) (k : Task) (s : ℕ) → (s ≡ n → ⊥) → get_or (set ks n k) s free_slot ≡ get_or ks s free_slot
other ks n k s e = get_or-set_other ks n s k free_slot e

-- ONE PLACE MORE: where what stands at a place was before
module _ {rows n k : ℕ} {table next : List ℕ} (p : Opened rows n k table next) where
  pub was : ℕ → ℕ
  was i = cond (ltb i k) i (i - 1)

  pub was-same : (i : ℕ) → i ≤ n → (i ≡ k → ⊥) → (was i < n) × ((r : ℕ) → r < rows → at r next i ≡ at r table (was i))
  unfolding was
  was-same i l e = go (dec_lt i k)
    where
      go : Dec (i < k) → (cond (ltb i k) i (i - 1) < n) × ((r : ℕ) → r < rows → at r next i ≡ at r table (cond (ltb i k) i (i - 1)))
      go (yes q) = rw (lt-ltb i k q) (omega (arith, p.place), λ r m. p.before r i m q)
      go (no q) = rw (le-ltb i k (omega arith)) (omega arith, λ r m. p.after r i m (omega arith) l)

  pub was-rises : (i j : ℕ) → i < j → (i ≡ k → ⊥) → (j ≡ k → ⊥) → was i < was j
  unfolding was
  was-rises i j l e f = go (dec_lt i k) (dec_lt j k)
    where
      go : Dec (i < k) → Dec (j < k) → cond (ltb i k) i (i - 1) < cond (ltb j k) j (j - 1)
      go (yes q) (yes m) = rw (lt-ltb i k q, lt-ltb j k m) l
      go (yes q) (no m) = rw (lt-ltb i k q, le-ltb j k (omega arith)) (omega arith)
      go (no q) (yes m) = absurd (omega arith)
      go (no q) (no m) = rw (le-ltb i k (omega arith), le-ltb j k (omega arith)) (omega arith)

module _ {ks : List Task} {n : ℕ} {rows : List ℕ} (o : Stands 64 ks n rows) where
  -- A TASK MORE, in a slot that is nobody's
  module _ {slot : ℕ} (h : slot < 64) (free : live (get_or ks slot free_slot) ≡ false) where
    -- the slot was nobody's
    not_taken : (i : ℕ) → i < n → slot_at rows i ≡ slot → ⊥
    not_taken i l e = true≢false (sym (is_true (live (get_or ks (slot_at rows i) free_slot)) (o.each i l).there) ∙ ap (λ s. live (get_or ks s free_slot)) e ∙ free)

    -- there is room: the slots of the tasks and this one differ
    seat : ℕ → ℕ
    seat i = cond (ltb i n) (slot_at rows i) slot

    seat-inside : (i : ℕ) → i < suc n → seat i < 64
    unfolding seat
    seat-inside i l = go (dec_lt i n)
      where
        go : Dec (i < n) → cond (ltb i n) (slot_at rows i) slot < 64
        go (yes q) = rw (lt-ltb i n q) (o.each i q).inside
        go (no q) = rw (le-ltb i n (omega arith)) h

    seat-once : (i j : ℕ) → i < j → j < suc n → seat i ≡ seat j → ⊥
    unfolding seat
    seat-once i j l m = go (dec_lt j n)
      where
        go : Dec (j < n) → cond (ltb i n) (slot_at rows i) slot ≡ cond (ltb j n) (slot_at rows j) slot → ⊥
        go (yes q) = rw (lt-ltb i n (omega arith), lt-ltb j n q) (o.once i j l q)
        go (no q) = rw (lt-ltb i n (omega arith), le-ltb j n (omega arith)) (not_taken i (omega arith))

    pub room : n < 64
    room = crowd 64 (suc n) seat seat-inside seat-once

    module _ {x : Task} {masks next words : List ℕ} (p : Inserted n slot x rows masks next words) where
      abbrev k : ℕ
      k = p.k

      abbrev was_at : ℕ → ℕ
      was_at i = was p.numbers i

      slot-here : slot_at next k ≡ slot
      unfolding number
      slot-here = p.here 5 (omega arith)

      slot-was : (i : ℕ) → i ≤ n → (i ≡ k → ⊥) → slot_at next i ≡ slot_at rows (was_at i)
      slot-was i l e = (was-same p.numbers i l e).1 5 (omega arith)

      pub inserted-stands : T (live x) → Stands 64 (set ks slot x) (n + 1) next
      inserted-stands t = record {
        slots = length-set ks slot x ∙ o.slots;
        few = omega (arith, room);
        each = λ i l. each i (omega arith) (dec_eq i k);
        below = λ i l. (each i (omega arith) (dec_eq i k)).inside;
        once = λ i j l m. once i j l (omega arith) (dec_eq i k) (dec_eq j k);
        every = λ s l u. every s l (dec_eq s slot) u;
      }
        where
          new : get_or (set ks slot x) slot free_slot ≡ x
          new = get_or-set_same ks slot x free_slot (omega (arith, o.slots))

          each : (i : ℕ) → i ≤ n → Dec (i ≡ k) → Entry (set ks slot x) next i
          each i l (yes e) = subst (λ j. Entry (set ks slot x) next j) (sym e) (record {
            inside = rw slot-here h;
            there = rw (slot-here, new) t;
            numbers = λ r m. p.here r m ∙ ap (number r slot) (sym new) ∙ ap (λ s. number r s (get_or (set ks slot x) s free_slot)) (sym slot-here);
          })
          each i l (no e) =
              let w = was-same p.numbers i l e in
              let q = other ks slot x (slot_at rows (was_at i)) (not_taken (was_at i) w.0) in
              carry (o.each (was_at i) w.0) w.1 (rw q (o.each (was_at i) w.0).there) (λ r. ap (number r (slot_at rows (was_at i))) q)

          once : (i j : ℕ) → i < j → j ≤ n → Dec (i ≡ k) → Dec (j ≡ k) → slot_at next i ≡ slot_at next j → ⊥
          once i j l m (yes e) (yes f) q = omega arith
          once i j l m (yes e) (no f) q = not_taken (was_at j) (was-same p.numbers j m f).0 (sym (slot-was j m f) ∙ sym q ∙ ap (slot_at next) e ∙ slot-here)
          once i j l m (no e) (yes f) q = not_taken (was_at i) (was-same p.numbers i (omega arith) e).0 (sym (slot-was i (omega arith) e) ∙ q ∙ ap (slot_at next) f ∙ slot-here)
          once i j l m (no e) (no f) q = o.once (was_at i) (was_at j) (was-rises p.numbers i j l e f) (was-same p.numbers j m f).0 (sym (slot-was i (omega arith) e) ∙ q ∙ slot-was j m f)

          every : (s : ℕ) → s < 64 → Dec (s ≡ slot) → T (live (get_or (set ks slot x) s free_slot)) → (i : ℕ) × (i < n + 1) × (slot_at next i ≡ s)
          every s l (yes e) u = (k, omega (arith, p.numbers.place), slot-here ∙ sym e)
          every s l (no e) u =
              let w = o.every s l (rw (other ks slot x s e) at u) in
              go w.0 w.1 w.2 (dec_lt w.0 k)
            where
              go : (i : ℕ) → i < n → slot_at rows i ≡ s → Dec (i < k) → (i : ℕ) × (i < n + 1) × (slot_at next i ≡ s)
              go i l f (yes q) = (i, omega arith, p.numbers.before 5 i (omega arith) q ∙ f)
              go i l f (no q) =
                  let z : i + 1 - 1 ≡ i = omega arith in
                  (i + 1, omega arith, p.numbers.after 5 (i + 1) (omega arith) (omega arith) (omega arith) ∙ ap (slot_at rows) z ∙ f)

      finish-here : finish_at next k ≡ finish x
      unfolding number
      finish-here = p.here 1 (omega arith)

      finish-was : (i : ℕ) → i ≤ n → (i ≡ k → ⊥) → finish_at next i ≡ finish_at rows (was_at i)
      finish-was i l e = (was-same p.numbers i l e).1 1 (omega arith)

      -- the last to finish is still first
      pub inserted-falling : Falling n rows → Falling (n + 1) next
      inserted-falling f i j l m = go (dec_eq i k) (dec_eq j k)
        where
          go : Dec (i ≡ k) → Dec (j ≡ k) → finish_at next j ≤ finish_at next i
          go (yes e) (yes d) = let z : j ≡ i = omega arith in rw z (omega arith)
          go (yes e) (no d) =
              let a : finish_at next i ≡ finish x = ap (finish_at next) e ∙ finish-here in
              let b = p.numbers.after 1 j (omega arith) (omega arith) (omega arith) in
              let c = p.sooner (j - 1) (omega arith) (omega arith) in
              omega arith
          go (no e) (yes d) =
              let a : finish_at next j ≡ finish x = ap (finish_at next) d ∙ finish-here in
              let b = p.numbers.before 1 i (omega arith) (omega arith) in
              let c = p.later i (omega arith) in
              omega arith
          go (no e) (no d) = rw (finish-was i (omega arith) e, finish-was j (omega arith) d) (f (was_at i) (was_at j) (order (dec_eq i j)) (was-same p.numbers j (omega arith) d).0)
            where
              order : Dec (i ≡ j) → was_at i ≤ was_at j
              order (yes z) = rw z (omega arith)
              order (no z) = let w = was-rises p.numbers i j (omega arith) e d in omega arith

      -- each task has its words
      pub inserted-masked : Masked n rows masks → Masked (n + 1) next words
      unfolding number was
      inserted-masked f = record { share = λ q i j a b c. go q i j a (omega arith) c (dec_eq i k) }
        where
          go : (q i j : ℕ) → q < 4 → i ≤ n → j < 64 → Dec (i ≡ k) → bit (at q words i) j ≡ (leb (left_at next i) (q * 64 + 1 + j) && ltb (q * 64 + 1 + j) (past_at next i))
          go q i j a b c (yes e) = rw (e, p.here 2 (omega arith), p.here 3 (omega arith)) (p.share q j a c)
          go q i j a b c (no e) =
              let w = was-same p.numbers i b e in
              rw (w.1 2 (omega arith), w.1 3 (omega arith), (was-same p.columns i b e).1 q a) (f.share q (was_at i) j a w.0 c)

-- A TASK LESS, that of place k
module _ {rows n k : ℕ} {table next : List ℕ} (p : Closed rows n k table next) where
  pub moved : ℕ → ℕ
  moved i = cond (ltb i k) i (i + 1)

  pub moved_same : k < n → (i : ℕ) → i + 1 < n → (moved i < n) × (moved i ≡ k → ⊥) × ((r : ℕ) → r < rows → at r next i ≡ at r table (moved i))
  unfolding moved
  moved_same h i l = go (dec_lt i k)
    where
      go : Dec (i < k) → (cond (ltb i k) i (i + 1) < n) × (cond (ltb i k) i (i + 1) ≡ k → ⊥) × ((r : ℕ) → r < rows → at r next i ≡ at r table (cond (ltb i k) i (i + 1)))
      go (yes q) = rw (lt-ltb i k q) (omega arith, (λ e. omega arith), λ r m. p.before r i m q)
      go (no q) = rw (le-ltb i k (omega arith)) (omega arith, (λ e. omega arith), λ r m. p.after r i m (omega arith) l)

  pub moved-rises : (i j : ℕ) → i < j → moved i < moved j
  unfolding moved
  moved-rises i j l = go (dec_lt i k) (dec_lt j k)
    where
      go : Dec (i < k) → Dec (j < k) → cond (ltb i k) i (i + 1) < cond (ltb j k) j (j + 1)
      go (yes q) (yes m) = rw (lt-ltb i k q, lt-ltb j k m) l
      go (yes q) (no m) = rw (lt-ltb i k q, le-ltb j k (omega arith)) (omega arith)
      go (no q) (yes m) = absurd (omega arith)
      go (no q) (no m) = rw (le-ltb i k (omega arith), le-ltb j k (omega arith)) (omega arith)

module _ {ks : List Task} {n k : ℕ} {rows next : List ℕ} (o : Stands 64 ks n rows) (h : k < n) (p : Closed 6 n k rows next) where
  abbrev slot : ℕ
  slot = slot_at rows k

  place : (i : ℕ) → i < n - 1 → (moved p i < n) × (moved p i ≡ k → ⊥) × ((r : ℕ) → r < 6 → at r next i ≡ at r rows (moved p i))
  place i l = moved_same p h i (omega arith)

  -- two places have two slots
  apart : (i : ℕ) → i < n → (i ≡ k → ⊥) → slot_at rows i ≡ slot → ⊥
  apart i l e q = go (dec_lt i k)
    where
      go : Dec (i < k) → ⊥
      go (yes z) = o.once i k z h q
      go (no z) = o.once k i (omega arith) l (sym q)

  pub removed-stands : Stands 64 (set ks slot free_slot) (n - 1) next
  removed-stands = record {
    slots = length-set ks slot free_slot ∙ o.slots;
    few = omega (arith, o.few);
    each = each;
    below = λ i l. (each i l).inside;
    once = λ i j l m q.
        o.once (moved p i) (moved p j) (moved-rises p i j l) (place j m).0
        (sym ((place i (omega arith)).2 5 (omega arith)) ∙ q ∙ (place j m).2 5 (omega arith));
    every = λ s l u. every s l (dec_eq s slot) u;
  }
    where
      each : (i : ℕ) → i < n - 1 → Entry (set ks slot free_slot) next i
      each i l =
          let m = place i l in
          let q = other ks slot free_slot (slot_at rows (moved p i)) (apart (moved p i) m.0 m.1) in
          carry (o.each (moved p i) m.0) m.2 (rw q (o.each (moved p i) m.0).there) (λ r. ap (number r (slot_at rows (moved p i))) q)

      every : (s : ℕ) → s < 64 → Dec (s ≡ slot) → T (live (get_or (set ks slot free_slot) s free_slot)) → (i : ℕ) × (i < n - 1) × (slot_at next i ≡ s)
      every s l (yes e) u =
          absurd (subst (λ x. T (live x)) (ap (λ j. get_or (set ks slot free_slot) j free_slot) e ∙ get_or-set_same ks slot free_slot free_slot (omega (arith, o.slots, (o.each k h).inside))) u)
      every s l (no e) u =
          let w = o.every s l (rw (other ks slot free_slot s e) at u) in
          go w.0 w.1 w.2 (dec_lt w.0 k) (dec_eq w.0 k)
        where
          go : (i : ℕ) → i < n → slot_at rows i ≡ s → Dec (i < k) → Dec (i ≡ k) → (i : ℕ) × (i < n - 1) × (slot_at next i ≡ s)
          go i l f (yes q) d = (i, omega arith, p.before 5 i (omega arith) q ∙ f)
          go i l f (no q) (yes d) = absurd (e (sym f ∙ ap (slot_at rows) d))
          go i l f (no q) (no d) =
              let z : i - 1 + 1 ≡ i = omega arith in
              (i - 1, omega arith, p.after 5 (i - 1) (omega arith) (omega arith) (omega arith) ∙ ap (slot_at rows) z ∙ f)

  pub removed-falling : Falling n rows → Falling (n - 1) next
  removed-falling f i j l m = rw ((place i (omega arith)).2 1 (omega arith), (place j m).2 1 (omega arith)) (f (moved p i) (moved p j) (order (dec_eq i j)) (place j m).0)
    where
      order : Dec (i ≡ j) → moved p i ≤ moved p j
      order (yes z) = rw z (omega arith)
      order (no z) = let w = moved-rises p i j (omega arith) in omega arith

  pub removed-masked : {masks words : List ℕ} → Closed 4 n k masks words → Masked n rows masks → Masked (n - 1) next words
  unfolding moved
  removed-masked c f = record {
    share = λ q i j a b d.
        let w = place i b in
        rw (w.2 2 (omega arith), w.2 3 (omega arith), (moved_same c h i (omega arith)).2 q a) (f.share q (moved p i) j a w.0 d);
  }

-- THE CLOCK: those that have finished are the last ones
module _ {ks : List Task} {n : ℕ} {rows : List ℕ} (o : Stands 64 ks n rows) {t r : ℕ} (a : After rows n t r) (f : Falling n rows) where
  pub after-stands : Stands 64 (all_aged_to t ks) r rows
  unfolding stamped number
  after-stands = record {
    slots = aged-length t ks ∙ o.slots;
    few = omega (arith, o.few, a.few);
    each = λ i l. each i l;
    below = λ i l. o.below i (omega (arith, a.few));
    once = λ i j l m. o.once i j l (omega (arith, a.few));
    every = λ s l u. every s l (rw (aged-at t ks s) at u);
  }
    where
      same : (i : ℕ) → i < r → get_or (all_aged_to t ks) (slot_at rows i) free_slot ≡ stamped t (get_or ks (slot_at rows i) free_slot)
      same i l =
          let e = o.each i (omega (arith, a.few)) in
          let z = after-stays f a i l in
          aged-at t ks (slot_at rows i) ∙ aged-stands t (get_or ks (slot_at rows i) free_slot) e.there (omega (arith, entry-finish e))

      numbers : (q s : ℕ) (k : Task) → number q s (stamped t k) ≡ number q s k
      numbers zero s k = refl
      numbers (suc zero) s k = refl
      numbers (suc (suc zero)) s k = refl
      numbers (suc (suc (suc zero))) s k = refl
      numbers (suc (suc (suc (suc zero)))) s k = refl
      numbers (suc (suc (suc (suc (suc q))))) s k = refl

      each : (i : ℕ) → i < r → Entry (all_aged_to t ks) rows i
      each i l =
          let e = o.each i (omega (arith, a.few)) in
          let z = after-stays f a i l in
          carry e (λ q h. refl) (rw (same i l) (stamped-live t (get_or ks (slot_at rows i) free_slot) (omega (arith, entry-finish e)))) (λ q. ap (number q (slot_at rows i)) (same i l)
          ∙ numbers q (slot_at rows i) (get_or ks (slot_at rows i) free_slot))

      every : (s : ℕ) → s < 64 → T (live (aged_to t (get_or ks s free_slot))) → (i : ℕ) × (i < r) × (slot_at rows i ≡ s)
      every s l u =
          let v = aged-live t (get_or ks s free_slot) u in
          let w = o.every s l v.0 in
          (w.0, go w.0 w.1 w.2 v.1 (dec_lt w.0 r), w.2)
        where
          go : (i : ℕ) → i < n → slot_at rows i ≡ s → t < finish (get_or ks s free_slot) → Dec (i < r) → i < r
          go i m e q (yes z) = z
          go i m e q (no z) =
              let c = a.ended i (omega arith) m in
              let d : finish_at rows i ≡ finish (get_or ks s free_slot) = entry-finish (o.each i m) ∙ ap (λ j. finish (get_or ks j free_slot)) e in
              omega arith

  pub after-falling : Falling r rows
  after-falling i j l m = f i j l (omega (arith, a.few))

  pub after-masked : {masks : List ℕ} → Masked n rows masks → Masked r rows masks
  after-masked m = record { share = λ k i j p q. m.share k i j p (omega (arith, a.few)) }

-- THE PLACES EXCHANGED
pub exchanged-stands : {ks : List Task} {n : ℕ} {rows next : List ℕ} {place : ℕ → ℕ} → Stands 64 ks n rows → Exchanged n place rows next → Stands 64 ks n next
exchanged-stands {ks} {n} {rows} {next} {place} o x = record {
  slots = o.slots;
  few = o.few;
  each = each;
  below = λ q l. (each q l).inside;
  once = λ p q l m e. let i = from p (omega arith) in let j = from q m in once i.0 j.0 i.1 j.1 (λ z. omega (arith, i.2.0, j.2.0, ap place z))
      (sym (i.2.1 5 (omega arith)) ∙ e ∙ j.2.1 5 (omega arith));
  every = λ s l u. let w = o.every s l u in (place w.0, x.inside w.0 w.1, x.same 5 w.0 (omega arith) w.1 ∙ w.2);
}
  where
    from : (q : ℕ) → q < n → (i : ℕ) × (i < n) × ((place i ≡ q) × ((r : ℕ) → r < 6 → at r next q ≡ at r rows i))
    from q l = let w = x.taken q l in (w.0, w.1, (w.2, λ r h. ap (at r next) (sym w.2) ∙ x.same r w.0 h w.1))

    once : (i j : ℕ) → i < n → j < n → (i ≡ j → ⊥) → slot_at rows i ≡ slot_at rows j → ⊥
    once i j l m e q = go (dec_lt i j)
      where
        go : Dec (i < j) → ⊥
        go (yes z) = o.once i j z m q
        go (no z) = o.once j i (omega arith) l (sym q)

    each : (q : ℕ) → q < n → Entry ks next q
    each q l = let w = from q l in carry (o.each w.0 w.1) w.2.1 (o.each w.0 w.1).there (λ r. refl)

-- ONE SLOT MORE: it is live, and its task stands at the next place; or it is not
module _ {m : ℕ} {ks : List Task} {n : ℕ} {rows : List ℕ} (o : Stands m ks n rows) (h : m < 64) (next : List ℕ) (f : (r i : ℕ) → r < 6 → i < n → at r next i ≡ at r rows i) where
  as_before : (i : ℕ) → i < n → Entry ks next i
  as_before i l = carry (o.each i l) (λ r q. f r i q l) (o.each i l).there (λ r. refl)

  slot-before : (i : ℕ) → i < n → slot_at next i ≡ slot_at rows i
  slot-before i l = f 5 i (omega arith) l

  pub slot-skipped : live (get_or ks m free_slot) ≡ false → Stands (m + 1) ks n next
  slot-skipped e = record {
    slots = o.slots;
    few = o.few;
    each = as_before;
    below = λ i l. omega (arith, slot-before i l, o.below i l);
    once = λ i j l q z. o.once i j l q (sym (slot-before i (omega arith)) ∙ z ∙ slot-before j q);
    every = λ s l u. every s l u (dec_eq s m);
  }
    where
      every : (s : ℕ) → s < m + 1 → T (live (get_or ks s free_slot)) → Dec (s ≡ m) → (i : ℕ) × (i < n) × (slot_at next i ≡ s)
      every s l u (yes z) = absurd (true≢false (sym (is_true (live (get_or ks s free_slot)) u) ∙ ap (λ j. live (get_or ks j free_slot)) z ∙ e))
      every s l u (no z) = let w = o.every s (omega arith) u in (w.0, w.1, slot-before w.0 w.1 ∙ w.2)

  pub slot-taken : n ≤ m → T (live (get_or ks m free_slot)) → ((r : ℕ) → r < 6 → at r next n ≡ number r m (get_or ks m free_slot)) → Stands (m + 1) ks (n + 1) next
  unfolding number
  slot-taken few t g = record {
    slots = o.slots;
    few = omega arith;
    each = λ i l. each i l (dec_lt i n);
    below = λ i l. below i l (dec_lt i n);
    once = λ i j l q. once i j l q (dec_lt j n);
    every = λ s l u. every s l u (dec_eq s m);
  }
    where
      last : slot_at next n ≡ m
      last = g 5 (omega arith)

      at_last : (i : ℕ) → i < n + 1 → (i < n → ⊥) → i ≡ n
      at_last i l q = step (dec_lt i n)
        where
          step : Dec (i < n) → i ≡ n
          step (yes z) = absurd (q z)
          step (no z) = omega arith

      each : (i : ℕ) → i < n + 1 → Dec (i < n) → Entry ks next i
      each i l (yes q) = as_before i q
      each i l (no q) = subst (λ j. Entry ks next j) (sym (at_last i l q)) (record {
        inside = rw last h;
        there = rw last t;
        numbers = λ r z. g r z ∙ ap (λ s. number r s (get_or ks s free_slot)) (sym last);
      })

      below : (i : ℕ) → i < n + 1 → Dec (i < n) → slot_at next i < m + 1
      below i l (yes q) = omega (arith, slot-before i q, o.below i q)
      below i l (no q) = rw (at_last i l q, last) (omega arith)

      once : (i j : ℕ) → i < j → j < n + 1 → Dec (j < n) → slot_at next i ≡ slot_at next j → ⊥
      once i j l q (yes z) e = o.once i j l z (sym (slot-before i (omega arith)) ∙ e ∙ slot-before j z)
      once i j l q (no z) e =
          let a : slot_at next j ≡ m = ap (slot_at next) (at_last j q z) ∙ last in
          let b = slot-before i (omega arith) in
          let c = o.below i (omega arith) in
          omega arith

      every : (s : ℕ) → s < m + 1 → T (live (get_or ks s free_slot)) → Dec (s ≡ m) → (i : ℕ) × (i < n + 1) × (slot_at next i ≡ s)
      every s l u (yes z) = (n, omega arith, last ∙ sym z)
      every s l u (no z) = let w = o.every s (omega arith) u in (w.0, omega (arith, w.1), slot-before w.0 w.1 ∙ w.2)

-- no slot, no task
pub no-slots : (ks : List Task) (rows : List ℕ) → length ks ≡ 64 → Stands 0 ks 0 rows
no-slots ks rows z = record {
  slots = z;
  few = omega arith;
  each = λ i l. absurd (omega arith);
  below = λ i l. absurd (omega arith);
  once = λ i j l m. absurd (omega arith);
  every = λ s l u. absurd (omega arith);
}

-- no live slot, no task
pub no-tasks : (rows : List ℕ) → Stands 64 (replicate 64 free_slot) 0 rows
no-tasks rows = record {
  slots = length-replicate 64 free_slot;
  few = omega arith;
  each = λ i l. absurd (omega arith);
  below = λ i l. absurd (omega arith);
  once = λ i j l m. absurd (omega arith);
  every = λ s l u. absurd (subst (λ k. T (live k)) (get_or-replicate 64 s free_slot free_slot l) u);
}
