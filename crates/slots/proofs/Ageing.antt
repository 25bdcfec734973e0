-- The clock over the slots: a sound board stays sound, what has not finished stands, now changes nothing, two clocks are the later one. Assumes nothing.
use Prim.Native.Nat.{ℕ, ◌≤◌, ◌<◌}
use mathlib.Core.Path.{◌≡◌, refl, sym, ap, ◌∙◌, subst}
use mathlib.Core.Logic.{◌⊎◌, inl, inr}
use mathlib.Core.Bool.{Bool, true, false, not, true≢false}
use mathlib.Core.List.Memᴰ.{head as here}
use mathlib.Core.List.Memᴰ.{tail as there}
use mathlib.Core.List.{List, [], ◌∷◌, map}
use native.Mathlib.Omega.{arith}
use native.Mathlib.Decide.{dec_le, dec_lt}
use lib.Dec.{T, ltb}
use borrow.Author.Tests.{le-leb, lt-leb, lt-ltb, le-ltb}
use lib.ListN.{length, get_or, length-map, get_or-map}
use Rattle.lists.specs.Lists.{◌∈◌, keep}
use Rattle.lists.proofs.Bools.{bool, is_true, is_false}
use Rattle.lists.proofs.Members.{keep-yes, keep-no, map-in}
use Rattle.lists.proofs.Order.{Sorted, sorted-keep, sorted-map}
use Rattle.tasks.specs.declared.Device.{Device}
use Rattle.tasks.specs.declared.Task.{Task}
use Rattle.tasks.specs.Tasks.{finish, phase_at, live, in_phase, stamped, free_slot}
use Rattle.tasks.proofs.Laws.{phase-waiting, phase-running}
use Rattle.tasks.specs.Numbers.{last_instant}
use Rattle.slots.specs.Slots.{live_in, aged_to, all_aged_to}
use Rattle.slots.proofs.Soundness.{InPhase, running, waiting, SoundTask, Together, Sound}

-- a slot that is not live stays as it is
pub aged-free : (i : ℕ) (k : Task) → T (not (live k)) → aged_to i k ≡ k
unfolding aged_to
aged-free i k t = rw (is_false (live k) t)

-- "drops tasks that have finished by then"
pub aged-ended : (i : ℕ) (k : Task) → T (live k) → finish k ≤ i → aged_to i k ≡ free_slot
unfolding aged_to
aged-ended i k t h = rw (is_true (live k) t, le-leb (finish k) i h)

-- another has the phase of the instant, and is live
pub aged-stands : (i : ℕ) (k : Task) → T (live k) → i < finish k → aged_to i k ≡ stamped i k
unfolding aged_to
aged-stands i k t h = rw (is_true (live k) t, lt-leb (finish k) i h)

pub stamped-live : (i : ℕ) (k : Task) → i < finish k → T (live (stamped i k))
unfolding stamped
stamped-live i k h = step (dec_lt i k.start)
  where
    step : Dec (i < k.start) → T (live (in_phase (phase_at i k) k))
    step (yes l) = rw (phase-waiting i k l) tt
    step (no l) = rw (phase-running i k (omega arith) h) tt

pub stamped-phase : (i : ℕ) (k : Task) → i < finish k → InPhase i (stamped i k)
unfolding stamped
stamped-phase i k h = step (dec_lt i k.start)
  where
    step : Dec (i < k.start) → InPhase i (in_phase (phase_at i k) k)
    step (yes l) = waiting (phase-waiting i k l) l
    step (no l) = running (phase-running i k (omega arith) h) (omega arith)

-- the live tasks of the aged slots: those that have not finished, stamped
pub live-aged : (i : ℕ) (ks : List Task) → live_in (all_aged_to i ks) ≡ map (stamped i) (keep (λ k. ltb i (finish k)) (live_in ks))
unfolding all_aged_to
live-aged i [] = unfold keep in refl
live-aged i (k ∷ ks) = step (live-aged i ks) (bool (live k)) (dec_le (finish k) i)
  where
    now? : Task → Bool
    now? l = ltb i (finish l)

    step : live_in (all_aged_to i ks) ≡ map (stamped i) (keep now? (live_in ks)) → T (live k) ⊎ T (not (live k)) → Dec (finish k ≤ i)
        → keep live (aged_to i k ∷ all_aged_to i ks) ≡ map (stamped i) (keep now? (keep live (k ∷ ks)))
    step e (inr t) d = rw (aged-free i k t, keep-no live k (all_aged_to i ks) t, keep-no live k ks t) e
    step e (inl t) (yes h) =
        rw (aged-ended i k t h, keep-no live free_slot (all_aged_to i ks) tt, keep-yes live k ks t, keep-no now? k (live_in ks) (rw (le-ltb i (finish k) h) tt)) e
    step e (inl t) (no h) =
        let l : i < finish k = omega arith in
        rw (aged-stands i k t l, keep-yes live (stamped i k) (all_aged_to i ks) (stamped-live i k l), keep-yes live k ks t, keep-yes now? k (live_in ks) (rw (lt-ltb i (finish k) l) tt), e)

-- A SOUND BOARD STAYS SOUND UNDER THE CLOCK
pub aged-sound : (D : Device) (now i : ℕ) (ks : List Task) → Sound D now ks → now ≤ i → i ≤ last_instant → Sound D i (all_aged_to i ks)
unfolding all_aged_to
aged-sound D now i ks s l h = record {
  columns = s.columns;
  rows = s.rows;
  grid = s.grid;
  stepped = s.stepped;
  clock = h;
  slots = length-map ks (aged_to i) ∙ s.slots;
  tasks = λ k m t. let r = map-in (aged_to i) ks m in subst (SoundTask D i) (sym r.2) (kept r.0 r.1 (subst (λ x. T (live x)) r.2 t) (bool (live r.0)) (dec_le (finish r.0) i));
  free = λ k m t. let r = map-in (aged_to i) ks m in r.2 ∙ freed r.0 r.1 (subst (λ x. T (not (live x))) r.2 t) (bool (live r.0)) (dec_le (finish r.0) i);
  together = subst (Sorted Together) (sym (live-aged i ks)) (sorted-map Together Together (stamped i) same (sorted-keep Together (λ k. ltb i (finish k)) s.together));
}
  where
    same : (k l : Task) → Together k l → Together (stamped i k) (stamped i l)
    same k l t = unfold stamped in record { ids = t.ids; apart = λ x. t.apart (record { column = x.column; tick = x.tick }) }

    kept : (k : Task) → k ∈ ks → T (live (aged_to i k)) → T (live k) ⊎ T (not (live k)) → Dec (finish k ≤ i) → SoundTask D i (aged_to i k)
    kept k m t (inr f) d = absurd (lib.Dec.T_not (live k) f (subst (λ x. T (live x)) (aged-free i k f) t))
    kept k m t (inl f) (yes d) = absurd (subst (λ x. T (live x)) (aged-ended i k f d) t)
    kept k m t (inl f) (no d) =
        let o = s.tasks k m f in
        let q : i < finish k = omega arith in
        let p = stamped-phase i k q in
        subst (SoundTask D i) (sym (aged-stands i k f q)) (unfold stamped in record {
          id = o.id;
          w = o.w;
          h = o.h;
          e = o.e;
          d = o.d;
          from_one = o.from_one;
          on-device = o.on-device;
          stepped = o.stepped;
          on-grid = o.on-grid;
          in-time = o.in-time;
          unfinished = q;
          phase = p;
        })

    freed : (k : Task) → k ∈ ks → T (not (live (aged_to i k))) → T (live k) ⊎ T (not (live k)) → Dec (finish k ≤ i) → aged_to i k ≡ free_slot
    freed k m t (inr f) d = aged-free i k f ∙ s.free k m f
    freed k m t (inl f) (yes d) = aged-ended i k f d
    freed k m t (inl f) (no d) =
        let q : i < finish k = omega arith in
        absurd (lib.Dec.T_not (live (stamped i k)) (subst (λ x. T (not (live x))) (aged-stands i k f q) t) (stamped-live i k q))

-- at now a sound live task is as it is stamped
pub still : (D : Device) (now : ℕ) (k : Task) → SoundTask D now k → stamped now k ≡ k
unfolding stamped
still D now k o = step o.phase
  where
    step : InPhase now k → in_phase (phase_at now k) k ≡ k
    step (running e h) = ap (λ p. in_phase p k) (phase-running now k h o.unfinished ∙ sym e)
    step (waiting e h) = ap (λ p. in_phase p k) (phase-waiting now k h ∙ sym e)

-- CLOCK TO NOW CHANGES NOTHING
pub aged-now : (D : Device) (now : ℕ) (ks : List Task) → Sound D now ks → all_aged_to now ks ≡ ks
unfolding all_aged_to
aged-now D now ks s = go ks (λ k m. each k m (bool (live k)))
  where
    each : (k : Task) → k ∈ ks → T (live k) ⊎ T (not (live k)) → aged_to now k ≡ k
    each k m (inr f) = aged-free now k f
    each k m (inl f) = let o = s.tasks k m f in aged-stands now k f o.unfinished ∙ still D now k o

    go : (ls : List Task) → ((k : Task) → k ∈ ls → aged_to now k ≡ k) → map (aged_to now) ls ≡ ls
    go [] f = refl
    go (k ∷ ls) f = let r = go ls (λ l m. f l (there m)) in rw (f k (here refl), r)

-- TWO CLOCKS ONE AFTER THE OTHER ARE THE LATER ONE
pub aged-twice : (i j : ℕ) (ks : List Task) → i ≤ j → all_aged_to j (all_aged_to i ks) ≡ all_aged_to j ks
unfolding all_aged_to
aged-twice i j [] h = refl
aged-twice i j (k ∷ ks) h = let r = aged-twice i j ks h in rw (each (bool (live k)) (dec_le (finish k) i) (dec_le (finish k) j), r)
  where
    again : stamped j (stamped i k) ≡ stamped j k
    again = unfold stamped phase_at in refl

    each : T (live k) ⊎ T (not (live k)) → Dec (finish k ≤ i) → Dec (finish k ≤ j) → aged_to j (aged_to i k) ≡ aged_to j k
    each (inr f) d e = ap (aged_to j) (aged-free i k f)
    each (inl f) (yes d) e = ap (aged_to j) (aged-ended i k f d) ∙ aged-free j free_slot tt ∙ sym (aged-ended j k f (omega arith))
    each (inl f) (no d) e =
        let q : i < finish k = omega arith in
        ap (aged_to j) (aged-stands i k f q) ∙ last q e
      where
        same : finish (stamped i k) ≡ finish k
        same = unfold stamped in refl

        last : i < finish k → Dec (finish k ≤ j) → aged_to j (stamped i k) ≡ aged_to j k
        last q (yes e) = aged-ended j (stamped i k) (stamped-live i k q) (rw same e) ∙ sym (aged-ended j k f e)
        last q (no e) =
            let r : j < finish k = omega arith in
            aged-stands j (stamped i k) (stamped-live i k q) (rw same r) ∙ again ∙ sym (aged-stands j k f r)

-- THE SLOTS AT AN INSTANT, one by one
pub aged-free-slot : (i : ℕ) → aged_to i free_slot ≡ free_slot
aged-free-slot i = aged-free i free_slot tt

pub aged-at : (i : ℕ) (ks : List Task) (j : ℕ) → get_or (all_aged_to i ks) j free_slot ≡ aged_to i (get_or ks j free_slot)
unfolding all_aged_to
aged-at i ks j = ap (get_or (map (aged_to i) ks) j) (sym (aged-free-slot i)) ∙ get_or-map (aged_to i) ks j free_slot

pub aged-length : (i : ℕ) (ks : List Task) → length (all_aged_to i ks) ≡ length ks
unfolding all_aged_to
aged-length i ks = length-map ks (aged_to i)

-- what is live then was live, and has not finished
pub aged-live : (i : ℕ) (k : Task) → T (live (aged_to i k)) → T (live k) × (i < finish k)
aged-live i k t = go (live k) refl (dec_le (finish k) i)
  where
    go : (b : Bool) → live k ≡ b → Dec (finish k ≤ i) → T (live k) × (i < finish k)
    go false q z = absurd (true≢false (sym (is_true (live (aged_to i k)) t) ∙ ap live (aged-free i k (rw q tt)) ∙ q))
    go true q (yes z) = absurd (subst (λ k. T (live k)) (aged-ended i k (rw q tt) z) t)
    go true q (no z) = (rw q tt, omega arith)
