-- Soundness as a record of plain clauses, decided by the test. Assumes nothing.
use Prim.Native.Nat.{ℕ, suc, ◌+◌, ◌≤◌, ◌<◌}
use mathlib.Core.Path.{◌≡◌, refl, sym, subst}
use mathlib.Core.Bool.{Bool, true, false, not, cond}
use mathlib.Core.List.{List, [], ◌∷◌}
use lib.Dec.{T, ltb, eqb, leb→le, le→leb, ltb→lt, nltb→le, eqb→eq, eqb_refl, not_T, T_not}
use lib.ListN.{length}
use Rattle.lists.specs.Lists.{◌∈◌, all?, pairwise?}
use Rattle.lists.proofs.Bools.{and_l, and_r, and_i, is_true, is_false}
use Rattle.lists.proofs.Members.{all_pass, pass_all}
use Rattle.lists.proofs.Order.{Sorted, empty, next}
use Rattle.tasks.specs.declared.Phase.{Phase}
use Rattle.tasks.specs.declared.Phase.TheVariants.{Ended, Waiting, Running}
use Rattle.tasks.specs.declared.Device.{Device}
use Rattle.tasks.specs.declared.Task.{Task}
use Rattle.tasks.specs.Tasks.{finish, meets, live_phase, same_phase, phase_at, live, free_slot, zeros}
use Rattle.tasks.proofs.Laws.{Between, within-out, within_in, Share, meets-share, share-meets, share-sym, zeros-free, phase-waiting, phase-running, is-waiting, is-running}
use Rattle.tasks.specs.Numbers.{most_grid, largest_id, last_instant, longest, multiple, may_begin}
use Rattle.slots.specs.Slots.{live_in, task_sound, slot_sound, together, sound}

-- running exactly if its start is ≤ now, and otherwise waiting
pub data InPhase (now : ℕ) (k : Task) : Type 0 where
  running : k.phase ≡ Running → k.start ≤ now → InPhase now k
  waiting : k.phase ≡ Waiting → now < k.start → InPhase now k

-- A SOUND LIVE TASK of a device at now
pub record SoundTask (D : Device) (now : ℕ) (k : Task) : Type 0 where
  pub id : Between 1 largest_id k.id
  pub w : Between 1 D.columns k.w
  pub h : Between 1 D.rows k.h
  pub e : Between 1 longest k.e
  pub d : k.d ≤ last_instant
  pub from_one : 1 ≤ k.column
  pub on-device : k.column + k.w ≤ suc D.columns
  pub stepped : T (multiple D.grid k.w)
  pub on-grid : T (may_begin D.grid k.column)
  pub in-time : k.start + k.e ≤ k.d
  pub unfinished : now < k.start + k.e
  pub phase : InPhase now k

-- two live tasks: their ids differ, and they share no column at a tick
pub record Together (k l : Task) : Type 0 where
  pub ids : k.id ≡ l.id → ⊥
  pub apart : Share k l → ⊥

-- A SOUND BOARD: document 01, Numbers, clause by clause, and the grid of document 02, Q-3
pub record Sound (D : Device) (now : ℕ) (ks : List Task) : Type 0 where
  pub columns : Between 1 256 D.columns
  pub rows : Between 1 1024 D.rows
  pub grid : Between 1 most_grid D.grid
  pub stepped : T (multiple D.grid D.columns)
  pub clock : now ≤ last_instant
  pub slots : length ks ≡ 64
  pub tasks : (k : Task) → k ∈ ks → T (live k) → SoundTask D now k
  pub free : (k : Task) → k ∈ ks → T (not (live k)) → k ≡ free_slot
  pub together : Sorted Together (live_in ks)

phase-out : (now : ℕ) (k : Task) → T (live k) → T (same_phase k.phase (phase_at now k)) → InPhase now k
phase-out now k l t = go k.phase refl l t
  where
    go : (p : Phase) → k.phase ≡ p → T (live_phase p) → T (same_phase p (phase_at now k)) → InPhase now k
    go Ended e m s = absurd m
    go Waiting e m s = waiting e (ltb→lt now k.start (subst T (is-waiting now k) s))
    go Running e m s = running e (nltb→le now k.start (and_l (not (ltb now k.start)) (ltb now (finish k)) (subst T (is-running now k) s)))

phase-in : (now : ℕ) (k : Task) → now < finish k → InPhase now k → T (same_phase k.phase (phase_at now k))
unfolding phase_at
phase-in now k f (running e h) = rw (e, phase-running now k h f) tt
phase-in now k f (waiting e h) = rw (e, phase-waiting now k h) tt

pub in-phase-live : (now : ℕ) (k : Task) → InPhase now k → T (live k)
in-phase-live now k (running e h) = rw e tt
in-phase-live now k (waiting e h) = rw e tt

pub task-out : (D : Device) (now : ℕ) (k : Task) → T (live k) → T (task_sound D now k) → SoundTask D now k
unfolding task_sound
task-out D now k l s = record {
  id = within-out 1 largest_id k.id (search (and_l, and_r) depth 12);
  w = within-out 1 D.columns k.w (search (and_l, and_r) depth 12);
  h = within-out 1 D.rows k.h (search (and_l, and_r) depth 12);
  e = within-out 1 longest k.e (search (and_l, and_r) depth 12);
  d = leb→le k.d last_instant (search (and_l, and_r) depth 12);
  from_one = leb→le 1 k.column (search (and_l, and_r) depth 12);
  on-device = leb→le (k.column + k.w) (suc D.columns) (search (and_l, and_r) depth 12);
  stepped = search (and_l, and_r) depth 12;
  on-grid = search (and_l, and_r) depth 12;
  in-time = leb→le (finish k) k.d (search (and_l, and_r) depth 12);
  unfinished = ltb→lt now (finish k) (search (and_l, and_r) depth 12);
  phase = phase-out now k l (search (and_l, and_r) depth 12);
}

pub task-in : (D : Device) (now : ℕ) (k : Task) → SoundTask D now k → T (task_sound D now k)
unfolding task_sound
task-in D now k s =
    let p = phase-in now k s.unfinished s.phase in
    search (and_i, within_in, le→leb, s.id, s.w, s.h, s.e, p) depth 16

pub together-out : (k l : Task) → T (together k l) → Together k l
unfolding together
together-out k l h = record {
  ids = λ e. T_not (eqb k.id l.id) (and_l (not (eqb k.id l.id)) (not (meets k l)) h) (rw e (eqb_refl l.id));
  apart = λ s. T_not (meets k l) (and_r (not (eqb k.id l.id)) (not (meets k l)) h) (share-meets k l s);
}

pub together-in : (k l : Task) → Together k l → T (together k l)
unfolding together
together-in k l d =
    and_i (not (eqb k.id l.id)) (not (meets k l))
    (not_T (eqb k.id l.id) (λ m. d.ids (eqb→eq k.id l.id m)))
    (not_T (meets k l) (λ m. d.apart (meets-share k l m)))

pub together-sym : (k l : Task) → Together k l → Together l k
together-sym k l t = record { ids = λ e. t.ids (sym e); apart = λ s. t.apart (share-sym l k s) }

pub pairs-out : (ks : List Task) → T (pairwise? together ks) → Sorted Together ks
unfolding pairwise?
pairs-out [] h = empty
pairs-out (k ∷ ks) h =
    next (λ l m. together-out k l (all_pass (together k) ks (and_l (all? (together k) ks) (pairwise? together ks) h) m))
    (pairs-out ks (and_r (all? (together k) ks) (pairwise? together ks) h))

pub pairs-in : {ks : List Task} → Sorted Together ks → T (pairwise? together ks)
unfolding pairwise?
pairs-in empty = tt
pairs-in (next {x} {xs} f s) =
    and_i (all? (together x) xs) (pairwise? together xs) (pass_all (together x) xs (λ l m. together-in x l (f l m))) (pairs-in s)

ended : (p : Phase) → T (not (live_phase p)) → p ≡ Ended
ended Ended t = refl
ended Waiting t = absurd t
ended Running t = absurd t

-- THE TEST DECIDES SOUNDNESS
pub sound-out : (D : Device) (now : ℕ) (ks : List Task) → T (sound D now ks) → Sound D now ks
unfolding sound slot_sound
sound-out D now ks s = record {
  columns = within-out 1 256 D.columns (search (and_l, and_r) depth 12);
  rows = within-out 1 1024 D.rows (search (and_l, and_r) depth 12);
  grid = within-out 1 most_grid D.grid (search (and_l, and_r) depth 12);
  stepped = search (and_l, and_r) depth 12;
  clock = leb→le now last_instant (search (and_l, and_r) depth 12);
  slots = eqb→eq (length ks) 64 (search (and_l, and_r) depth 12);
  tasks = λ k m l. task-out D now k l (rw (is_true (live k) l) at (each k m));
  free = λ k m l. zeros-free k (rw (is_false (live k) l) at (each k m)) (ended k.phase l);
  together = pairs-out (live_in ks) (search (and_l, and_r) depth 12);
}
  where
    each : (k : Task) → k ∈ ks → T (slot_sound D now k)
    each k m = all_pass (slot_sound D now) ks (search (and_l, and_r) depth 12) m

pub sound-in : (D : Device) (now : ℕ) (ks : List Task) → Sound D now ks → T (sound D now ks)
unfolding sound slot_sound zeros
sound-in D now ks s =
    let slots : T (eqb (length ks) 64) = rw s.slots tt in
    let every = pass_all (slot_sound D now) ks each in
    let pairs = pairs-in s.together in
    search (and_i, within_in, le→leb, s.columns, s.rows, s.grid) depth 14
  where
    step : (k : Task) → k ∈ ks → (b : Bool) → live k ≡ b → T (cond b (task_sound D now k) (zeros k))
    step k m true e = task-in D now k (s.tasks k m (rw e tt))
    step k m false e = rw (s.free k m (rw e tt)) tt

    each : (k : Task) → k ∈ ks → T (slot_sound D now k)
    each k m = step k m (live k) refl
