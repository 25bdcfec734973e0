-- What is looked up of a board: handed back as it was; busy at now are the running tasks' columns; stamping at now changes nothing. Assumes nothing.
use Prim.Native.Nat.{ℕ, zero, suc, ◌≤◌}
use mathlib.Core.Path.{◌≡◌, refl, sym, ap, ◌∙◌, subst, fun_ext}
use mathlib.Core.Logic.{◌⊎◌, inl, inr}
use mathlib.Core.Bool.{Bool, not}
use mathlib.Core.List.Memᴰ.{head as here}
use mathlib.Core.List.Memᴰ.{tail as there}
use mathlib.Core.List.{List, [], ◌∷◌, map}
use native.Mathlib.Omega.{arith}
use lib.Dec.{T}
use lib.ListN.{length}
use Rattle.lists.specs.Lists.{◌∈◌, keep, some?}
use Rattle.lists.proofs.Bools.{bool, same_bool}
use Rattle.lists.proofs.Members.{keep-in, in-keep, some-pass, pass-some}
use Rattle.tasks.specs.declared.Phase.{Phase}
use Rattle.tasks.specs.declared.Phase.TheVariants.{Ended, Waiting, Running}
use Rattle.tasks.specs.declared.Task.{Task}
use Rattle.tasks.specs.Tasks.{live, live_phase, running_phase, covers, holds, in_phase, stamped, stamped_all, free_slot}
use Rattle.tasks.proofs.Laws.{holds-out, holds-in, covers_out, covers-in, phase-ended}
use Rattle.columns.specs.Columns.{columns}
use Rattle.slots.proofs.Soundness.{InPhase, running, waiting}
use Rattle.slots.proofs.Ageing.{still}
use Rattle.lookups.specs.Lookups.{busy_columns}
use Rattle.lookups.proofs.Busy.{busy-held}
use Rattle.board.specs.declared.Board.{Board}
use Rattle.board.specs.declared.Listed.{Listed}
use Rattle.board.specs.declared.Counted.{Counted}
use Rattle.board.specs.Refusals.{live_of, refused_instant, refused_horizon, horizon_of}
use Rattle.board.specs.Calls.{or_refused, listed, listed_buffer, counted}
use Rattle.board.proofs.Kept.{SoundBoard, instant-allowed}

-- A REFUSED CALL: its number, count 0, the same board; every word as it was
pub refused-horizon-same : (b : Board) (buffer : List ℕ) (k : ℕ) → refused_horizon b (length buffer) ≡ suc k
    → (listed b (length buffer) ≡ record { number = suc k; count = 0; board = b }) × (listed_buffer b buffer ≡ buffer)
unfolding listed listed_buffer or_refused
refused-horizon-same b buffer k e = (rw e, rw e)

pub refused-busy-same : (b : Board) (i k : ℕ) → refused_instant b i ≡ suc k → counted b i ≡ record { number = suc k; count = 0; board = b }
unfolding counted or_refused
refused-busy-same b i k e = rw e

-- "Openings, horizon list and busy count hand it back unchanged"
pub listed-board : (b : Board) (words : ℕ) → (listed b words).board ≡ b
unfolding listed
listed-board b words = go (refused_horizon b words)
  where
    go : (r : ℕ) → (or_refused {A = Listed} r (λ k. record { number = k; count = 0; board = b }) (record { number = 0; count = length (horizon_of b); board = b })).board ≡ b
    go zero = unfold or_refused in refl
    go (suc r) = unfold or_refused in refl

pub counted-board : (b : Board) (i : ℕ) → (counted b i).board ≡ b
unfolding counted
counted-board b i = go (refused_instant b i)
  where
    busy : ℕ
    busy = busy_columns b.device.columns (live_of b) i

    go : (r : ℕ) → (or_refused {A = Counted} r (λ k. record { number = k; count = 0; board = b }) (record { number = 0; count = busy; board = b })).board ≡ b
    go zero = unfold or_refused in refl
    go (suc r) = unfold or_refused in refl

-- the running tasks of a board, by slot
abbrev pub running_of : Board → List Task
running_of b = keep (λ k. running_phase k.phase) b.tasks

-- BUSY AT NOW are the columns of the running tasks
pub busy-running : (b : Board) → SoundBoard b → busy_columns b.device.columns (live_of b) b.now ≡ length (keep (λ c. some? (covers c) (running_of b)) (columns b.device.columns))
busy-running b s = busy-held b.device.columns (live_of b) b.now ∙ ap (λ p. length (keep p (columns b.device.columns))) (fun_ext same)
  where
    runs : Task → Bool
    runs k = running_phase k.phase

    runs-live : (p : Phase) → T (running_phase p) → T (live_phase p)
    runs-live Ended t = absurd t
    runs-live Waiting t = absurd t
    runs-live Running t = tt

    to : (c : ℕ) → T (some? (holds b.now c) (live_of b)) → T (some? (covers c) (running_of b))
    to c t =
        let p = some-pass (holds b.now c) (live_of b) t in
        let m = keep-in live b.tasks p.among in
        let h = holds-out b.now c p.it p.passes in
        pass-some (covers c) (running_of b) (in-keep runs m.0 (is-running p.it h.started (s.tasks p.it m.0 m.1).phase)) (covers-in c p.it h.left h.right)
      where
        is-running : (k : Task) → k.start ≤ b.now → InPhase b.now k → T (running_phase k.phase)
        is-running k l (running e h) = rw e tt
        is-running k l (waiting e h) = absurd (omega arith)

    from : (c : ℕ) → T (some? (covers c) (running_of b)) → T (some? (holds b.now c) (live_of b))
    from c t =
        let p = some-pass (covers c) (running_of b) t in
        let m = keep-in runs b.tasks p.among in
        let l = runs-live p.it.phase m.1 in
        let o = s.tasks p.it m.0 l in
        let v = covers_out c p.it p.passes in
        pass-some (holds b.now c) (live_of b) (in-keep live m.0 l)
        (holds-in b.now c p.it (record { started = has-started p.it m.1 o.phase; unfinished = o.unfinished; left = v.0; right = v.1 }))
      where
        has-started : (k : Task) → T (running_phase k.phase) → InPhase b.now k → k.start ≤ b.now
        has-started k t (running e h) = h
        has-started k t (waiting e h) = absurd (subst (λ p. T (running_phase p)) e t)

    same : (c : ℕ) → some? (holds b.now c) (live_of b) ≡ some? (covers c) (running_of b)
    same c = same_bool (some? (holds b.now c) (live_of b)) (some? (covers c) (running_of b)) (to c) (from c)

-- so the call answers at now
pub counted-now : (b : Board) → SoundBoard b → counted b b.now ≡ record { number = 0; count = length (keep (λ c. some? (covers c) (running_of b)) (columns b.device.columns)); board = b }
unfolding counted or_refused
counted-now b s =
    rw (instant-allowed b b.now s (omega arith) s.clock)
    (ap (λ n. record { number = 0; count = n; board = b }) (busy-running b s))

map-still : (f : Task → Task) (ks : List Task) → ((k : Task) → k ∈ ks → f k ≡ k) → map f ks ≡ ks
map-still f [] g = refl
map-still f (k ∷ ks) g = let r = map-still f ks (λ l m. g l (there m)) in rw (g k (here refl), r)

-- STAMPING AT NOW leaves the live records of a sound board as they are
pub stamp-live : (b : Board) → SoundBoard b → stamped_all b.now (live_of b) ≡ live_of b
stamp-live b s = map-still (stamped b.now) (live_of b) (λ k m. let n = keep-in live b.tasks m in still b.device b.now k (s.tasks k n.0 n.1))

-- and its free slots too
pub stamp-slots : (b : Board) → SoundBoard b → stamped_all b.now b.tasks ≡ b.tasks
stamp-slots b s = map-still (stamped b.now) b.tasks (λ k m. each k m (bool (live k)))
  where
    free : stamped b.now free_slot ≡ free_slot
    free = unfold stamped in ap (λ p. in_phase p free_slot) (phase-ended b.now free_slot (omega arith))

    each : (k : Task) → k ∈ b.tasks → T (live k) ⊎ T (not (live k)) → stamped b.now k ≡ k
    each k m (inl l) = still b.device b.now k (s.tasks k m l)
    each k m (inr l) = let e = s.free k m l in ap (stamped b.now) e ∙ free ∙ sym e
