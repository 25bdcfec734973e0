-- Booking and withdrawal over the slots: a sound board stays sound. Assumes nothing.
use Prim.Native.Nat.{ℕ}
use mathlib.Core.Path.{◌≡◌, sym, ◌∙◌, subst}
use mathlib.Core.Logic.{◌⊎◌, inl, inr}
use mathlib.Core.Bool.{Bool, not}
use mathlib.Core.List.{List}
use lib.Dec.{T, T_not}
use Rattle.lists.specs.Lists.{◌∈◌}
use Rattle.lists.proofs.Order.{put_in, sorted-put}
use Rattle.lists.proofs.Append.{length-put}
use Rattle.tasks.specs.declared.Device.{Device}
use Rattle.tasks.specs.declared.Task.{Task}
use Rattle.tasks.specs.Tasks.{live, free_slot}
use Rattle.tasks.proofs.Laws.{share-sym}
use Rattle.slots.specs.Slots.{named, with_booked, without_named}
use Rattle.slots.proofs.Soundness.{SoundTask, Together, Sound, in-phase-live}

-- a test of free slots
abbrev free_test : Task → Bool
free_test k = not (live k)

turned : (k l : Task) → Together k l → Together l k
turned k l t = record { ids = λ e. t.ids (sym e); apart = λ s. t.apart (share-sym l k s) }

module _ (D : Device) (now : ℕ) (ks : List Task) (s : Sound D now ks) where
  -- BOOKING A SOUND TASK that is apart from every live one KEEPS THE BOARD SOUND
  pub booked-sound : (k : Task) → SoundTask D now k → ((l : Task) → l ∈ ks → T (live l) → Together k l) → Sound D now (with_booked k ks)
  unfolding with_booked
  booked-sound k o f = record {
    columns = s.columns;
    rows = s.rows;
    grid = s.grid;
    stepped = s.stepped;
    clock = s.clock;
    slots = length-put free_test k ks ∙ s.slots;
    tasks = λ l m t. pick l (put_in Together live free_test k ks m) t;
    free = λ l m t. none l (put_in Together live free_test k ks m) t;
    together = sorted-put Together live free_test k ks (λ l m t u. let r = f l m t in (r, turned k l r)) s.together (λ l t u v. T_not (live l) t u);
  }
    where
      pick : (l : Task) → (l ≡ k) ⊎ (l ∈ ks) → T (live l) → SoundTask D now l
      pick l (inl e) t = subst (SoundTask D now) (sym e) o
      pick l (inr m) t = s.tasks l m t

      none : (l : Task) → (l ≡ k) ⊎ (l ∈ ks) → T (not (live l)) → l ≡ free_slot
      none l (inl e) t = absurd (T_not (live k) (subst (λ x. T (not (live x))) e t) (in-phase-live now k o.phase))
      none l (inr m) t = s.free l m t

  -- WITHDRAWAL KEEPS THE BOARD SOUND
  pub withdrawn-sound : (n : ℕ) → Sound D now (without_named n ks)
  unfolding without_named
  withdrawn-sound n = record {
    columns = s.columns;
    rows = s.rows;
    grid = s.grid;
    stepped = s.stepped;
    clock = s.clock;
    slots = length-put (named n) free_slot ks ∙ s.slots;
    tasks = λ l m t. pick l (put_in Together live (named n) free_slot ks m) t;
    free = λ l m t. none l (put_in Together live (named n) free_slot ks m) t;
    together = sorted-put Together live (named n) free_slot ks (λ l m t u. absurd u) s.together (λ l t u v. v);
  }
    where
      pick : (l : Task) → (l ≡ free_slot) ⊎ (l ∈ ks) → T (live l) → SoundTask D now l
      pick l (inl e) t = absurd (subst (λ x. T (live x)) e t)
      pick l (inr m) t = s.tasks l m t

      none : (l : Task) → (l ≡ free_slot) ⊎ (l ∈ ks) → T (not (live l)) → l ≡ free_slot
      none l (inl e) t = e
      none l (inr m) t = s.free l m t
