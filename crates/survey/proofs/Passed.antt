-- The survey's loop: what stands after some slots, and that one slot more keeps it. Assumes nothing.
use Prim.Native.Nat.{ℕ, ◌+◌, ◌%◌, ◌≤◌, ◌<◌}
use mathlib.Core.Path.{◌≡◌, refl, sym, ap, ◌∙◌, subst}
use mathlib.Core.Bool.{Bool, true, false, cond, ◌&&◌, ◌||◌}
use mathlib.Core.List.{List, [], ◌∷◌}
use native.Mathlib.Omega.{arith}
use native.Mathlib.Decide.{dec_lt, ℕ_discrete as dec_eq}
use borrow.Author.Tests.{lt-ltb, le-ltb, eq-eqb, ne_eqb}
use lib.Dec.{T, ltb, eqb}
use lib.ListN.{length, take, get_or}
use lib.Seq.{take_all}
use Rattle.lists.specs.Lists.{all?}
use Rattle.lists.proofs.Bools.{and_l, and_r, is_true}
use Rattle.lists.proofs.Append.{all_more}
use Rattle.tasks.specs.declared.Device.{Device}
use Rattle.tasks.specs.declared.Task.{Task}
use Rattle.tasks.specs.Tasks.{finish, live, free_slot}
use Rattle.slots.specs.Slots.{slot_sound}
use Rattle.slots.proofs.Soundness.{task-out}
use Rattle.words.specs.Words.{bit}
use Rattle.live.specs.Live.{at, number, put_from}
use Rattle.live.specs.Kept.{Stands, InUse}
use Rattle.live.proofs.Putting.{six, put-length, put-here, put_other}
use Rattle.live.proofs.Standing.{no-slots, slot-skipped, slot-taken}
use Rattle.std.proofs.Common.{Ok, Err}
use Rattle.survey.specs.Survey.{Surveyed}

-- the numbers that the survey puts of slot i
abbrev pub numbers_of : Task → ℕ → List ℕ
numbers_of k i = k.start ∷ ((k.start + k.e) % 4294967296) ∷ k.column ∷ (k.column + k.w) ∷ k.id ∷ i ∷ []

module _ (D : Device) (now : ℕ) (ks : List Task) where
  -- after i slots
  pub record Passed (rows : List ℕ) (n used : ℕ) (sound : Bool) (i : ℕ) : Type 0 where
    pub size : length rows ≡ 384
    pub slots : length ks ≡ 64
    pub upto : i ≤ 64
    pub below : n ≤ i
    pub taken : InUse i ks used
    pub sounds : sound ≡ all? (slot_sound D now) (take i ks)
    pub stands : T (all? (slot_sound D now) (take i ks)) → Stands i ks n rows

  pub begin : (rows : List ℕ) → length rows ≡ 384 → length ks ≡ 64 → ((j : ℕ) → j < 64 → bit 0 j ≡ false) → Passed rows 0 0 true 0
  unfolding all?
  begin rows z y none = record {
    size = z;
    slots = y;
    upto = omega arith;
    below = omega arith;
    taken = record { is = λ s h. none s h ∙ rw (le-ltb s 0 (omega arith)) refl };
    sounds = refl;
    stands = λ t. no-slots ks rows y;
  }

  -- a sound live task's finish fits
  fits : (k : Task) → T (live k) → T (slot_sound D now k) → (k.start + k.e) % 4294967296 ≡ finish k
  unfolding slot_sound
  fits k t s = let o = task-out D now k t (rw (is_true (live k) t) at s) in omega (arith, o.in-time, o.d)

  -- ONE SLOT MORE
  pub pass : {rows : List ℕ} {n used : ℕ} {sound : Bool} {i : ℕ} → Passed rows n used sound i → i < 64
      → {well alive : Bool} {more next : ℕ} → well ≡ slot_sound D now (get_or ks i free_slot) → alive ≡ live (get_or ks i free_slot)
      → more ≡ cond alive 1 0 → ((j : ℕ) → j < 64 → bit next j ≡ (bit used j || (alive && eqb j i)))
      → Passed (put_from 0 rows n (numbers_of (get_or ks i free_slot) i)) (n + more) next (sound && well) (i + 1)
  unfolding number
  pass {rows} {n} {used} {sound} {i} p h {well} {alive} {more} {next} w a m u = record {
    size = put-length (numbers_of k i) 0 rows n ∙ p.size;
    slots = p.slots;
    upto = omega arith;
    below = low alive m;
    taken = record { is = λ s l. in_use s l (dec_eq s i) };
    sounds = rw (every_more, p.sounds, w);
    stands = λ t. step (rw every_more at t) (live k) refl;
  }
    where
      k : Task
      k = get_or ks i free_slot

      every_more : all? (slot_sound D now) (take (i + 1) ks) ≡ (all? (slot_sound D now) (take i ks) && slot_sound D now k)
      every_more = all_more (slot_sound D now) ks i free_slot (omega (arith, p.slots))

      low : (b : Bool) → more ≡ cond b 1 0 → n + more ≤ i + 1
      low true e = omega (arith, p.below)
      low false e = omega (arith, p.below)

      either : (b c : Bool) → (b || c && false) ≡ b
      either true c = refl
      either false true = refl
      either false false = refl

      just : (c : Bool) → (c && true) ≡ c
      just true = refl
      just false = refl

      in_use : (s : ℕ) → s < 64 → Dec (s ≡ i) → bit next s ≡ (ltb s (i + 1) && live (get_or ks s free_slot))
      in_use s l (yes e) =
          u s l ∙ rw (p.taken.is s l, le-ltb s i (omega arith), eq-eqb s i e, lt-ltb s (i + 1) (omega arith), a) (just (live k) ∙ ap (λ j. live (get_or ks j free_slot)) (sym e))
      in_use s l (no e) =
          u s l ∙ rw (p.taken.is s l, ne_eqb s i e) (either (ltb s i && live (get_or ks s free_slot)) alive ∙ ap (λ b. b && live (get_or ks s free_slot)) (before (dec_lt s i)))
        where
          before : Dec (s < i) → ltb s i ≡ ltb s (i + 1)
          before (yes q) = rw (lt-ltb s i q, lt-ltb s (i + 1) (omega arith)) refl
          before (no q) = rw (le-ltb s i (omega arith), le-ltb s (i + 1) (omega arith)) refl

      other : (r j : ℕ) → r < 6 → j < n → at r (put_from 0 rows n (numbers_of k i)) j ≡ at r rows j
      other r j q l = put_other (numbers_of k i) 0 rows n r j (omega (arith, p.below)) (omega (arith, p.below)) (λ e. omega arith)

      here : (r : ℕ) → r < 6 → at r (put_from 0 rows n (numbers_of k i)) n ≡ get_or (numbers_of k i) r 0
      here r q = put-here (numbers_of k i) rows n r (omega (arith, p.below)) q (omega (arith, p.size))

      step : T (all? (slot_sound D now) (take i ks) && slot_sound D now k) → (b : Bool) → live k ≡ b → Stands (i + 1) ks (n + more) (put_from 0 rows n (numbers_of k i))
      step t true e =
          let before = p.stands (and_l (all? (slot_sound D now) (take i ks)) (slot_sound D now k) t) in
          let good = and_r (all? (slot_sound D now) (take i ks)) (slot_sound D now k) t in
          let z : more ≡ 1 = m ∙ ap (λ b. cond b 1 0) (a ∙ e) in
          rw z (slot-taken before h (put_from 0 rows n (numbers_of k i)) other p.below (rw e tt)
          (λ r q. here r q ∙ six (λ r. get_or (numbers_of k i) r 0 ≡ number r i k) refl (fits k (rw e tt) good) refl refl refl refl r q))
      step t false e =
          let before = p.stands (and_l (all? (slot_sound D now) (take i ks)) (slot_sound D now k) t) in
          let z : n + more ≡ n = let y : more ≡ 0 = m ∙ ap (λ b. cond b 1 0) (a ∙ e) in omega arith in
          rw z (slot-skipped before h (put_from 0 rows n (numbers_of k i)) other e)

  -- AFTER THE LAST
  module _ {rows : List ℕ} {n used : ℕ} {sound : Bool} {i : ℕ} (p : Passed rows n used sound i) (e : i ≡ 64) where
    whole : take i ks ≡ ks
    whole = take_all i ks (omega (arith, p.slots))

    every : sound ≡ all? (slot_sound D now) ks
    every = p.sounds ∙ ap (all? (slot_sound D now)) whole

    pub end-sound : sound ≡ true → Surveyed D now ks rows (Ok (record { count = n; used = used }))
    end-sound s = record {
      size = p.size;
      slots = p.slots;
      few = omega (arith, p.below);
      used = subst (λ m. InUse m ks used) e p.taken;
      sound = sym s ∙ every;
      stands = λ v q. let z : n ≡ v.count = cc in subst (λ m. Stands 64 ks m rows) z (rw e at (p.stands (rw (← p.sounds, s) tt)));
    }

    pub end-unsound : sound ≡ false → Surveyed D now ks rows (Err (record { count = n; used = used }))
    end-unsound s = record {
      size = p.size;
      slots = p.slots;
      few = omega (arith, p.below);
      used = subst (λ m. InUse m ks used) e p.taken;
      sound = sym s ∙ every;
      stands = λ v q. cc;
    }
