-- The slots in use as the digits of a word: one more, one less, the lowest that is free. Assumes nothing.
use Prim.Native.Nat.{ℕ, ◌+◌, ◌-◌, ◌^◌, ◌<◌}
use mathlib.Core.Path.{◌≡◌, refl, sym, ap, ◌∙◌, subst}
use mathlib.Core.Bool.{Bool, true, false, not, ◌&&◌, ◌||◌}
use native.Mathlib.Omega.{arith}
use native.Mathlib.Decide.{dec_lt, ℕ_discrete as dec_eq}
use lib.Bits.{bit_and, bit_or}
use lib.Dec.{T, leb, ltb, eqb, eqb→eq, T_not, not_T}
use borrow.Author.Tests.{leb-true, lt-ltb, le-leb, le-ltb, eq-eqb, ne_eqb}
use lib.ListN.{length, get_or, set}
use lib.Seq.{get_or-set_same, get_or-set_other}
use mathlib.Core.List.{List}
use Rattle.lists.specs.Lists.{some?, range}
use Rattle.lists.proofs.Bools.{and_l, and_r, and_i, is_true, same_bool}
use Rattle.lists.proofs.Members.{Passing, some-pass, pass-some, range-in, in-range}
use Rattle.lists.proofs.Append.{index_is}
use Rattle.tasks.specs.declared.Task.{Task}
use Rattle.tasks.specs.Tasks.{live, free_slot}
use Rattle.words.specs.Words.{bit, Least}
use Rattle.words.proofs.Digits.{bit-or, bit-and, bit_not}
use Rattle.slots.specs.Slots.{all_aged_to}
use Rattle.live.specs.Live.{slot_at, After, Falling}
use Rattle.live.specs.Kept.{Stands, InUse, lowest_free}
use Rattle.live.proofs.Standing.{after-stands}

-- from a slot up to the next: that slot alone
one-slot : (slot j : ℕ) → (leb slot (0 + j) && ltb (0 + j) (slot + 1)) ≡ eqb j slot
one-slot slot j = go (dec_eq j slot)
  where
    other : (a b : Bool) → (a ≡ true → b ≡ false) → (a && b) ≡ false
    other true b f = f refl
    other false b f = refl

    go : Dec (j ≡ slot) → (leb slot (0 + j) && ltb (0 + j) (slot + 1)) ≡ eqb j slot
    go (yes e) = rw (le-leb slot (0 + j) (omega arith), lt-ltb (0 + j) (slot + 1) (omega arith)) (sym (eq-eqb j slot e))
    go (no e) = other (leb slot (0 + j)) (ltb (0 + j) (slot + 1)) (λ q. far (leb slot (0 + j)) refl q) ∙ sym (ne_eqb j slot e)
      where
        far : (b : Bool) → leb slot (0 + j) ≡ b → b ≡ true → ltb (0 + j) (slot + 1) ≡ false
        far b p q = le-ltb (0 + j) (slot + 1) (let l = leb-true slot (0 + j) (p ∙ q) in omega arith)

module _ (used one slot : ℕ) (f : (j : ℕ) → j < 64 → bit one j ≡ (leb slot (0 + j) && ltb (0 + j) (slot + 1))) where
  pub one_more : (j : ℕ) → j < 64 → bit (bit_or used one) j ≡ (bit used j || eqb j slot)
  one_more j h = bit-or used one j ∙ ap (λ b. bit used j || b) (f j h ∙ one-slot slot j)

  pub one_less : one < 2 ^ 64 → (j : ℕ) → j < 64 → bit (bit_and used (18446744073709551615 - one)) j ≡ (bit used j && not (eqb j slot))
  one_less z j h =
      bit-and used (18446744073709551615 - one) j ∙ ap (λ b. bit used j && b) (bit_not 64 one j z h ∙ ap not (f j h ∙ one-slot slot j))

-- the least digit that is set the other way round
pub least-clear : (used r : ℕ) → used < 2 ^ 64 → Least (bit (18446744073709551615 - used)) 0 64 r → Least (λ (j : ℕ). not (bit used j)) 0 64 r
least-clear used r z l = record {
  low = l.low;
  high = l.high;
  before = λ c p q. sym (bit_not 64 used c z (omega (arith, l.high))) ∙ l.before c p q;
  here = λ q. sym (bit_not 64 used r z q) ∙ l.here q;
}

-- SLOT BY SLOT
pub in_use : {ks : List Task} {used : ℕ} → InUse 64 ks used → (j : ℕ) → j < 64 → bit used j ≡ live (get_or ks j free_slot)
in_use {ks} u j h = u.is j h ∙ ap (λ b. b && live (get_or ks j free_slot)) (lt-ltb j 64 h)

pub use-in : (ks : List Task) (used : ℕ) → ((j : ℕ) → j < 64 → bit used j ≡ live (get_or ks j free_slot)) → InUse 64 ks used
use-in ks used f = record { is = λ j h. f j h ∙ sym (ap (λ b. b && live (get_or ks j free_slot)) (lt-ltb j 64 h)) }

-- THE LOWEST FREE SLOT of those in use
pub free-lowest : {ks : List Task} {used r : ℕ} → length ks ≡ 64 → InUse 64 ks used → Least (λ (j : ℕ). not (bit used j)) 0 64 r → r ≡ lowest_free ks
free-lowest {ks} {used} {r} z u l =
    index_is (λ k. not (live k)) ks free_slot r (omega (arith, l.high)) (λ j h. ap not (sym (in_use u j (omega (arith, l.high)))) ∙ l.before j (omega arith) h)
    (λ h. ap not (sym (in_use u r (omega arith))) ∙ l.here (omega arith))

-- A SLOT TAKEN, and one set free
module _ {ks : List Task} {used : ℕ} (z : length ks ≡ 64) (u : InUse 64 ks used) (next : ℕ) {slot : ℕ} (h : slot < 64) where
  pub in-use-more : (x : Task) → T (live x) → ((j : ℕ) → j < 64 → bit next j ≡ (bit used j || eqb j slot)) → InUse 64 (set ks slot x) next
  in-use-more x t f = use-in _ _ (λ j l. f j l ∙ go j l (dec_eq j slot))
    where
      either : (b : Bool) → (b || true) ≡ true
      either true = refl
      either false = refl

      none : (b : Bool) → (b || false) ≡ b
      none true = refl
      none false = refl

      go : (j : ℕ) → j < 64 → Dec (j ≡ slot) → (bit used j || eqb j slot) ≡ live (get_or (set ks slot x) j free_slot)
      go j l (yes e) = rw (eq-eqb j slot e, e, get_or-set_same ks slot x free_slot (omega arith)) (either (bit used slot) ∙ sym (is_true (live x) t))
      go j l (no e) = rw (ne_eqb j slot e, get_or-set_other ks slot j x free_slot e) (none (bit used j) ∙ in_use u j l)

  pub in-use-less : ((j : ℕ) → j < 64 → bit next j ≡ (bit used j && not (eqb j slot))) → InUse 64 (set ks slot free_slot) next
  in-use-less f = use-in _ _ (λ j l. f j l ∙ go j l (dec_eq j slot))
    where
      none : (b : Bool) → (b && false) ≡ false
      none true = refl
      none false = refl

      just : (b : Bool) → (b && true) ≡ b
      just true = refl
      just false = refl

      go : (j : ℕ) → j < 64 → Dec (j ≡ slot) → (bit used j && not (eqb j slot)) ≡ live (get_or (set ks slot free_slot) j free_slot)
      go j l (yes e) = rw (eq-eqb j slot e, e, get_or-set_same ks slot free_slot free_slot (omega arith)) (none (bit used slot))
      go j l (no e) = rw (ne_eqb j slot e, get_or-set_other ks slot j free_slot free_slot e) (just (bit used j) ∙ in_use u j l)

-- THE CLOCK: the slots of those that have finished are free
pub in-use-after : {ks : List Task} {n : ℕ} {rows : List ℕ} {t r used : ℕ} → Stands 64 ks n rows → After rows n t r → Falling n rows → InUse 64 ks used → (next : ℕ)
    → ((j : ℕ) → j < 64 → bit next j ≡ (bit used j && not (some? (λ (i : ℕ). eqb j (slot_at rows i)) (range r (n - r))))) → InUse 64 (all_aged_to t ks) next
in-use-after {ks} {n} {rows} {t} {r} {used} o a f u next g =
    use-in _ _ (λ j h. g j h ∙ same_bool (bit used j && not (left j)) (live (get_or (all_aged_to t ks) j free_slot)) (to j h) (back j h))
  where
    after : Stands 64 (all_aged_to t ks) r rows
    after = after-stands o a f

    -- one of those that have finished has slot j
    left : ℕ → Bool
    left j = some? (λ (i : ℕ). eqb j (slot_at rows i)) (range r (n - r))

    to : (j : ℕ) → j < 64 → T (bit used j && not (left j)) → T (live (get_or (all_aged_to t ks) j free_slot))
    to j h v =
        let w = o.every j h (subst T (in_use u j h) (and_l (bit used j) (not (left j)) v)) in
        go w.0 w.1 w.2 (dec_lt w.0 r)
      where
        go : (i : ℕ) → i < n → slot_at rows i ≡ j → Dec (i < r) → T (live (get_or (all_aged_to t ks) j free_slot))
        go i l e (yes q) = subst (λ s. T (live (get_or (all_aged_to t ks) s free_slot))) e (after.each i q).there
        go i l e (no q) =
            absurd (T_not (left j) (and_r (bit used j) (not (left j)) v)
            (pass-some (λ (i : ℕ). eqb j (slot_at rows i)) (range r (n - r)) (in-range r (n - r) i (omega arith) (omega (arith, a.few))) (rw (eq-eqb j (slot_at rows i) (sym e)) tt)))

    back : (j : ℕ) → j < 64 → T (live (get_or (all_aged_to t ks) j free_slot)) → T (bit used j && not (left j))
    back j h v =
        let w = after.every j h v in
        and_i (bit used j) (not (left j))
        (subst T (sym (in_use u j h)) (subst (λ s. T (live (get_or ks s free_slot))) w.2 (o.each w.0 (omega (arith, w.1, a.few))).there))
        (not_T (left j) (λ p. two w.0 w.1 w.2 (some-pass (λ (i : ℕ). eqb j (slot_at rows i)) (range r (n - r)) p)))
      where
        two : (i : ℕ) → i < r → slot_at rows i ≡ j → Passing (λ (i : ℕ). eqb j (slot_at rows i)) (range r (n - r)) → ⊥
        two i l e p =
            let w = range-in r (n - r) p.among in
            o.once i p.it (omega (arith, w.low)) (omega (arith, w.high, a.few)) (e ∙ eqb→eq j (slot_at rows p.it) p.passes)
