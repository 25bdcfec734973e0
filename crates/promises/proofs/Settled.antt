-- The clauses of Clauses leave nothing open: any two results that follow them are equal. Assumes nothing.
use Prim.Native.Nat.{ℕ, ◌*◌, ◌≤◌, ◌<◌}
use mathlib.Core.Path.{◌≡◌, refl, sym, ap, ◌∙◌, subst}
use mathlib.Core.Logic.{◌⊎◌, inl, inr}
use mathlib.Core.Bool.{not}
use mathlib.Core.List.{List, ◌++◌}
use native.Mathlib.Omega.{arith}
use native.Mathlib.Decide.{dec_le, dec_lt}
use lib.Dec.{T}
use lib.ListN.{length, drop}
use lib.Seq.{ext_get_or}
use Rattle.lists.specs.Lists.{◌∈◌}
use Rattle.lists.proofs.Bools.{bool}
use Rattle.lists.proofs.Order.{sorted-unique}
use Rattle.tasks.specs.declared.Task.{Task}
use Rattle.tasks.specs.declared.Submission.{Submission}
use Rattle.tasks.specs.Tasks.{finish, live, in_phase, free_slot}
use Rattle.lookups.specs.Lookups.{Strip, strip_numbers}
use Rattle.lookups.proofs.HorizonList.{Earlier, sooner, lefter}
use Rattle.board.specs.declared.Board.{Board}
use Rattle.board.proofs.Kept.{slot_at}
use Rattle.promises.proofs.Clauses.{Books, Ages, Removes, ListsRuns, CountsHeld, Stamps}

-- a board is its slots, its clock and its device
same-board : (x y : Board) → length x.tasks ≡ length y.tasks → ((i : ℕ) → slot_at x i ≡ slot_at y i) → x.now ≡ y.now → x.device ≡ y.device → x ≡ y
same-board x y l f n d =
    let t = ext_get_or free_slot x.tasks y.tasks l (λ i h. f i) in
    λ i. record { tasks = t i; now = n i; device = d i }

-- boards that differ from b in one slot, and hold the same there
one-slot : (b x y : Board) (i j : ℕ) → i ≡ j → slot_at x i ≡ slot_at y j
    → ((k : ℕ) → (k ≡ i → ⊥) → slot_at x k ≡ slot_at b k) → ((k : ℕ) → (k ≡ j → ⊥) → slot_at y k ≡ slot_at b k) → (k : ℕ) → slot_at x k ≡ slot_at y k
one-slot b x y i j z e f g k = by (dec_lt k i) (dec_lt i k)
  where
    by : Dec (k < i) → Dec (i < k) → slot_at x k ≡ slot_at y k
    by (yes l) q = f k (λ n. omega arith) ∙ sym (g k (λ n. omega arith))
    by (no l) (yes q) = f k (λ n. omega arith) ∙ sym (g k (λ n. omega arith))
    by (no l) (no q) =
        let p : k ≡ i = omega arith in
        ap (slot_at x) p ∙ e ∙ ap (slot_at y) (sym (p ∙ z))

-- BOOKING
pub books-settled : {b : Board} {a : Submission} {c s f : ℕ} {x y : Board} → Books b a c s f x → Books b a c s f y → x ≡ y
books-settled {b} {a} {c} {s} {f} {x} {y} p q =
    same-board x y (p.slots ∙ sym q.slots) (one-slot b x y p.slot q.slot one (p.holds ∙ sym q.holds) p.others q.others)
    (p.now ∙ sym q.now) (p.device ∙ sym q.device)
  where
    never : (i : ℕ) → slot_at b i ≡ free_slot → T (live (slot_at b i)) → ⊥
    never i e t = subst (λ k. T (live k)) e t

    by : Dec (p.slot < q.slot) → Dec (q.slot < p.slot) → p.slot ≡ q.slot
    by (yes l) h = absurd (never p.slot p.free (q.lowest p.slot l))
    by (no l) (yes h) = absurd (never q.slot q.free (p.lowest q.slot h))
    by (no l) (no h) = omega arith

    one : p.slot ≡ q.slot
    one = by (dec_lt p.slot q.slot) (dec_lt q.slot p.slot)

-- CLOCK
pub ages-settled : {t : ℕ} {b x y : Board} → Ages t b x → Ages t b y → x ≡ y
ages-settled {t} {b} {x} {y} p q =
    same-board x y (p.slots ∙ sym q.slots) (λ i. by i (bool (live (slot_at b i))) (dec_le (finish (slot_at b i)) t))
    (p.now ∙ sym q.now) (p.device ∙ sym q.device)
  where
    by : (i : ℕ) → T (live (slot_at b i)) ⊎ T (not (live (slot_at b i))) → Dec (finish (slot_at b i) ≤ t) → slot_at x i ≡ slot_at y i
    by i (inl l) (yes h) = p.ended i l h ∙ sym (q.ended i l h)
    by i (inl l) (no h) = p.stands i l (omega arith) ∙ sym (q.stands i l (omega arith))
    by i (inr l) h = p.free i l ∙ sym (q.free i l)

-- WITHDRAWAL
pub removes-settled : {n : ℕ} {b x y : Board} → Removes n b x → Removes n b y → x ≡ y
removes-settled {n} {b} {x} {y} p q =
    same-board x y (p.slots ∙ sym q.slots) (one-slot b x y p.slot q.slot one (p.freed ∙ sym q.freed) p.others q.others)
    (p.now ∙ sym q.now) (p.device ∙ sym q.device)
  where
    one : p.slot ≡ q.slot
    one = q.only p.slot (rw p.waits tt) p.id

-- HORIZON LIST
pub runs-settled : {b : Board} {buffer : List ℕ} {m n : ℕ} {x y : List ℕ} → ListsRuns b buffer m x → ListsRuns b buffer n y → (m ≡ n) × (x ≡ y)
runs-settled {b} {buffer} p q =
    let e = sorted-unique Earlier apart p.runs q.runs p.order q.order (λ s m. q.every s (p.only s m)) (λ s m. p.every s (q.only s m)) in
    (p.counted ∙ ap length e ∙ sym q.counted, p.words ∙ ap (λ rs. strip_numbers rs ++ drop (3 * length rs) buffer) e ∙ sym q.words)
  where
    apart : (s t : Strip) → Earlier s t → Earlier t s → ⊥
    apart s t (sooner h) (sooner g) = omega arith
    apart s t (sooner h) (lefter e g) = omega arith
    apart s t (lefter e h) (sooner g) = omega arith
    apart s t (lefter e h) (lefter d g) = omega arith

-- BUSY COLUMNS
pub held-settled : {b : Board} {i m n : ℕ} → CountsHeld b i m → CountsHeld b i n → m ≡ n
held-settled {b} {i} p q =
    p.counted ∙ ap length (sorted-unique ◌<◌ (λ x y l h. omega arith) p.held q.held p.rising q.rising (over p q) (over q p)) ∙ sym q.counted
  where
    over : {m n : ℕ} (u : CountsHeld b i m) (v : CountsHeld b i n) (c : ℕ) → c ∈ u.held → c ∈ v.held
    over u v c h = let o = u.only c h in v.every c o.2.0 o.0 o.1 o.2.1 o.2.2

-- STAMPS
pub stamps-settled : {t : ℕ} {k x y : Task} → Stamps t k x → Stamps t k y → x ≡ y
stamps-settled {t} {k} {x} {y} p q = p.fields ∙ ap (λ f. in_phase f k) (by (dec_lt t k.start) (dec_lt t (finish k))) ∙ sym q.fields
  where
    by : Dec (t < k.start) → Dec (t < finish k) → x.phase ≡ y.phase
    by (yes l) h = p.waiting l ∙ sym (q.waiting l)
    by (no l) (yes h) = p.running (omega arith) h ∙ sym (q.running (omega arith) h)
    by (no l) (no h) = p.ended (omega arith) (omega arith) ∙ sym (q.ended (omega arith) (omega arith))
