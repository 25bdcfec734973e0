-- What the tests of `specs/` mean: sharing a column at a tick is Definition 1 of the source; a phase is its instants. Assumes nothing.
use Prim.Native.Nat.{ℕ, ◌≤◌, ◌<◌, max, min}
use mathlib.Core.Path.{◌≡◌, refl, sym, ap, ◌∙◌, subst}
use mathlib.Core.Bool.{Bool, true, false, not, cond, ◌&&◌}
use native.Mathlib.Omega.{arith}
use native.Mathlib.Decide.{dec_le, dec_lt}
use lib.Dec.{T, leb, ltb, leb→le, le→leb, ltb→lt, lt→ltb, eqb→eq}
use borrow.Author.Tests.{lt-ltb, le-ltb}
use Rattle.lists.proofs.Bools.{and_l, and_r, and_i, same_bool}
use Rattle.tasks.specs.declared.Device.{Device}
use Rattle.tasks.specs.declared.Phase.TheVariants.{Ended, Waiting, Running}
use Rattle.tasks.specs.declared.Task.{Task}
use Rattle.tasks.specs.Numbers.{most_columns, within, multiple, device_fits, size_fits}
use Rattle.tasks.specs.Tasks.{from, finish, past, overlap, meets, covers, holds, phase_at, running_phase, same_phase, free_slot, zeros}

-- a number from lo to hi
pub record Between (lo hi n : ℕ) : Type 0 where
  pub low : lo ≤ n
  pub high : n ≤ hi

pub within-out : (lo hi n : ℕ) → T (within lo hi n) → Between lo hi n
within-out lo hi n t = record { low = leb→le lo n (and_l (leb lo n) (leb n hi) t); high = leb→le n hi (and_r (leb lo n) (leb n hi) t) }

pub within_in : (lo hi n : ℕ) → Between lo hi n → T (within lo hi n)
within_in lo hi n b = and_i (leb lo n) (leb n hi) (le→leb lo n b.low) (le→leb n hi b.high)

-- the columns of a device that fits
pub columns-fit : (D : Device) → T (device_fits D) → D.columns ≤ most_columns
columns-fit D t = (within-out 1 most_columns D.columns (search (and_l, and_r) depth 5)).high

-- a size that fits a device
pub record Sized (D : Device) (w h : ℕ) : Type 0 where
  pub width : Between 1 D.columns w
  pub height : Between 1 D.rows h
  pub stepped : T (multiple D.grid w)

pub size-out : (D : Device) (w h : ℕ) → T (size_fits D w h) → Sized D w h
size-out D w h t = record {
  width = within-out 1 D.columns w (search (and_l, and_r) depth 4);
  height = within-out 1 D.rows h (search (and_l, and_r) depth 4);
  stepped = search (and_l, and_r) depth 4;
}

pub size_in : (D : Device) (w h : ℕ) → Sized D w h → T (size_fits D w h)
size_in D w h s =
    and_i (within 1 D.columns w && within 1 D.rows h) (multiple D.grid w)
    (and_i (within 1 D.columns w) (within 1 D.rows h) (within_in 1 D.columns w s.width) (within_in 1 D.rows h s.height)) s.stepped

-- a number that lies from a up to, not including, b and from c up to d
pub record Common (a b c d : ℕ) : Type 0 where
  pub it : ℕ
  pub low₁ : a ≤ it
  pub high₁ : it < b
  pub low₂ : c ≤ it
  pub high₂ : it < d

pub overlap-common : (a b c d : ℕ) → T (overlap a b c d) → Common a b c d
overlap-common a b c d t =
    let h = ltb→lt (max a c) (min b d) t in
    record { it = max a c; low₁ = omega arith; high₁ = omega arith; low₂ = omega arith; high₂ = omega arith }

pub common-overlap : (a b c d : ℕ) → Common a b c d → T (overlap a b c d)
common-overlap a b c d k = lt→ltb (max a c) (min b d) (omega arith)

-- two stretches that are not empty overlap exactly if each begins before the other ends
pub overlap-either : (a b c d : ℕ) → a < b → c < d → overlap a b c d ≡ (ltb a d && ltb c b)
overlap-either a b c d p q =
    same_bool (overlap a b c d) (ltb a d && ltb c b)
    (λ t. let h = ltb→lt (max a c) (min b d) t in and_i (ltb a d) (ltb c b) (lt→ltb a d (omega arith)) (lt→ltb c b (omega arith)))
    (λ t.
    let h = ltb→lt a d (and_l (ltb a d) (ltb c b) t) in
    let k = ltb→lt c b (and_r (ltb a d) (ltb c b) t) in
    lt→ltb (max a c) (min b d) (omega arith))

-- TWO TASKS SHARE A COLUMN AT A TICK
pub record Share (t u : Task) : Type 0 where
  pub column : Common t.column (past t) u.column (past u)
  pub tick : Common (from t) (finish t) (from u) (finish u)

pub meets-share : (t u : Task) → T (meets t u) → Share t u
unfolding meets
meets-share t u h =
    let a = overlap t.column (past t) u.column (past u) in
    let b = overlap (from t) (finish t) (from u) (finish u) in
    record { column = overlap-common _ _ _ _ (and_l a b h); tick = overlap-common _ _ _ _ (and_r a b h) }

pub share-meets : (t u : Task) → Share t u → T (meets t u)
unfolding meets
share-meets t u s =
    and_i (overlap t.column (past t) u.column (past u)) (overlap (from t) (finish t) (from u) (finish u))
    (common-overlap _ _ _ _ s.column) (common-overlap _ _ _ _ s.tick)

pub share-sym : (t u : Task) → Share t u → Share u t
share-sym t u s = record { column = turned s.column; tick = turned s.tick }
  where
    turned : {a b c d : ℕ} → Common a b c d → Common c d a b
    turned k = record { it = k.it; low₁ = k.low₂; high₁ = k.high₂; low₂ = k.low₁; high₂ = k.high₁ }

-- the four ways to be apart of Definition 1
pub data Apart (t u : Task) : Type 0 where
  left : past t ≤ u.column → Apart t u
  right : past u ≤ t.column → Apart t u
  sooner : finish t ≤ from u → Apart t u
  later : finish u ≤ from t → Apart t u

pub apart-clear : (t u : Task) → Apart t u → Share t u → ⊥
apart-clear t u (left h) s = omega arith
apart-clear t u (right h) s = omega arith
apart-clear t u (sooner h) s = omega arith
apart-clear t u (later h) s = omega arith

-- DEFINITION 1: tasks of one column or more and one tick or more share none exactly if they are apart
pub definition-1 : (t u : Task) → 1 ≤ t.w → 1 ≤ u.w → 1 ≤ t.e → 1 ≤ u.e → (Share t u → ⊥) → Apart t u
definition-1 t u a b c d f =
    step (dec_le (past t) u.column) (dec_le (past u) t.column) (dec_le (finish t) (from u)) (dec_le (finish u) (from t))
  where
    step : Dec (past t ≤ u.column) → Dec (past u ≤ t.column) → Dec (finish t ≤ from u) → Dec (finish u ≤ from t) → Apart t u
    step (yes p) q r s = left p
    step (no p) (yes q) r s = right q
    step (no p) (no q) (yes r) s = sooner r
    step (no p) (no q) (no r) (yes s) = later s
    step (no p) (no q) (no r) (no s) =
        absurd (f (record {
          column = record { it = max t.column u.column; low₁ = omega arith; high₁ = omega arith; low₂ = omega arith; high₂ = omega arith };
          tick = record { it = max (from t) (from u); low₁ = omega arith; high₁ = omega arith; low₂ = omega arith; high₂ = omega arith };
        }))

-- A TASK HOLDS COLUMN c AT INSTANT i
pub record Holds (i c : ℕ) (t : Task) : Type 0 where
  pub started : from t ≤ i
  pub unfinished : i < finish t
  pub left : t.column ≤ c
  pub right : c < past t

pub holds-out : (i c : ℕ) (t : Task) → T (holds i c t) → Holds i c t
unfolding holds covers
holds-out i c t h = record {
  started = leb→le (from t) i (search (and_l, and_r) depth 9);
  unfinished = ltb→lt i (finish t) (search (and_l, and_r) depth 9);
  left = leb→le t.column c (search (and_l, and_r) depth 9);
  right = ltb→lt c (past t) (search (and_l, and_r) depth 9);
}

pub holds-in : (i c : ℕ) (t : Task) → Holds i c t → T (holds i c t)
unfolding holds covers
holds-in i c t h = search (and_i, le→leb, h.started, h.unfinished, h.left, h.right) depth 12

pub covers-in : (c : ℕ) (t : Task) → t.column ≤ c → c < past t → T (covers c t)
unfolding covers
covers-in c t l h = and_i (leb t.column c) (ltb c (past t)) (le→leb _ _ l) (lt→ltb _ _ h)

pub covers_out : (c : ℕ) (t : Task) → T (covers c t) → (t.column ≤ c) × (c < past t)
unfolding covers
covers_out c t h = (leb→le _ _ (and_l (leb t.column c) (ltb c (past t)) h), ltb→lt _ _ (and_r (leb t.column c) (ltb c (past t)) h))

-- THE PHASE AT AN INSTANT
pub phase-waiting : (i : ℕ) (t : Task) → i < from t → phase_at i t ≡ Waiting
unfolding phase_at
phase-waiting i t h = rw (lt-ltb i (from t) h)

pub phase-running : (i : ℕ) (t : Task) → from t ≤ i → i < finish t → phase_at i t ≡ Running
unfolding phase_at
phase-running i t l h = rw (le-ltb i (from t) l, lt-ltb i (finish t) h)

pub phase-ended : (i : ℕ) (t : Task) → finish t ≤ i → phase_at i t ≡ Ended
unfolding phase_at
phase-ended i t h = let l : from t ≤ i = omega arith in rw (le-ltb i (from t) l, le-ltb i (finish t) h)

-- "e = 0 is never running"
pub never-running : (i : ℕ) (t : Task) → t.e ≡ 0 → phase_at i t ≡ Running → ⊥
unfolding phase_at
never-running i t z e = step (dec_lt i (from t))
  where
    step : Dec (i < from t) → ⊥
    step (yes h) = let k : false ≡ true = sym (ap running_phase (phase-waiting i t h)) ∙ ap running_phase e in subst T (sym k) tt
    step (no h) = let k : false ≡ true = sym (ap running_phase (phase-ended i t (omega arith))) ∙ ap running_phase e in subst T (sym k) tt

-- a record of zeros with the phase ended is the free slot
pub zeros-free : (t : Task) → T (zeros t) → t.phase ≡ Ended → t ≡ free_slot
unfolding zeros
zeros-free t h p = λ i. record {
  id = eqb→eq t.id 0 (search (and_l, and_r) depth 9) i;
  e = eqb→eq t.e 0 (search (and_l, and_r) depth 9) i;
  d = eqb→eq t.d 0 (search (and_l, and_r) depth 9) i;
  start = eqb→eq t.start 0 (search (and_l, and_r) depth 9) i;
  w = eqb→eq t.w 0 (search (and_l, and_r) depth 9) i;
  h = eqb→eq t.h 0 (search (and_l, and_r) depth 9) i;
  column = eqb→eq t.column 0 (search (and_l, and_r) depth 9) i;
  phase = p i;
}

-- each phase by the two tests of the rule
pub is-ended : (i : ℕ) (t : Task) → same_phase Ended (phase_at i t) ≡ (not (ltb i (from t)) && not (ltb i (finish t)))
unfolding phase_at
is-ended i t = by (ltb i (from t)) (ltb i (finish t))
  where
    by : (w h : Bool) → same_phase Ended (cond w Waiting (cond h Running Ended)) ≡ (not w && not h)
    by true h = refl
    by false true = refl
    by false false = refl

pub is-waiting : (i : ℕ) (t : Task) → same_phase Waiting (phase_at i t) ≡ ltb i (from t)
unfolding phase_at
is-waiting i t = by (ltb i (from t)) (ltb i (finish t))
  where
    by : (w h : Bool) → same_phase Waiting (cond w Waiting (cond h Running Ended)) ≡ w
    by true h = refl
    by false true = refl
    by false false = refl

pub is-running : (i : ℕ) (t : Task) → same_phase Running (phase_at i t) ≡ (not (ltb i (from t)) && ltb i (finish t))
unfolding phase_at
is-running i t = by (ltb i (from t)) (ltb i (finish t))
  where
    by : (w h : Bool) → same_phase Running (cond w Waiting (cond h Running Ended)) ≡ (not w && h)
    by true h = refl
    by false true = refl
    by false false = refl
