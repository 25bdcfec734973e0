-- Demand 3 about the definitions: the openings are exactly the pairs of documents 01 and 02, strictly ordered, and Full takes the first. Assumes nothing.
use Prim.Native.Nat.{ℕ, suc, ◌+◌, ◌-◌, ◌≤◌, ◌<◌, max, min}
use mathlib.Core.Path.{◌≡◌, refl, ap, ◌∙◌}
use mathlib.Core.Logic.{◌⊎◌, inl, inr}
use mathlib.Core.Bool.{◌&&◌, ◌||◌}
use mathlib.Core.Option.{Option, none, some}
use mathlib.Core.List.Memᴰ.{cases_cons as cases}
use mathlib.Core.List.Memᴰ.{head as here}
use mathlib.Core.List.Memᴰ.{not-nil as nowhere}
use mathlib.Core.List.{List, ◌∷◌}
use native.Mathlib.Omega.{arith}
use lib.Dec.{T, ltb, eqb, ltb→lt, lt→ltb, not_T, T_not}
use lib.ListN.{length, take, drop}
use Rattle.lists.specs.Lists.{◌∈◌, range, last_or}
use Rattle.lists.proofs.Append.{keep-agree}
use Rattle.lists.proofs.Bools.{and_l, and_r, and_i}
use Rattle.lists.proofs.Members.{keep-in, in-keep, none_pass, pass-none, range-in, in-range, head-none, head-some}
use Rattle.lists.proofs.Order.{Sorted, Sorted·head, sorted-keep, sorted-range, sorted-by}
use Rattle.ways.specs.Ways.{pair, is_open, after, openings_after, asked_on}
use Rattle.ways.proofs.Laws.{Lawful, Open, After, sooner, beside, openings-in, in-openings, openings-sorted, openings-unique, rest_in, rest_out, rest_sorted, after-part, asked-all, all}
use Rattle.tasks.specs.declared.Task.{Task}
use Rattle.tasks.specs.declared.Submission.{Submission}
use Rattle.tasks.specs.Numbers.{may_begin}
use Rattle.tasks.specs.Tasks.{from, finish, past, overlap, meets, stamped, booked}
use Rattle.tasks.proofs.Laws.{Common, Share, meets-share, share-meets}
use Rattle.planners.specs.Openings.{Place, ways, openings, full}

-- AN OPENING, in the words of documents 01 and 02
pub record Opening (g W now : ℕ) (ts : List Task) (a : Submission) (p : Place) : Type 0 where
  -- now ≤ s ≤ d − e
  pub from-now : now ≤ p.start
  pub in-time : p.start + a.e ≤ a.d
  -- columns count from 1, and c + w − 1 ≤ W
  pub from_one : 1 ≤ p.place
  pub on-device : p.place + a.w ≤ suc W
  -- "a task may begin only where c − 1 is a multiple of g" (Q-3)
  pub on-grid : T (may_begin g p.place)
  -- no column shared with a live task at any tick from s up to s + e
  pub apart : (u : Task) → u ∈ ts → Common p.place (p.place + a.w) u.column (past u) → Common p.start (p.start + a.e) (from u) (finish u) → ⊥

-- by start and then column
pub data Before (p q : Place) : Type 0 where
  earlier : p.start < q.start → Before p q
  lower : p.start ≡ q.start → p.place < q.place → Before p q

-- TIME ALONE: a stay that begins later still meets what has not finished
pub later-meets : (t v m b g : ℕ) → T (overlap t (t + m) b g) → t ≤ v → v < g → T (overlap v (v + m) b g)
later-meets t v m b g x p q =
    let k = ltb→lt (max t b) (min (t + m) g) x in
    lt→ltb (max v b) (min (v + m) g) (omega arith)

module _ (g W now : ℕ) (ts : List Task) (a : Submission) where
  -- columns are places with an order, column 0 before all of them, and a task leaves with its finish
  pub lawful : Lawful (ways g W now ts a) 0
  unfolding ways meets booked stamped
  lawful = record {
    leaves = λ s c u. finish u;
    stays = λ s v c u m l h.
        let x = overlap c (c + a.w) u.column (past u) in
        let y = overlap s (s + a.e) (from u) (finish u) in
        and_i x (overlap v (v + a.e) (from u) (finish u)) (and_l x y m) (later-meets s v a.e (from u) (finish u) (and_r x y m) l h);
    sorted = sorted-by ◌<◌ (λ p q. T (ltb p q)) (λ x y h. lt→ltb x y h) (sorted-keep ◌<◌ (may_begin g) (sorted-range 1 (suc W - a.w)));
    asym = λ p q h k. omega (arith, ltb→lt p q h, ltb→lt q p k);
    trans = λ p q r h k. lt→ltb p r (omega (arith, ltb→lt p q h, ltb→lt q r k));
    first = λ c m. lt→ltb 0 c (range-in 1 (suc W - a.w) (keep-in (may_begin g) (range 1 (suc W - a.w)) m).0).low;
  }

  pub leaves-finish : (s c : ℕ) (u : Task) → lawful.leaves s c u ≡ finish u
  unfolding lawful
  leaves-finish s c u = refl

  after-before : (p q : Place) → After (ways g W now ts a) p q → Before p q
  unfolding ways
  after-before p q (sooner h) = earlier h
  after-before p q (beside e h) = lower e (ltb→lt p.place q.place h)

  before-after : (p q : Place) → Before p q → After (ways g W now ts a) p q
  unfolding ways
  before-after p q (earlier h) = sooner h
  before-after p q (lower e h) = beside e (lt→ltb p.place q.place h)

  pub open-opening : (p : Place) → Open (ways g W now ts a) p → Opening g W now ts a p
  unfolding ways is_open booked stamped
  open-opening p o =
      let k = keep-in (may_begin g) (range 1 (suc W - a.w)) o.on-board in
      let z = range-in 1 (suc W - a.w) k.0 in
      record {
        from-now = o.from-now;
        in-time = omega (arith, o.in-time);
        from_one = z.low;
        on-device = omega arith;
        on-grid = k.1;
        apart = λ u i x y. T_not (meets (booked now a p.start p.place) u) (none_pass (meets (booked now a p.start p.place)) ts o.clear i)
            (share-meets (booked now a p.start p.place) u (record { column = x; tick = y }));
      }

  pub opening-open : (p : Place) → Opening g W now ts a p → Open (ways g W now ts a) p
  unfolding ways is_open booked stamped
  opening-open p o = record {
    from-now = o.from-now;
    in-time = omega (arith, o.in-time);
    on-board = in-keep (may_begin g) (in-range 1 (suc W - a.w) p.place o.from_one (omega (arith, o.on-device))) o.on-grid;
    clear = pass-none (meets (booked now a p.start p.place)) ts
        (λ u i. not_T (meets (booked now a p.start p.place) u) (λ m. clash u i (meets-share (booked now a p.start p.place) u m)));
  }
    where
      clash : (u : Task) → u ∈ ts → Share (booked now a p.start p.place) u → ⊥
      clash u i s = o.apart u i s.column s.tick

  -- THE OPENINGS ARE EXACTLY THE PAIRS OF DOCUMENTS 01 AND 02
  pub listed-opens : {p : Place} → p ∈ openings g W now ts a → Opening g W now ts a p
  listed-opens {p} m = open-opening p (openings-in (ways g W now ts a) m)

  pub opens-listed : (p : Place) → Opening g W now ts a p → p ∈ openings g W now ts a
  opens-listed p o = in-openings (ways g W now ts a) p (opening-open p o)

  -- STRICTLY ORDERED, so each once
  pub openings-ordered : Sorted Before (openings g W now ts a)
  openings-ordered = sorted-by (After (ways g W now ts a)) Before after-before (openings-sorted (ways g W now ts a) 0 lawful)

  -- AND THE ONLY SUCH LIST
  pub openings-only : (ps : List Place) → Sorted Before ps → ((p : Place) → p ∈ ps → Opening g W now ts a p)
      → ((p : Place) → Opening g W now ts a p → p ∈ ps) → ps ≡ openings g W now ts a
  openings-only ps s f h =
      openings-unique (ways g W now ts a) 0 lawful ps (sorted-by Before (After (ways g W now ts a)) before-after s)
      (λ q m. opening-open q (f q m)) (λ q o. h q (open-opening q o))

  -- THE OPENINGS AFTER A PAIR are those that come strictly after it, in order
  pub after-listed : (q p : Place) → p ∈ openings_after (ways g W now ts a) q → Opening g W now ts a p × Before q p
  after-listed q p m = let k = rest_out (ways g W now ts a) 0 lawful q p m in (open-opening p k.0, after-before q p k.1)

  pub listed-after : (q p : Place) → Opening g W now ts a p → Before q p → p ∈ openings_after (ways g W now ts a) q
  listed-after q p o b = rest_in (ways g W now ts a) 0 lawful q p (opening-open p o) (before-after q p b)

  pub after-ordered : (q : Place) → Sorted Before (openings_after (ways g W now ts a) q)
  after-ordered q = sorted-by (After (ways g W now ts a)) Before after-before (rest_sorted (ways g W now ts a) 0 lawful q)

  -- after the last of the first k of them: the others
  pub after_last : (k : ℕ) (q : Place) → openings_after (ways g W now ts a) (last_or q (take k (openings_after (ways g W now ts a) q))) ≡ drop k (openings_after (ways g W now ts a) q)
  after_last k q = after-part (ways g W now ts a) 0 lawful k q (openings_after (ways g W now ts a) q) refl

  -- a pair further right at the same start, no column between them where a task may begin: the same ones come after it
  pub after-beside : (t c x : ℕ) → ((y : ℕ) → 1 ≤ y → T (may_begin g y) → ltb c y ≡ ltb x y)
      → openings_after (ways g W now ts a) (pair t c) ≡ openings_after (ways g W now ts a) (pair t x)
  unfolding openings_after after ways
  after-beside t c x h =
      keep-agree (after (ways g W now ts a) (pair t c)) (after (ways g W now ts a) (pair t x)) (openings g W now ts a)
      (λ q m. let o = listed-opens m in ap (λ b. ltb t q.start || (eqb t q.start && b)) (h q.place o.from_one o.on-grid))

  -- after (0, 0): all
  pub after_none : openings_after (ways g W now ts a) (pair 0 0) ≡ openings g W now ts a
  after_none = all (ways g W now ts a) 0 lawful

  -- ASKING ON from (0, 0), room for k ≥ 1 a time, goes through the whole list and ends
  pub asking-on : (n k : ℕ) → 1 ≤ k → length (openings g W now ts a) ≤ n → asked_on (ways g W now ts a) n k (pair 0 0) ≡ openings g W now ts a
  asking-on n k h l =
      let e = all (ways g W now ts a) 0 lawful in
      asked-all (ways g W now ts a) 0 lawful n k (pair 0 0) h (rw e l) ∙ e

  -- FULL rejects exactly when there is no opening
  pub full-rejects : full g W now ts a ≡ none → (p : Place) → Opening g W now ts a p → ⊥
  unfolding full
  full-rejects e p o = nowhere (rw (head-none (openings g W now ts a) e) at (opens-listed p o))

  pub full-takes-one : (q : Place) → Opening g W now ts a q → (p : Place) × (full g W now ts a ≡ some p)
  full-takes-one q o = go (full g W now ts a) refl
    where
      go : (r : Option Place) → full g W now ts a ≡ r → (p : Place) × (full g W now ts a ≡ some p)
      go none e = absurd (full-rejects e q o)
      go (some p) e = (p, e)

  -- and takes the first
  pub full-opens : (p : Place) → full g W now ts a ≡ some p → Opening g W now ts a p
  unfolding full
  full-opens p e = let r = head-some (openings g W now ts a) e in listed-opens (rw r.1 (here refl))

  pub full-first : (p q : Place) → full g W now ts a ≡ some p → Opening g W now ts a q → (q ≡ p) ⊎ Before p q
  unfolding full
  full-first p q e o =
      let r = head-some (openings g W now ts a) e in
      pick r.0 (cases (rw r.1 at (opens-listed q o))) (rw r.1 at openings-ordered)
    where
      pick : (ys : List Place) → (q ≡ p) ⊎ (q ∈ ys) → Sorted Before (p ∷ ys) → (q ≡ p) ⊎ Before p q
      pick ys (inl z) s = inl z
      pick ys (inr m) s = inr (Sorted·head Before s q m)
