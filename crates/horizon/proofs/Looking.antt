-- One pass over the steps at a time: what is known after some of them, and that one step more keeps it. Assumes nothing.
use Prim.Native.Nat.{ℕ, suc, ◌+◌, ◌-◌, ◌≤◌, ◌<◌, min}
use mathlib.Core.Path.{◌≡◌, refl, sym, ap, ◌∙◌, subst}
use mathlib.Core.Logic.{◌⊎◌, inl, inr}
use mathlib.Core.Bool.{Bool, true, false, cond}
use mathlib.Core.List.{List}
use native.Mathlib.Omega.{arith}
use native.Mathlib.Numerals.{add-one}
use native.Mathlib.Decide.{dec_lt}
use lib.Dec.{T, leb, leb→le, le→leb}
use borrow.Author.Tests.{leb-true, leb-false}
use lib.ListN.{get_or}
use Rattle.lists.specs.Lists.{never}
use Rattle.columns.specs.Columns.{Run, key, up_to}
use Rattle.columns.proofs.Runs.{Lies, Longest}
use Rattle.columns.proofs.BestFit.{key-same}
use Rattle.releases.specs.Steps.{edge, Rises, Pressed}
use Rattle.horizon.specs.Look.{tried, released_by, FitsAt, KeyIs, NextIs, Looked}

-- the step that the pass stands at, and the numbers that fit
pub record Placed (past : List ℕ) (n from to i : ℕ) : Type 0 where
  pub upto : i ≤ n
  pub edge_at : to ≡ edge past i
  pub low : 1 ≤ from
  pub order : from ≤ to
  pub high : to ≤ 257

pub place_none : (past : List ℕ) (n : ℕ) → Placed past n 1 1 0
unfolding edge
place_none past n = record { upto = omega arith; edge_at = refl; low = omega arith; order = omega arith; high = omega arith }

edge-after : (past : List ℕ) (i : ℕ) → get_or past i 0 ≡ edge past (i + 1)
unfolding edge
edge-after past i = sym (ap (edge past) (add-one i))

-- the steps rise, so that the pass goes on to the next
rise-at : {past : List ℕ} {n from to i : ℕ} → Placed past n from to i → Rises past n → i < n → to < get_or past i 0
rise-at {past} {n} {from} {to} {i} p o h = rw p.edge_at (o.rises i h)

pub place-held : {past : List ℕ} {n from to i : ℕ} → Placed past n from to i → Rises past n → i < n → Placed past n (get_or past i 0) (get_or past i 0) (i + 1)
place-held {past} {n} {from} {to} {i} p o h =
    let r = rise-at p o h in
    record { upto = omega arith; edge_at = edge-after past i; low = omega (arith, p.low, p.order); order = omega arith; high = o.within i h }

pub place-open : {past : List ℕ} {n from to i : ℕ} → Placed past n from to i → Rises past n → i < n → Placed past n from (get_or past i 0) (i + 1)
place-open {past} {n} {from} {to} {i} p o h =
    let r = rise-at p o h in
    record { upto = omega arith; edge_at = edge-after past i; low = p.low; order = omega (arith, p.order); high = o.within i h }

module _ (rel : ℕ → ℕ) (W w t : ℕ) where
  -- THE COLUMNS BELOW `to` ARE PASSED: those from `from` on are released by t and the one before them is not; the runs that begin
  -- before `from` are tried
  pub record Passed (from to best next : ℕ) : Type 0 where
    pub low : 1 ≤ from
    pub order : from ≤ to
    pub high : to ≤ suc W
    pub unheld : (c : ℕ) → from ≤ c → c < to → rel c ≤ t
    pub before : (c : ℕ) → suc c ≡ from → 1 ≤ c → t < rel c
    pub least : (r : Run) → FitsAt rel W w t r → r.left < from → best ≤ key r
    pub key-is : (best ≡ never) ⊎ KeyIs rel W w t best
    pub soonest : (c : ℕ) → 1 ≤ c → c < to → t < rel c → next ≤ rel c
    pub next-is : (next ≡ never) ⊎ NextIs rel W t next

  pub pass-none : Passed 1 1 never never
  pass-none = record {
    low = omega arith;
    order = omega arith;
    high = omega arith;
    unheld = λ c l h. absurd (omega arith);
    before = λ c e l. absurd (omega arith);
    least = λ r f h. absurd (omega (arith, f.longest.lies.low));
    key-is = inl refl;
    soonest = λ c l h. absurd (omega arith);
    next-is = inl refl;
  }

  module _ {from to best next : ℕ} (p : Passed from to best next) (stop : to ≤ W → t < rel to) where
    -- a column that is released and one that is not
    clash : (c : ℕ) → T (released_by rel t c) → t < rel c → ⊥
    clash c a b = let z = leb→le (rel c) t a in omega arith

    -- the run from `from` up to `to`, where it is not empty, is a longest one
    here-longest : from < to → Longest (released_by rel t) 1 W (up_to from to)
    here-longest h = record {
      lies = record {
        low = p.low;
        high = omega (arith, p.high);
        not-empty = omega arith;
        passes = λ k l b. le→leb (rel k) t (p.unheld k l (omega arith));
      };
      left_end = λ k e l a. clash k a (p.before k e l);
      right_end = λ l a.
          let z : from + (to - from) ≡ to = omega arith in
          clash to (subst (λ c. T (released_by rel t c)) z a) (stop (omega arith));
    }

    -- and no other begins there
    here-only : (r : Run) → Longest (released_by rel t) 1 W r → from ≤ r.left → r.left < to → (r.left ≡ from) × (r.size ≡ to - from)
    here-only r o l h = let e = lefts (dec_lt from r.left) in (e, sizes e (dec_lt (r.left + r.size) to) (dec_lt to (r.left + r.size)))
      where
        a : Lies (released_by rel t) 1 W r
        a = o.lies

        lefts : Dec (from < r.left) → r.left ≡ from
        lefts (no z) = omega arith
        lefts (yes z) =
            absurd (o.left_end (r.left - 1) (omega arith) (omega (arith, p.low)) (le→leb (rel (r.left - 1)) t (p.unheld (r.left - 1) (omega arith) (omega arith))))

        sizes : r.left ≡ from → Dec (r.left + r.size < to) → Dec (to < r.left + r.size) → r.size ≡ to - from
        sizes e (yes z) d =
            absurd (o.right_end (omega (arith, p.high)) (le→leb (rel (r.left + r.size)) t (p.unheld (r.left + r.size) (omega arith) z)))
        sizes e (no z) (yes y) = absurd (clash to (a.passes to (omega arith) y) (stop (omega (arith, a.high))))
        sizes e (no z) (no y) = omega arith

    -- THE RUN IS TRIED: the key is the least of the runs that begin before `to`
    pub tried-least : {best' : ℕ} → best' ≡ tried w from to best → (r : Run) → FitsAt rel W w t r → r.left < to → best' ≤ key r
    tried-least {best'} e r f h = step (leb w (to - from)) refl e (dec_lt r.left from)
      where
        step : (b : Bool) → leb w (to - from) ≡ b → best' ≡ cond b (min (key (up_to from to)) best) best → Dec (r.left < from) → best' ≤ key r
        step true q z (yes l) = let k = p.least r f l in omega arith
        step false q z (yes l) = let k = p.least r f l in omega arith
        step true q z (no l) =
            let o = here-only r f.longest (omega arith) h in
            omega (arith, key-same r (up_to from to) o.0 o.1)
        step false q z (no l) =
            let o = here-only r f.longest (omega arith) h in
            absurd (let y = leb-false w (to - from) q in omega (arith, o.1, f.wide))

    pub tried-is : {best' : ℕ} → 1 ≤ w → best' ≡ tried w from to best → (best' ≡ never) ⊎ KeyIs rel W w t best'
    tried-is {best'} one e = step (leb w (to - from)) refl e (dec_lt (key (up_to from to)) best)
      where
        step : (b : Bool) → leb w (to - from) ≡ b → best' ≡ cond b (min (key (up_to from to)) best) best → Dec (key (up_to from to) < best)
            → (best' ≡ never) ⊎ KeyIs rel W w t best'
        step false q z d = subst (λ k. (k ≡ never) ⊎ KeyIs rel W w t k) (sym z) p.key-is
        step true q z (no l) =
            let y : best' ≡ best = omega arith in
            subst (λ k. (k ≡ never) ⊎ KeyIs rel W w t k) (sym y) p.key-is
        step true q z (yes l) =
            let y = leb-true w (to - from) q in
            inr (record {
              run = up_to from to;
              fits = record { longest = here-longest (omega arith); wide = y };
              same = omega arith;
            })

  -- ONE STEP MORE, from `to` up to `end`, at the release x
  module _ {from to best next x end : ℕ} (p : Passed from to best next) (rise : to < end) (high : end ≤ suc W) (level : (c : ℕ) → to ≤ c → c < end → rel c ≡ x) where
    -- it is not released by t: what was open is tried
    pub pass-held : {best' next' : ℕ} → 1 ≤ w → t < x → best' ≡ tried w from to best → next' ≡ min x next → Passed end end best' next'
    pass-held {best'} {next'} one l e q = record {
      low = omega (arith, p.low, p.order);
      order = omega arith;
      high = high;
      unheld = λ c a b. absurd (omega arith);
      before = λ c a b. later c (omega arith) (omega arith);
      least = λ r f h. least r f h (dec_lt r.left to);
      key-is = tried-is p stop one e;
      soonest = λ c a b d. soonest c a b d (dec_lt c to);
      next-is = nexts (dec_lt x next);
    }
      where
        later : (c : ℕ) → to ≤ c → c < end → t < rel c
        later c a b = rw (level c a b) l

        stop : to ≤ W → t < rel to
        stop a = later to (omega arith) rise

        least : (r : Run) → FitsAt rel W w t r → r.left < end → Dec (r.left < to) → best' ≤ key r
        least r f h (yes a) = tried-least p stop e r f a
        least r f h (no a) =
            let o = f.longest.lies in
            absurd (clash p stop r.left (o.passes r.left (omega arith) (omega (arith, o.not-empty))) (later r.left (omega arith) h))

        soonest : (c : ℕ) → 1 ≤ c → c < end → t < rel c → Dec (c < to) → next' ≤ rel c
        soonest c a b d (yes z) = omega (arith, p.soonest c a z d)
        soonest c a b d (no z) = omega (arith, level c (omega arith) b)

        nexts : Dec (x < next) → (next' ≡ never) ⊎ NextIs rel W t next'
        nexts (no z) = let y : next' ≡ next = omega arith in subst (λ k. (k ≡ never) ⊎ NextIs rel W t k) (sym y) p.next-is
        nexts (yes z) =
            let y : next' ≡ x = omega arith in
            inr (record { column = to; from_one = omega (arith, p.low, p.order); on-device = omega arith; later = omega arith; same = level to (omega arith) rise ∙ sym y })

    -- it is released by t: it stays open
    pub pass-open : x ≤ t → Passed from end best next
    pass-open l = record {
      low = p.low;
      order = omega (arith, p.order);
      high = high;
      unheld = λ c a b. unheld c a b (dec_lt c to);
      before = p.before;
      least = p.least;
      key-is = p.key-is;
      soonest = λ c a b d. soonest c a b d (dec_lt c to);
      next-is = p.next-is;
    }
      where
        unheld : (c : ℕ) → from ≤ c → c < end → Dec (c < to) → rel c ≤ t
        unheld c a b (yes z) = p.unheld c a z
        unheld c a b (no z) = omega (arith, level c (omega arith) b)

        soonest : (c : ℕ) → 1 ≤ c → c < end → t < rel c → Dec (c < to) → next ≤ rel c
        soonest c a b d (yes z) = p.soonest c a z d
        soonest c a b d (no z) = absurd (omega (arith, level c (omega arith) b))

  -- AFTER THE LAST: what is open is tried too
  pub pass_all : {from to best next best' : ℕ} → Passed from to best next → to ≡ suc W → 1 ≤ w → best' ≡ tried w from to best
      → Looked rel W w t (record { key = best'; next = next })
  pass_all {from} {to} p e one q = record {
    least = λ r f. let o = f.longest.lies in tried-least p stop q r f (omega (arith, o.high, o.not-empty));
    key = tried-is p stop one q;
    soonest = λ c a b d. p.soonest c a (omega arith) d;
    next = p.next-is;
  }
    where
      stop : to ≤ W → t < rel to
      stop a = absurd (omega arith)

-- the pass has taken i steps
pub record Walked (past at : List ℕ) (n w t from to best next i : ℕ) : Type 0 where
  pub placed : Placed past n from to i
  pub passed : (rel : ℕ → ℕ) (W : ℕ) → Pressed rel W past at n → Passed rel W w t from to best next

pub walk_none : (past at : List ℕ) (n w t : ℕ) → Walked past at n w t 1 1 never never 0
walk_none past at n w t = record { placed = place_none past n; passed = λ rel W o. pass-none rel W w t }

module _ {past at : List ℕ} {n w t from to best next i : ℕ} (p : Walked past at n w t from to best next i) (o : Rises past n) (h : i < n) where
  at_level : {rel : ℕ → ℕ} {W : ℕ} → Pressed rel W past at n → (c : ℕ) → to ≤ c → c < get_or past i 0 → rel c ≡ get_or at i 0
  at_level s c l b = s.level i h c (subst (λ e. e ≤ c) p.placed.edge_at l) b

  pub walk-held : {from' best' next' : ℕ} → 1 ≤ w → t < get_or at i 0 → best' ≡ tried w from to best → next' ≡ min (get_or at i 0) next
      → from' ≡ get_or past i 0 → Walked past at n w t from' (get_or past i 0) best' next' (i + 1)
  walk-held {from'} {best'} {next'} one l e q z =
      subst (λ f. Walked past at n w t f (get_or past i 0) best' next' (i + 1)) (sym z) (record {
        placed = place-held p.placed o h;
        passed = λ rel W s. pass-held rel W w t (p.passed rel W s) (rise-at p.placed o h) (s.inside i h) (at_level s) one l e q;
      })

  pub walk-open : {from' best' next' : ℕ} → get_or at i 0 ≤ t → best' ≡ best → next' ≡ next → from' ≡ from
      → Walked past at n w t from' (get_or past i 0) best' next' (i + 1)
  walk-open l e q z = rw (e, q, z) (record {
    placed = place-open p.placed o h;
    passed = λ rel W s. pass-open rel W w t (p.passed rel W s) (rise-at p.placed o h) (s.inside i h) (at_level s) l;
  })

pub walk-all : {past at : List ℕ} {n w t from to best next i best' : ℕ} → Walked past at n w t from to best next i → i ≡ n → 1 ≤ w
    → best' ≡ tried w from to best
    → (rel : ℕ → ℕ) (W : ℕ) → Pressed rel W past at n → Looked rel W w t (record { key = best'; next = next })
walk-all {past} {at} {n} {w} {t} p e one q rel W s =
    pass_all rel W w t (p.passed rel W s) (p.placed.edge_at ∙ ap (edge past) e ∙ s.all) one q
