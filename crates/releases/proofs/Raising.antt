-- The row of release times: one column more is raised, one task more is taken. Assumes nothing.
use Prim.Native.Nat.{ℕ, suc, ◌+◌, ◌-◌, ◌≤◌, ◌<◌}
use mathlib.Core.Path.{◌≡◌, sym, ap, ◌∙◌, subst}
use mathlib.Core.Logic.{◌⊎◌, inl, inr}
use mathlib.Core.Bool.{Bool, true, false, not, cond, ◌&&◌}
use mathlib.Core.List.{List, ◌∷◌, map}
use native.Mathlib.Omega.{arith}
use native.Mathlib.Decide.{dec_lt}
use lib.Dec.{T, leb, ltb}
use borrow.Author.Tests.{le-leb, lt-leb, lt-ltb, le-ltb}
use lib.ListN.{length, replicate, get_or}
use Rattle.std.proofs.lemmas.List.{places}
use borrow.Author.Rules.{rules}
use borrow.Rule.Slice.PartMut.{put_mid}
use Rattle.lists.specs.Lists.{◌∈◌, keep, range, highest}
use Rattle.lists.proofs.Bools.{bool, is_true, is_false}
use Rattle.lists.proofs.Members.{keep-in, map-in, range-in, highest-from, highest-one}
use Rattle.lists.proofs.Append.{range-first}
use Rattle.tasks.specs.declared.Task.{Task}
use Rattle.tasks.specs.Tasks.{finish, covers}
use Rattle.planners.specs.Planners.{release}
use Rattle.live.specs.Live.{finish_at, left_at, past_at, task_at, tasks_of, OnDevice, Falling, After}
use Rattle.live.proofs.Laws.{after-stays}
use Rattle.planners.proofs.Lent.{finish-at}
use Rattle.releases.specs.Steps.{raised_to}

raised-in : (f l r k x : ℕ) → l ≤ suc k → suc k < r → raised_to f l r k x ≡ f
raised-in f l r k x a b = rw (le-leb l (suc k) a, lt-ltb (suc k) r b)

raised-left : (f l r k x : ℕ) → suc k < l → raised_to f l r k x ≡ x
raised-left f l r k x a = rw (lt-leb l (suc k) a)

raised-past : (f l r k x : ℕ) → l ≤ suc k → r ≤ suc k → raised_to f l r k x ≡ x
raised-past f l r k x a b = rw (le-leb l (suc k) a, le-ltb (suc k) r b)

-- the columns from l up to r filled with f are raised to it, the others stand as they were
pub raise-part : (row : List ℕ) (f l r : ℕ) → length row ≡ 256 → 1 ≤ l → l ≤ r → r ≤ 257
    → (k : ℕ) → k < 256 → get_or (put_mid (l - 1) (r - 1 - (l - 1)) row (replicate (r - 1 - (l - 1)) f)) k 0 ≡ raised_to f l r k (get_or row k 0)
raise-part row f l r e p q s k h = go (dec_lt (suc k) l) (dec_lt (suc k) r)
  where
    go : Dec (suc k < l) → Dec (suc k < r) → get_or (put_mid (l - 1) (r - 1 - (l - 1)) row (replicate (r - 1 - (l - 1)) f)) k 0 ≡ raised_to f l r k (get_or row k 0)
    go (yes a) d =
        let z : get_or (put_mid (l - 1) (r - 1 - (l - 1)) row (replicate (r - 1 - (l - 1)) f)) k 0 ≡ get_or row k 0 = search (rules, places) in
        z ∙ sym (raised-left f l r k (get_or row k 0) a)
    go (no a) (yes b) =
        let z : get_or (put_mid (l - 1) (r - 1 - (l - 1)) row (replicate (r - 1 - (l - 1)) f)) k 0 ≡ f = search (rules, places) in
        z ∙ sym (raised-in f l r k (get_or row k 0) (omega arith) b)
    go (no a) (no b) =
        let z : get_or (put_mid (l - 1) (r - 1 - (l - 1)) row (replicate (r - 1 - (l - 1)) f)) k 0 ≡ get_or row k 0 = search (rules, places) in
        z ∙ sym (raised-past f l r k (get_or row k 0) (omega arith) (omega arith))

-- the release of a column where a task stands before the others that finishes no earlier than any of them
release-first : (now : ℕ) (u : Task) (ts : List Task) (c : ℕ) → release now ts c ≤ finish u → release now (u ∷ ts) c ≡ cond (covers c u) (finish u) (release now ts c)
unfolding release keep highest
release-first now u ts c h = step (bool (covers c u))
  where
    step : T (covers c u) ⊎ T (not (covers c u)) → highest now (map finish (keep (covers c) (u ∷ ts))) ≡ cond (covers c u) (finish u) (highest now (map finish (keep (covers c) ts)))
    step (inl t) = rw (is_true (covers c u) t) (omega arith)
    step (inr t) = rw (is_false (covers c u) t)

-- tasks that have finished by now release nothing later
release-ended : (now : ℕ) (ts : List Task) (c : ℕ) → ((u : Task) → u ∈ ts → finish u ≤ now) → release now ts c ≡ now
unfolding release
release-ended now ts c h = step (highest-one now fs)
  where
    fs : List ℕ
    fs = map finish (keep (covers c) ts)

    step : (highest now fs ≡ now) ⊎ (highest now fs ∈ fs) → highest now fs ≡ now
    step (inl e) = e
    step (inr m) =
        let u = map-in finish (keep (covers c) ts) m in
        omega (arith, u.2, h u.0 (keep-in (covers c) ts u.1).0, highest-from now fs)

module _ (live : List ℕ) where
  -- the tasks at the places from i up to n
  unfoldable pub tasks_from : ℕ → ℕ → List Task
  tasks_from i n = map (task_at live) (range i (n - i))

  -- the row has the release of each column over the tasks from place i on, and none is later than a finish before it
  pub record Released (now n : ℕ) (row : List ℕ) (i : ℕ) : Type 0 where
    pub room : length row ≡ 256
    pub same : (k : ℕ) → k < 256 → get_or row k 0 ≡ release now (tasks_from i n) (suc k)
    pub upto : (k j : ℕ) → k < 256 → j < i → get_or row k 0 ≤ finish_at live j

  module _ {W n : ℕ} (o : OnDevice W n live) (f : Falling n live) where
    pub release-none : {now i : ℕ} → After live n now i → (row : List ℕ) → length row ≡ 256 → ((k : ℕ) → k < 256 → get_or row k 0 ≡ now) → Released now n row i
    unfolding tasks_from
    release-none {now} {i} a row e g = record {
      room = e;
      same = λ k b. g k b ∙ sym (release-ended now (tasks_from i n) (suc k) ended);
      upto = λ k j b h. omega (arith, g k b, after-stays f a j h);
    }
      where
        ended : (u : Task) → u ∈ tasks_from i n → finish u ≤ now
        ended u m =
            let j = map-in (task_at live) (range i (n - i)) m in
            let z = range-in i (n - i) j.1 in
            let below : j.0 < n = omega (arith, z.low, z.high) in
            rw (j.2, finish-at o j.0 below) (a.ended j.0 z.low below)

    -- ONE TASK MORE, the one before: the others have finished by its finish
    pub release-one : {now i m : ℕ} {row row' : List ℕ} → Released now n row m → m ≡ i + 1 → m ≤ n → length row' ≡ 256
        → ((k : ℕ) → k < 256 → get_or row' k 0 ≡ raised_to (finish_at live i) (left_at live i) (past_at live i) k (get_or row k 0)) → Released now n row' i
    unfolding covers tasks_from
    release-one {now} {i} {m} {row} {row'} at-m next few e g = record {
      room = e;
      same = λ k b. g k b ∙ ap (raised_to (finish_at live i) (left_at live i) (past_at live i) k) (p.same k b) ∙ sym (more k b);
      upto = λ k j b l. rw (g k b) (raised k j b l);
    }
      where
        h : i < n
        h = omega arith

        p : Released now n row (i + 1)
        p = subst (Released now n row) next at-m

        raised : (k j : ℕ) → k < 256 → j < i → raised_to (finish_at live i) (left_at live i) (past_at live i) k (get_or row k 0) ≤ finish_at live j
        raised k j b l = either (leb (left_at live i) (suc k) && ltb (suc k) (past_at live i))
          where
            either : (t : Bool) → cond t (finish_at live i) (get_or row k 0) ≤ finish_at live j
            either true = f j i (omega arith) h
            either false = p.upto k j b (omega arith)

        past : left_at live i + (past_at live i - left_at live i) ≡ past_at live i
        past = omega (arith, o.columns i h)

        more : (k : ℕ) → k < 256 → release now (tasks_from i n) (suc k) ≡ raised_to (finish_at live i) (left_at live i) (past_at live i) k (release now (tasks_from (i + 1) n) (suc k))
        more k b =
            let z : release now (tasks_from (i + 1) n) (suc k) ≤ finish (task_at live i) = rw (finish-at o i h, ← p.same k b) (p.upto k i b (omega arith)) in
            ap (λ l. release now (map (task_at live) l) (suc k)) (range-first i n h) ∙ release-first now (task_at live i) (tasks_from (i + 1) n) (suc k) z ∙ rw (past, finish-at o i h)

  -- AFTER THE FIRST
  pub release-all : {now n : ℕ} {row : List ℕ} → Released now n row 0 → (k : ℕ) → k < 256 → get_or row k 0 ≡ release now (tasks_of n live) (suc k)
  unfolding tasks_of tasks_from
  release-all {now} {n} p k b = let z : n - 0 ≡ n = omega arith in p.same k b ∙ ap (λ m. release now (map (task_at live) (range 0 m)) (suc k)) z
