-- The tasks that have not finished by an instant are the first ones of the table: walks from one instant to the next. Assumes nothing.
use Prim.Native.Nat.{ℕ, zero, suc, ◌+◌, ◌-◌, ◌≤◌, ◌<◌}
use mathlib.Core.Path.{◌≡◌, refl, ap, ◌∙◌}
use mathlib.Core.Logic.{inl, inr}
use mathlib.Core.Bool.{Bool, true, false, ◌||◌}
use mathlib.Core.List.{List, [], ◌∷◌, map, ◌++◌, map-append}
use native.Mathlib.Omega.{arith}
use native.Mathlib.Decide.{dec_le, dec_lt}
use Rattle.lists.specs.Lists.{some?, range, never}
use Rattle.lists.proofs.Append.{range-more, some_more}
use Rattle.tasks.specs.declared.Task.{Task}
use Rattle.live.specs.Live.{finish_at, task_at, tasks_of, Falling, After, NextFinish}

module _ {live : List ℕ} where
  -- each of the first ones stays
  pub after-stays : {n t r : ℕ} → Falling n live → After live n t r → (i : ℕ) → i < r → t < finish_at live i
  after-stays {n} {t} {r} f a i h =
      let last = a.stays (r - 1) (omega arith) in
      let z = f i (r - 1) (omega arith) (omega (arith, a.few)) in
      omega arith

  -- from one instant to a later one
  pub after_on : {n t r u k : ℕ} → After live n t r → t ≤ u → After live r u k → After live n u k
  after_on {n} {t} {r} {u} {k} a h b = record {
    few = omega (arith, a.few, b.few);
    stays = b.stays;
    ended = λ i p q. go i p q (dec_lt i r);
  }
    where
      go : (i : ℕ) → k ≤ i → i < n → Dec (i < r) → finish_at live i ≤ u
      go i p q (yes z) = b.ended i p z
      go i p q (no z) = omega (arith, a.ended i (omega arith) q)

-- one task more
pub tasks-next : (live : List ℕ) (n : ℕ) → tasks_of (suc n) live ≡ tasks_of n live ++ (task_at live n ∷ [])
unfolding tasks_of
tasks-next live n =
    let o : suc n ≡ n + 1 = omega arith in
    let z : 0 + n ≡ n = omega arith in
    ap (λ m. map (task_at live) (range 0 m)) o ∙ ap (map (task_at live)) (range-more 0 n) ∙ map-append (task_at live) (range 0 n) ((0 + n) ∷ [])
    ∙ ap (λ x. map (task_at live) (range 0 n) ++ (task_at live x ∷ [])) z

-- A TEST that no task passes which has finished: only the first ones are looked at
pub some_after : (live : List ℕ) (p : Task → Bool) (n k : ℕ) → k ≤ n → ((i : ℕ) → k ≤ i → i < n → p (task_at live i) ≡ false)
    → some? p (tasks_of n live) ≡ some? p (tasks_of k live)
some_after live p zero k h f = let z : k ≡ 0 = omega arith in rw z
some_after live p (suc n) k h f = go (λ q. some_after live p n k q (λ i l m. f i l (omega arith))) (dec_le k n)
  where
    either : (b c : Bool) → c ≡ false → (b || c) ≡ b
    either b c e = rw e (lem b)
      where
        lem : (b : Bool) → (b || false) ≡ b
        lem true = refl
        lem false = refl

    go : (k ≤ n → some? p (tasks_of n live) ≡ some? p (tasks_of k live)) → Dec (k ≤ n) → some? p (tasks_of (suc n) live) ≡ some? p (tasks_of k live)
    go below (no q) = let z : k ≡ suc n = omega arith in rw z
    go below (yes q) =
        ap (some? p) (tasks-next live n) ∙ some_more p (tasks_of n live) (task_at live n) ∙ either (some? p (tasks_of n live)) (p (task_at live n)) (f n q (omega arith)) ∙ below q

-- THE NEXT FINISH is that of the last of the first ones
module _ {live : List ℕ} {count t : ℕ} (f : Falling count live) where
  pub next-none : After live count t 0 → t < never → NextFinish live count t never
  next-none a h = record { after = h; least = λ i p q. absurd (omega (arith, a.ended i (omega arith) p)); one = inl refl }

  pub next_last : {n : ℕ} → After live count t n → 1 ≤ n → NextFinish live count t (finish_at live (n - 1))
  next_last {n} a h = record {
    after = a.stays (n - 1) (omega arith);
    least = λ i p q. before i p q (dec_lt i n);
    one = inr (n - 1, omega (arith, a.few), refl);
  }
    where
      before : (i : ℕ) → i < count → t < finish_at live i → Dec (i < n) → finish_at live (n - 1) ≤ finish_at live i
      before i p q (yes z) = f i (n - 1) (omega arith) (omega (arith, a.few))
      before i p q (no z) = absurd (omega (arith, a.ended i (omega arith) p))
