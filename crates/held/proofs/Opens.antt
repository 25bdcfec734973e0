-- A place is an opening exactly if its columns are clear during the stay; no task finishes before the next finish. Assumes nothing.
use Rattle.std.proofs.Common.{◌≡◌, ℕ, suc, ◌+◌, ◌-◌, ◌<◌, ◌≤◌, min, max, Bool, true, false, ◌&&◌, ◌||◌, T, ltb, ◌⊎◌, List, map, sym, refl, ap, ◌∙◌, inl, inr, true≢false, arith, ltb→lt, lt→ltb}
use native.Mathlib.Decide.{dec_lt}
use Rattle.lists.specs.Lists.{◌∈◌, some?, range}
use Rattle.lists.proofs.Bools.{and_l, and_r, and_i, or_l, or_r, or_cases, is_true, same_bool}
use Rattle.lists.proofs.Append.{some_same, some-map}
use Rattle.lists.proofs.Members.{some-pass, pass-some, map-in, range-in}
use Rattle.ways.specs.Ways.{pair}
use Rattle.tasks.specs.declared.Task.{Task}
use Rattle.tasks.specs.Numbers.{may_begin}
use Rattle.tasks.specs.Tasks.{from, finish, overlap, covers}
use Rattle.tasks.proofs.Laws.{overlap-common, common-overlap, covers-in, covers_out}
use Rattle.live.specs.Live.{from_at, finish_at, task_at, tasks_of, OnDevice, After, NextFinish}
use Rattle.planners.specs.Lent.{asked}
use Rattle.planners.proofs.Openings.{Opening}
use Rattle.words.specs.Words.{column}
use Rattle.held.specs.Held.{in_stay, Held, Clear, Unchanged}

-- A column that is clear is held by no task, and lies on the device
module _ (W t e : ℕ) (ts : List Task) (words : List ℕ) (h : Held W t e ts words) where
  held-set : (c : ℕ) → 1 ≤ c → c ≤ 256 → (u : Task) → u ∈ ts → T (in_stay t e c u) → column words c ≡ true
  held-set c p q u m b = h c p q ∙ is_true _ (or_l (some? (in_stay t e c) ts) (ltb W c) (pass-some (in_stay t e c) ts m b))

  past-set : (c : ℕ) → 1 ≤ c → c ≤ 256 → W < c → column words c ≡ true
  past-set c p q b = h c p q ∙ is_true _ (or_r (some? (in_stay t e c) ts) (ltb W c) (lt→ltb W c b))

  -- a place is an opening exactly if its columns are clear
  pub clear-opens : (g now w d c : ℕ) → 1 ≤ w → T (may_begin g c) → 1 ≤ c → now ≤ t → t + e ≤ d → Clear words w c → Opening g W now ts (asked w e d) (pair t c)
  unfolding in_stay
  clear-opens g now w d c o v p q r k = record {
    from-now = q;
    in-time = r;
    from_one = p;
    on-device = within (dec_lt W (c + w - 1));
    on-grid = v;
    apart = λ u m x y.
        true≢false (sym (held-set x.it (omega (arith, x.low₁)) (omega (arith, x.high₁, k.fits)) u m
        (and_i (overlap t (t + e) (from u) (finish u)) (covers x.it u) (common-overlap t (t + e) (from u) (finish u) y) (covers-in x.it u x.low₂ x.high₂)))
        ∙ k.clear x.it x.low₁ x.high₁);
  }
    where
      within : Dec (W < c + w - 1) → c + w ≤ suc W
      within (yes b) = absurd (true≢false (sym (past-set (c + w - 1) (omega arith) (omega (arith, k.fits)) b) ∙ k.clear (c + w - 1) (omega arith) (omega arith)))
      within (no b) = omega arith

  pub opens-clear : (g now w d c : ℕ) → W ≤ 256 → Opening g W now ts (asked w e d) (pair t c) → Clear words w c
  unfolding in_stay
  opens-clear g now w d c b o = record {
    fits = omega (arith, o.on-device);
    clear = λ x p q. h x (omega (arith, o.from_one)) (omega (arith, o.on-device)) ∙ off x p q (some? (in_stay t e x) ts || ltb W x) refl;
  }
    where
      off : (x : ℕ) → c ≤ x → x < c + w → (v : Bool) → (some? (in_stay t e x) ts || ltb W x) ≡ v → v ≡ false
      off x p q false z = refl
      off x p q true z = absurd (pick (or_cases (some? (in_stay t e x) ts) (ltb W x) (rw z tt)))
        where
          pick : T (some? (in_stay t e x) ts) ⊎ T (ltb W x) → ⊥
          pick (inl i) =
              let y = some-pass (in_stay t e x) ts i in
              let u : Task = y.it in
              let k = covers_out x u (and_r (overlap t (t + e) (from u) (finish u)) (covers x u) y.passes) in
              o.apart u y.among (record { it = x; low₁ = p; high₁ = q; low₂ = k.0; high₂ = k.1 })
              (overlap-common t (t + e) (from u) (finish u) (and_l (overlap t (t + e) (from u) (finish u)) (covers x u) y.passes))
          pick (inr i) = omega (arith, ltb→lt W x i, o.on-device)

-- no task finishes between t and the next finish
pub next_of : (W n : ℕ) (live : List ℕ) → OnDevice W n live → {t x : ℕ} → NextFinish live n t x → (u : Task) → u ∈ tasks_of n live → t < finish u → x ≤ finish u
unfolding tasks_of
next_of W n live o b u m y =
    let j = map-in (task_at live) (range 0 n) m in
    let i : ℕ = j.0 in
    let a : i < n = omega (arith, (range-in 0 n j.1).high) in
    let v : from_at live i + (finish_at live i - from_at live i) ≡ finish_at live i = omega (arith, o.ticks i a) in
    let q : finish u ≡ finish_at live i = ap finish j.2 ∙ v in
    rw q (b.least i a (rw q at y))

-- UNTIL THE NEXT CHANGE the columns that are held stay the same
pub held-lasts : (W n : ℕ) (live : List ℕ) → OnDevice W n live → (t e x : ℕ) → 1 ≤ e → Unchanged live n t e x → (words : List ℕ) → Held W t e (tasks_of n live) words
    → (v : ℕ) → t ≤ v → v < x → Held W v e (tasks_of n live) words
unfolding tasks_of in_stay
held-lasts W n live o t e x k b words h v p q c y z =
    h c y z ∙ ap (λ g. g || ltb W c) (same t ∙ some_same (λ i. in_stay t e c (task_at live i)) (λ i. in_stay v e c (task_at live i)) (range 0 n) each ∙ sym (same v))
  where
    same : (u : ℕ) → some? (in_stay u e c) (map (task_at live) (range 0 n)) ≡ some? (λ i. in_stay u e c (task_at live i)) (range 0 n)
    same u = some-map (in_stay u e c) (task_at live) (range 0 n)

    each : (i : ℕ) → i ∈ range 0 n → in_stay t e c (task_at live i) ≡ in_stay v e c (task_at live i)
    each i m =
        let j : i < n = omega (arith, (range-in 0 n m).high) in
        ap (λ u. u && covers c (task_at live i)) (in-time (from_at live i) (finish_at live i) (o.ticks i j) (b.finishes i j) (b.starts i j))
      where
        -- a task is in the stay from t on exactly if it is in the stay from v on
        in-time : (a g : ℕ) → a < g → (t < g → x ≤ g) → (t < g → t + e ≤ a → x + e ≤ a + 1) → overlap t (t + e) a (a + (g - a)) ≡ overlap v (v + e) a (a + (g - a))
        in-time a g w leaves comes =
            same_bool (overlap t (t + e) a (a + (g - a))) (overlap v (v + e) a (a + (g - a)))
            (λ u.
            let m = ltb→lt (max t a) (min (t + e) (a + (g - a))) u in
            let z = leaves (omega arith) in
            lt→ltb (max v a) (min (v + e) (a + (g - a))) (omega arith))
            (λ u.
            let m = ltb→lt (max v a) (min (v + e) (a + (g - a))) u in
            lt→ltb (max t a) (min (t + e) (a + (g - a))) (within (dec_lt a (t + e)) (omega arith) (omega arith)))
          where
            within : Dec (a < t + e) → a < v + e → v < g → max t a < min (t + e) (a + (g - a))
            within (yes y) m z = omega arith
            within (no y) m z = absurd (omega (arith, comes (omega arith) (omega arith)))

-- and no task finishes
pub after-lasts : {n t e x r : ℕ} {live : List ℕ} → After live n t r → Unchanged live n t e x → (v : ℕ) → t ≤ v → v < x → After live n v r
after-lasts {n} {t} {e} {x} {r} {live} a b v p q = record {
  few = a.few;
  stays = λ i h. omega (arith, b.finishes i (omega (arith, a.few)) (a.stays i h));
  ended = λ i h k. omega (arith, a.ended i h k);
}
