-- What is left of the openings after a pair, as the columns of an instant give it: the next one, a run of them, the next tick, the next finish. Assumes nothing.
use Rattle.std.proofs.Common.{◌≡◌, ℕ, zero, suc, ◌+◌, ◌-◌, ◌*◌, ◌<◌, ◌≤◌, T, ltb, ◌⊎◌, List, [], ◌∷◌, ◌++◌, sym, ap, ◌∙◌, subst, ap₂, inl, inr, append_assoc, suc-mul, arith, ltb→lt, lt→ltb}
use Rattle.std.specs.Prelude.{None}
use native.Mathlib.Decide.{dec_lt, ℕ_discrete as dec_eq}
use Rattle.lists.specs.Lists.{◌∈◌, range}
use Rattle.lists.proofs.Bools.{same_bool}
use Rattle.ways.specs.Ways.{pair, Ways, openings_after}
use Rattle.ways.proofs.Laws.{Open, early, over, found, next-tick, next-end}
use Rattle.tasks.specs.declared.Task.{Task}
use Rattle.tasks.specs.Numbers.{multiple, may_begin}
use Rattle.tasks.specs.Tasks.{meets, stamped, booked}
use Rattle.tasks.proofs.Grid.{multiple-steps, multiple-sum, multiple-gap}
use Rattle.tasks.proofs.Laws.{meets-share}
use Rattle.planners.specs.Openings.{Place, ways}
use Rattle.live.specs.Live.{tasks_of, OnDevice, NextFinish}
use Rattle.planners.specs.Lent.{asked, Stepped, Rounded, run_at}
use Rattle.planners.proofs.Grid.{run_more}
use Rattle.planners.proofs.Openings.{lawful, leaves-finish, open-opening, opening-open, after-beside}
use Rattle.words.specs.Words.{column, Least}
use Rattle.held.specs.Held.{Held, Clear, FirstAt, FirstFree}
use Rattle.held.proofs.Steps.{first-on-grid}
use Rattle.held.proofs.Opens.{clear-opens, opens-clear, next_of}

module _ (g W now : ℕ) (ts : List Task) (w e d : ℕ) where
  -- the openings after (t, c)
  abbrev pub rest : ℕ → ℕ → List Place
  rest t c = openings_after (ways g W now ts (asked w e d)) (pair t c)

  -- a pair before now: all of them
  pub rest-early : (t c : ℕ) → t < now → rest t c ≡ rest now 0
  unfolding ways
  rest-early t c h = early (ways g W now ts (asked w e d)) 0 (lawful g W now ts (asked w e d)) t c h

  -- past the last start: none
  pub rest_over : (t c : ℕ) → d < t + e → now + e ≤ d → rest t c ≡ []
  unfolding ways
  rest_over t c h q = over (ways g W now ts (asked w e d)) 0 (lawful g W now ts (asked w e d)) t c (omega arith)

  -- behind a column where no task can begin: from the next tick on
  past-columns : (t c : ℕ) → W ≤ c → 1 ≤ w → rest t c ≡ rest (t + 1) 0
  unfolding ways
  past-columns t c h i =
      next-tick (ways g W now ts (asked w e d)) 0 (lawful g W now ts (asked w e d)) t c
      (λ x u b. omega (arith, (open-opening g W now ts (asked w e d) (pair t x) u).on-device, ltb→lt c x b))

  -- so the last column does for every column past it
  pub rest-beyond : (t c : ℕ) → W ≤ c → 1 ≤ w → rest t c ≡ rest t W
  rest-beyond t c h i = past-columns t c h i ∙ sym (past-columns t W (omega arith) i)

  -- and the next multiple of the grid for what lies before it
  pub rest-rounded : (t : ℕ) {c x : ℕ} → Rounded g c x → rest t c ≡ rest t x
  unfolding may_begin
  rest-rounded t {c} {x} r = after-beside g W now ts (asked w e d) t c x each
    where
      each : (y : ℕ) → 1 ≤ y → T (may_begin g y) → ltb c y ≡ ltb x y
      each y l m = same_bool (ltb c y) (ltb x y) (λ h. lt→ltb x y (on (ltb→lt c y h) (dec_lt x y))) (λ h. lt→ltb c y (omega (arith, ltb→lt x y h, r.low)))
        where
          on : c < y → Dec (x < y) → x < y
          on h (yes k) = k
          on h (no k) = absurd (omega (arith, multiple-gap g (y - 1) x m r.multiple (omega arith), r.near))

-- At an instant with its columns
module _ (g W now n : ℕ) (live : List ℕ) (o : OnDevice W n live) (w e d : ℕ) (s : Stepped g W w (tasks_of n live)) (i : 1 ≤ w) {t : ℕ} (p : now ≤ t) (q : t + e ≤ d)
    (words : List ℕ) (h : Held W t e (tasks_of n live) words) where
  ts : List Task
  ts = tasks_of n live

  v : Ways ℕ Task
  v = ways g W now ts (asked w e d)

  abbrev left : ℕ → ℕ → List Place
  left = rest g W now (tasks_of n live) w e d

  open-clear : (x : ℕ) → Open v (pair t x) → (1 ≤ x) × Clear words w x
  unfolding v ts
  open-clear x u =
      let a = open-opening g W now ts (asked w e d) (pair t x) u in
      (a.from_one, opens-clear W t e ts words h g now w d x o.wide a)

  -- the next opening: x is on the grid and begins w clear columns, and none between does
  next-is : (y x : ℕ) → y < x → T (may_begin g x) → Clear words w x → ((z : ℕ) → y < z → z < x → T (may_begin g z) → Clear words w z → ⊥) → left t y ≡ pair t x ∷ left t x
  unfolding v ts ways
  next-is y x b on k f = found v 0 (lawful g W now ts (asked w e d)) t y x opened (lt→ltb y x b) (λ z u a. pick z u (ltb→lt y z a) (dec_lt z x) (dec_eq z x))
    where
      opened : Open v (pair t x)
      opened = opening-open g W now ts (asked w e d) (pair t x) (clear-opens W t e ts words h g now w d x i on (omega arith) p q k)

      pick : (z : ℕ) → Open v (pair t z) → y < z → Dec (z < x) → Dec (z ≡ x) → (z ≡ x) ⊎ T (ltb x z)
      pick z u a (yes m) j = absurd (f z a m (open-opening g W now ts (asked w e d) (pair t z) u).on-grid (open-clear z u).1)
      pick z u a (no m) (yes j) = inl j
      pick z u a (no m) (no j) = inr (lt→ltb x z (omega arith))

  -- THE NEXT ONE after a multiple of the grid
  pub rest-first : {y c : ℕ} → T (multiple g y) → FirstAt words y w c → left t y ≡ pair t c ∷ left t c
  rest-first {y} {c} j f = next-is y c f.after (first-on-grid W t e s words h i j f) f.clear (λ z a b on k. f.least z a b k)

  -- A RUN OF THEM: the columns from c up to `end` are clear, so each of the grid up to end − w begins w clear ones
  module _ {c end : ℕ} (x : Least (column words) c 257 end) where
    module _ {y : ℕ} (j : T (multiple g y)) (f : FirstAt words y w c) where
      -- the step from place k on
      at-step : (k : ℕ) → T (may_begin g (c + k * g))
      unfolding may_begin
      at-step k =
          let z : k * g + (c - 1) ≡ c + k * g - 1 = omega (arith, f.after) in
          subst (λ v. T (multiple g v)) z (multiple-sum g (k * g) (c - 1) (multiple-steps g k) (first-on-grid W t e s words h i j f))

      on_step : (k : ℕ) → Rounded g (c + k * g) (c + suc k * g - 1)
      unfolding may_begin
      on_step k = let z = suc-mul k g in record { multiple = at-step (suc k); low = omega (arith, s.step, f.after); near = omega (arith, s.step, f.after) }

      -- k + 1 of them, a step apart; the next is looked for after the last column of the step
      pub rest-run : (k : ℕ) → c + k * g + w ≤ end → left t y ≡ run_at t g c (k + 1) ++ left t (c + suc k * g - 1)
      unfolding range ts
      rest-run zero b = rest-first j f ∙ ap₂ (λ a r. pair t a ∷ r) first (ap (left t) first ∙ rest-rounded g W now ts w e d t (on_step 0))
        where
          first : c ≡ c + 0 * g
          first = omega arith
      rest-run (suc k) b =
          rest-run k (omega (arith, suc-mul k g))
          ∙ ap (λ r. run_at t g c (k + 1) ++ r) (more ∙ ap (λ r. pair t (c + suc k * g) ∷ r) (rest-rounded g W now ts w e d t (on_step (suc k))))
          ∙ ap (λ n. run_at t g c (k + 1) ++ pair t (c + n * g) ∷ left t (c + suc (suc k) * g - 1)) one
          ∙ sym (append_assoc (run_at t g c (k + 1)) (pair t (c + (k + 1) * g) ∷ []) (left t (c + suc (suc k) * g - 1)))
          ∙ ap (λ ps. ps ++ left t (c + suc (suc k) * g - 1)) (sym (run_more t g c (k + 1)) ∙ ap (λ n. run_at t g c (n + 1)) (sym one))
        where
          one : suc k ≡ k + 1
          one = omega arith

          more : left t (c + suc k * g - 1) ≡ pair t (c + suc k * g) ∷ left t (c + suc k * g)
          more =
              next-is (c + suc k * g - 1) (c + suc k * g) (omega arith) (at-step (suc k))
              (record { fits = omega (arith, x.high); clear = λ v a u. x.before v (omega arith) (omega arith) }) (λ v a u n l. absurd (omega arith))

  none-clear : {y : ℕ} → FirstFree words y w None → (x : ℕ) → y < x → Open v (pair t x) → ⊥
  none-clear {y} f x b u = f x b (open-clear x u).1

  -- NONE MORE AT THIS TICK: on to the next
  pub rest-none : {y : ℕ} → FirstFree words y w None → left t y ≡ left (t + 1) 0
  unfolding v ts ways
  rest-none {y} f = next-tick v 0 (lawful g W now ts (asked w e d)) t y (λ x u b. none-clear f x (ltb→lt y x b) u)

  -- NONE AT ALL AT THIS TICK: on to the next finish
  pub rest-jump : FirstFree words 0 w None → {x : ℕ} → NextFinish live n t x → left t 0 ≡ left x 0
  unfolding v ts ways booked stamped
  rest-jump f {x} b = next-end v 0 (lawful g W now ts (asked w e d)) t x p b.after leaves (λ y u. none-clear f y (open-clear y u).0 u)
    where
      leaves : (u : Task) → u ∈ ts → (y : ℕ) → T (meets (booked now (asked w e d) t y) u) → x ≤ (lawful g W now ts (asked w e d)).leaves t y u
      leaves u m y a =
          let j = (meets-share (booked now (asked w e d) t y) u a).tick in
          rw (leaves-finish g W now ts (asked w e d) t y u) (next_of W n live o b u m (omega (arith, j.low₁, j.high₂)))
