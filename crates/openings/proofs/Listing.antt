-- The walk over the openings: at a pair, with the columns of its tick, all that comes after it is still to be written. Assumes nothing.
use Prim.Native.Nat.{ℕ, suc, ◌+◌, ◌-◌, ◌*◌, ◌/◌, ◌≤◌, ◌<◌, max, min}
use mathlib.Core.Path.{◌≡◌, sym, ap, ap₂, ◌∙◌, subst}
use mathlib.Core.Bool.{true, false}
use mathlib.Core.List.{List, [], ◌++◌}
use native.Mathlib.Nat.{suc-mul, mul-le-mul_right}
use native.Mathlib.Omega.{arith}
use native.Mathlib.Decide.{dec_lt}
use lib.Dec.{T}
use lib.ListN.{length, take}
use Rattle.std.specs.Prelude.{None}
use Rattle.lists.specs.Lists.{over_front}
use Rattle.tasks.specs.declared.Task.{Task}
use Rattle.planners.specs.Openings.{Place, pair_numbers}
use Rattle.tasks.specs.Numbers.{multiple, may_begin}
use Rattle.tasks.proofs.Grid.{multiple-zero, multiple-self, multiple-steps, multiple-sum, multiple-rest, multiple-gap, multiple-times}
use Rattle.planners.specs.Lent.{Fits, Stepped, Rounded, run_at}
use Rattle.planners.specs.declared.Window.{Window}
use Rattle.live.specs.Live.{tasks_of, OnDevice, After}
use Rattle.live.proofs.Laws.{after_on}
use Rattle.words.specs.Words.{column, Least}
use Rattle.held.specs.Held.{Held, FirstAt, FirstFree, Unchanged}
use Rattle.held.proofs.Opens.{held-lasts, after-lasts}
use Rattle.held.proofs.Steps.{first-on-grid, end-on-grid}
use Rattle.held.proofs.Rest.{rest, rest-early, rest_over, rest-beyond, rest-rounded, rest-first, rest-run, rest-none, rest-jump}
use Rattle.openings.specs.declared.Filled.{Filled}
use Rattle.looking.specs.Looking.{Stopped, NextTick}
use Rattle.openings.specs.Filled.{filled_of}
use Rattle.openings.proofs.Writing.{Written, write-none, write-on, write-run, write-all, write-full, run_length}
use lib.Seq.{sets}

-- the walk ends: a column further at the same tick, or a later tick
pub further : (d t c x : ℕ) → c < x → x ≤ 256 → (d - t) * 257 + (256 - x) < (d - t) * 257 + (256 - c)
further d t c x h k = omega arith

-- some steps take a column or more
pub steps_on : {k step : ℕ} → 1 ≤ k → 1 ≤ step → 1 ≤ k * step
steps_on {k} {step} h l = omega (arith, mul-le-mul_right step h)

pub later-tick : (d t c y : ℕ) → t < y → y ≤ d → (d - y) * 257 + (256 - 0) < (d - t) * 257 + (256 - c)
later-tick d t c y h k = let z : d - y + 1 ≤ d - t = omega arith in omega arith

-- the next tick comes later
pub next-later : {live : List ℕ} {n t c y : ℕ} → NextTick live n t c y → t < y
next-later {live} {n} {t} {c} {y} u = go (dec_lt 0 c)
  where
    go : Dec (0 < c) → t < y
    go (yes p) = omega (arith, u.tick p)
    go (no p) = (u.finish (omega arith)).after

module _ (q : Window) (g n : ℕ) (live : List ℕ) (a b : ℕ) (lent : List ℕ) where
  abbrev ts : List Task
  ts = tasks_of n live

  -- what is left after a pair
  abbrev left : ℕ → ℕ → List Place
  left = rest g q.width q.clock ts q.w q.e q.d

  -- what is promised of the answer and the buffer
  abbrev Promised : Filled → List ℕ → Type 0
  Promised o buffer = (o ≡ filled_of (length lent) (left a b)) × (buffer ≡ over_front (pair_numbers (take (length lent / 2) (left a b))) lent)

  -- t and c are the pair to start after, moved to now, and to the grid on the device
  abbrev From : ℕ → ℕ → Type 0
  From t c = (t ≡ max q.clock a) × ((a < q.clock → c ≡ 0) × (q.clock ≤ a → Rounded g (min b q.width) c))

  -- the walk stands at (t, c): until `until` the words are the columns of a tick, and the first `many` tasks those that have not finished;
  -- k openings are written
  pub record At (t c many : ℕ) (words : List ℕ) (until : ℕ) (buffer : List ℕ) (k : ℕ) : Type 0 where
    pub from-now : q.clock ≤ t
    pub in-time : t + q.e ≤ q.d
    pub within : c ≤ 256
    pub on-grid : T (multiple g c)
    pub few : many ≤ 64
    pub ahead : t < until
    pub held : (v : ℕ) → t ≤ v → v < until → Held q.width v q.e ts words
    pub live_now : (v : ℕ) → t ≤ v → v < until → After live n v many
    pub written : Written (left a b) lent buffer k (left t c)

  module _ (o : OnDevice q.width n live) (fits : Fits q) (s : Stepped g q.width q.w ts) where
    -- a step is not wider than the task
    pub grid-fits : g ≤ q.w
    grid-fits = omega (arith, multiple-gap g 0 q.w (multiple-zero g) s.width (omega (arith, fits.wide)))

    begin : {t c : ℕ} → From t c → left a b ≡ left t c
    begin {t} {c} p = go (dec_lt a q.clock) (dec_lt b q.width)
      where
        go : Dec (a < q.clock) → Dec (b < q.width) → left a b ≡ left t c
        go (yes x) y = rest-early g q.width q.clock ts q.w q.e q.d a b x ∙ ap₂ left (let z : q.clock ≡ t = omega arith in z) (sym (p.1.0 x))
        go (no x) (yes y) =
            ap₂ left (let z : a ≡ t = omega arith in z) (let z : b ≡ min b q.width = omega arith in z)
            ∙ rest-rounded g q.width q.clock ts q.w q.e q.d t (p.1.1 (omega arith))
        go (no x) (no y) =
            rest-beyond g q.width q.clock ts q.w q.e q.d a b (omega arith) fits.wide
            ∙ ap₂ left (let z : a ≡ t = omega arith in z) (let z : q.width ≡ min b q.width = omega arith in z)
            ∙ rest-rounded g q.width q.clock ts q.w q.e q.d t (p.1.1 (omega arith))

    over : (t c : ℕ) → q.d - q.e < t → left t c ≡ []
    over t c h = rest_over g q.width q.clock ts q.w q.e q.d t c (omega (arith, fits.in-time)) fits.in-time

    -- PAST THE LAST START already: nothing is written
    pub list-late : {t c : ℕ} → From t c → q.d - q.e < t → Promised (record { count = 0; more = false }) lent
    list-late {t} {c} p h = write-all (write-none (left a b) lent) (begin p ∙ over t c h)

    -- at a tick with columns of its own
    fresh : {t c many until k : ℕ} {words buffer : List ℕ} → q.clock ≤ t → t + q.e ≤ q.d → c ≤ 256 → T (multiple g c) → Held q.width t q.e ts words
        → After live n t many → Unchanged live n t q.e until → Written (left a b) lent buffer k (left t c) → At t c many words until buffer k
    fresh {t} {c} {many} {until} {k} {words} {buffer} p m l j h f u x = record {
      from-now = p;
      in-time = m;
      within = l;
      on-grid = j;
      few = omega (arith, f.few, o.few);
      ahead = u.after;
      held = held-lasts q.width n live o t q.e until fits.long u words h;
      live_now = after-lasts f u;
      written = x;
    }

    pub list-begin : {t c many : ℕ} → From t c → t + q.e ≤ q.d → (words : List ℕ) (until : ℕ) → Held q.width t q.e ts words
        → After live n t many → Unchanged live n t q.e until → At t c many words until lent 0
    list-begin {t} {c} p k words until h f u =
        let i = inside (dec_lt a q.clock) in
        fresh (omega arith) k (omega (arith, i.0, o.wide)) i.1 h f u (write-on (write-none (left a b) lent) (begin p))
      where
        rounded : Rounded g (min b q.width) c → Dec (q.width < c) → c ≤ q.width
        rounded r (yes x) = absurd (omega (arith, multiple-gap g q.width c s.device r.multiple x, r.near))
        rounded r (no x) = omega arith

        inside : Dec (a < q.clock) → (c ≤ q.width) × T (multiple g c)
        inside (yes x) = let z = p.1.0 x in (omega arith, subst (λ v. T (multiple g v)) (sym z) (multiple-zero g))
        inside (no x) = let r = p.1.1 (omega arith) in (rounded r (dec_lt q.width c), r.multiple)

    module _ {t c many : ℕ} {words : List ℕ} {until : ℕ} {buffer : List ℕ} {k : ℕ} (m : At t c many words until buffer k) where
      here : Held q.width t q.e ts words
      here = m.held t (omega arith) m.ahead

      pub list-live : After live n t many
      list-live = m.live_now t (omega arith) m.ahead

      module _ {x : ℕ} (f : FirstAt words c q.w x) where
        -- what is open from x on, up to the last place before `end`, in steps
        pub run-steps : {end : ℕ} → Least (column words) x 257 end → x + q.w ≤ end → end - q.w + g ≡ x + (end - q.w + g - x) / g * g
        unfolding may_begin
        run-steps {end} y u =
            let ends = end-on-grid q.width t q.e s words here o.wide (omega (arith, f.after)) (omega (arith, fits.wide)) y in
            let begins = first-on-grid q.width t q.e s words here fits.wide m.on-grid f in
            let last = multiple-sum g (end - 1 - q.w) g (multiple-rest g (end - 1) q.w ends s.width) (multiple-self g) in
            let all = multiple-rest g (end - 1 - q.w + g) (x - 1) last begins in
            let same : end - 1 - q.w + g - (x - 1) ≡ end - q.w + g - x = omega (arith, f.after) in
            omega (arith, multiple-times g (end - q.w + g - x) (subst (λ v. T (multiple g v)) same all))

        -- A RUN WRITTEN, in steps
        pub list-run : {end to room : ℕ} → Least (column words) x 257 end → x + q.w ≤ end → (r : Stopped x (end - q.w + g) room g to)
            → {after : List ℕ} → after ≡ sets buffer (k * 2) (pair_numbers (run_at t g x r.count))
            → {j : ℕ} → j ≡ k + r.count → j * 2 ≤ length lent → At t (to - 1) many words until after j
        unfolding may_begin
        list-run {end} {to} y p r {after} v {j} h room = record {
          from-now = m.from-now;
          in-time = m.in-time;
          within = omega (arith, y.high, r.high, grid-fits);
          on-grid = subst (λ n. T (multiple g n)) last (multiple-sum g (x - 1) (r.count * g) begins (multiple-steps g r.count));
          few = m.few;
          ahead = m.ahead;
          held = m.held;
          live_now = m.live_now;
          written = write-run m.written (run_at t g x r.count) run v (omega (arith, run_length t g x r.count)) room;
        }
          where
            begins : T (multiple g (x - 1))
            begins = first-on-grid q.width t q.e s words here fits.wide m.on-grid f

            less : ℕ
            less = r.count - 1

            one : suc less ≡ r.count
            one = omega (arith, r.some)

            last : x - 1 + r.count * g ≡ to - 1
            last = omega (arith, r.is, f.after)

            run : left t c ≡ run_at t g x r.count ++ left t (to - 1)
            run =
                rest-run g q.width q.clock n live o q.w q.e q.d s fits.wide m.from-now m.in-time words here y m.on-grid f less
                (let w = suc-mul less g in omega (arith, ap (λ n. n * g) one, r.is, r.high))
                ∙ ap₂ (λ a b. run_at t g x a ++ left t (x + b * g - 1)) (let w : less + 1 ≡ r.count = omega (arith, one) in w) one
                ∙ ap (λ a. run_at t g x r.count ++ left t (a - 1)) (sym r.is)

        -- NO MORE FITS, and there is one
        pub list_full : length lent / 2 ≤ k → Promised (record { count = k; more = true }) buffer
        list_full h = write-full m.written (rest-first g q.width q.clock n live o q.w q.e q.d s fits.wide m.from-now m.in-time words here m.on-grid f) h

      -- ANOTHER TICK with columns of its own, and fewer tasks
      pub list-after : {y fewer : ℕ} → NextTick live n t c y → After live many y fewer → After live n y fewer
      list-after {y} {fewer} u k₁ = after_on list-live (omega (arith, next-later u)) k₁

      module _ (f : FirstFree words c q.w None) where
        -- on to the next tick that can have one
        onward : {y : ℕ} → NextTick live n t c y → left t c ≡ left y 0
        onward {y} u = go (dec_lt 0 c)
          where
            go : Dec (0 < c) → left t c ≡ left y 0
            go (yes p) =
                rest-none g q.width q.clock n live o q.w q.e q.d s fits.wide m.from-now m.in-time words here f
                ∙ ap (λ v. left v 0) (sym (u.tick p))
            go (no p) =
                let r : c ≡ 0 = omega arith in
                ap (left t) r ∙ rest-jump g q.width q.clock n live o q.w q.e q.d s fits.wide m.from-now m.in-time words here (rw r at f) (u.finish r)

        -- NONE IS LEFT
        pub list_done : {y : ℕ} → NextTick live n t c y → q.d - q.e < y → Promised (record { count = k; more = false }) buffer
        list_done {y} u h = write-all m.written (onward u ∙ over y 0 h)

        -- ANOTHER TICK with the same columns
        pub list-next : {y : ℕ} → NextTick live n t c y → y + q.e ≤ q.d → y < until → At y 0 many words until buffer k
        list-next {y} u r h = record {
          from-now = omega (arith, m.from-now, next-later u);
          in-time = r;
          within = omega arith;
          on-grid = multiple-zero g;
          few = m.few;
          ahead = h;
          held = λ v p. m.held v (omega (arith, next-later u));
          live_now = λ v p. m.live_now v (omega (arith, next-later u));
          written = write-on m.written (onward u);
        }

        pub list-fresh : {y fewer : ℕ} → NextTick live n t c y → y + q.e ≤ q.d → After live n y fewer → (others : List ℕ) (end : ℕ)
            → Held q.width y q.e ts others → Unchanged live n y q.e end → At y 0 fewer others end buffer k
        list-fresh {y} u r k₁ others end h v =
            fresh (omega (arith, m.from-now, next-later u)) r (omega arith) (multiple-zero g) h k₁ v (write-on m.written (onward u))
