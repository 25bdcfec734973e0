-- The walk from finish to finish: what is left gives the answer. For Full the openings from t on, for Stuffing the times visited from t on. Assumes nothing.
use Prim.Native.Nat.{ℕ, ◌+◌, ◌-◌, ◌≤◌, ◌<◌}
use mathlib.Core.Path.{◌≡◌, refl, sym, ap, ◌∙◌}
use mathlib.Core.Bool.{Bool, true, false, not, cond, true≢false}
use mathlib.Core.List.{List, [], map}
use native.Mathlib.Omega.{arith}
use native.Mathlib.Decide.{dec_lt}
use Rattle.lists.specs.Lists.{head?}
use Rattle.ways.proofs.Laws.{all}
use Rattle.tasks.specs.declared.Task.{Task}
use Rattle.tasks.specs.Tasks.{finish}
use Rattle.tasks.proofs.Grid.{multiple-zero}
use Rattle.live.specs.Live.{tasks_of, OnDevice, NextFinish}
use Rattle.std.specs.Prelude.{Some, None, Option as Found}
use Rattle.planners.specs.declared.Place.{Place as FoundPlace}
use Rattle.planners.specs.declared.Window.{Window}
use Rattle.planners.specs.Openings.{Place, ways, full}
use Rattle.planners.specs.Planners.{candidates, stuffing}
use Rattle.planners.specs.Lent.{Fits, Stepped, wanted, found_of}
use Rattle.planners.proofs.Grid.{stepped-one}
use Rattle.planners.proofs.Openings.{lawful}
use Rattle.planners.proofs.Walk.{Visits, visits-start, visits-hit, visits-none, visits-on, not-before, next-time}
use Rattle.columns.specs.Columns.{columns, runs}
use Rattle.words.specs.Words.{column, Least}
use Rattle.held.specs.Held.{Held, FirstFree}
use Rattle.held.proofs.Rest.{rest, rest-early, rest_over, rest-first, rest-jump}
use Rattle.edges.specs.Edges.{Fitting, Picked}
use Rattle.search.proofs.Fit.{Fit, fit-first, fit_none, none_free}
use Rattle.search.proofs.Choice.{now-fitting, no-candidate, choice-one, choice-none}

-- the answer
abbrev pub Answer : Bool → Window → List Task → Found FoundPlace
Answer whole q ts = found_of (cond whole (full 1 q.width q.clock ts (wanted q)) (stuffing 1 q.width q.clock ts (wanted q)))

module _ (q : Window) (ts : List Task) where
  -- the openings from t on
  abbrev onward : ℕ → List Place
  onward t = rest 1 q.width q.clock ts q.w q.e q.d t 0

  -- the candidates at t
  abbrev pub tried : ℕ → List Place
  tried t = candidates 1 q.width q.clock ts (wanted q) t

  -- the openings from t on give Full's answer
  abbrev Left : ℕ → Type 0
  Left t = full 1 q.width q.clock ts (wanted q) ≡ head? (onward t)

  -- t is visited by Stuffing, and no time before has a candidate
  abbrev Stuffs : ℕ → Type 0
  Stuffs t = Visits q.width q.clock ts (wanted q) tried (map finish ts) t

  -- THE WALK STANDS at t
  pub record Stands (whole : Bool) (t : ℕ) : Type 0 where
    pub from-now : q.clock ≤ t
    pub in-time : t + q.e ≤ q.d
    pub openings : whole ≡ true → Left t
    pub visits : whole ≡ false → Stuffs t

  -- NOTHING AT t: for Full no opening, for Stuffing no candidate
  pub record Blocked (whole : Bool) (t : ℕ) (stay : List ℕ) : Type 0 where
    pub held : Held q.width t q.e ts stay
    pub no-opening : whole ≡ true → FirstFree stay 0 q.w None
    pub no_edge : whole ≡ false → tried t ≡ []

  pub walk-begin : (whole : Bool) → Fits q → Stands whole q.clock
  unfolding full
  walk-begin whole fits = record {
    from-now = omega arith;
    in-time = fits.in-time;
    openings = λ e. ap head? (sym (all (ways 1 q.width q.clock ts (wanted q)) 0 (lawful 1 q.width q.clock ts (wanted q))) ∙ go (dec_lt 0 q.clock));
    visits = λ e. visits-start q.width q.clock ts (wanted q) tried (map finish ts);
  }
    where
      go : Dec (0 < q.clock) → onward 0 ≡ onward q.clock
      go (yes p) = rest-early 1 q.width q.clock ts q.w q.e q.d 0 0 p
      go (no p) = ap onward (let z : 0 ≡ q.clock = omega arith in z)

module _ (q : Window) (n : ℕ) (live : List ℕ) (o : OnDevice q.width n live) (fits : Fits q) where
  abbrev ts : List Task
  ts = tasks_of n live

  -- with g = 1 any tasks lie on the grid
  any : Stepped 1 q.width q.w ts
  any = stepped-one q.width q.w ts

  module _ {whole : Bool} {t : ℕ} (k : Stands q ts whole t) where
    -- at t: the columns held during the stay, and where w clear ones begin
    module _ {stay fit : List ℕ} (h : Held q.width t q.e ts stay) (f : Fit stay q.w fit) where
      -- FULL takes the first place
      pub walk_first : {c : ℕ} → whole ≡ true → Least (column fit) 1 257 c → c < 257 → Some (record { column = c; start = t }) ≡ Answer whole q ts
      unfolding head?
      walk_first {c} z l b =
          sym (ap (λ v. Answer v q ts) z ∙ ap found_of (k.openings z
          ∙ ap head? (rest-first 1 q.width q.clock n live o q.w q.e q.d any fits.wide k.from-now k.in-time stay h (multiple-zero 1) (fit-first fits.wide f l b))))

      -- none: nothing is open
      pub blocked-none : {c : ℕ} → Least (column fit) 1 257 c → 257 ≤ c → Blocked q ts whole t stay
      blocked-none l b = record {
        held = h;
        no-opening = λ z. none_free fits.wide f l b;
        no_edge = λ z. no-candidate q.width q.clock ts q.w q.e q.d o.wide fits.wide fits.long k.from-now k.in-time h f (fit_none fits.wide f l b);
      }

      -- the left edges among them, with what is held at t
      module _ (z : whole ≡ false) (held : List ℕ) (h₁ : Held q.width t 1 ts held) where
        fitting : Fitting held fit q.width q.w
        fitting = now-fitting q.width q.clock ts q.w q.e q.d o.wide fits.wide fits.long k.from-now k.in-time h f held h₁

        -- STUFFING takes the narrowest interval's
        pub walk-edge : {c : ℕ} → ((W w : ℕ) → Fitting held fit W w → Picked (column fit) w (runs (λ x. not (column held x)) (columns W)) (Some c))
            → Some (record { column = c; start = t }) ≡ Answer whole q ts
        unfolding stuffing
        walk-edge picks =
            sym (ap (λ v. Answer v q ts) z ∙ ap found_of (visits-hit q.width q.clock ts (wanted q) (tried q ts) (map finish ts) (k.visits z)
            (choice-one q.width q.clock ts q.w q.e q.d o.wide fits.wide fits.long k.from-now k.in-time h f held h₁ (picks q.width q.w fitting))))

        -- none: there is no candidate
        pub blocked-edges : ((W w : ℕ) → Fitting held fit W w → Picked (column fit) w (runs (λ x. not (column held x)) (columns W)) None) → Blocked q ts whole t stay
        blocked-edges picks = record {
          held = h;
          no-opening = λ y. absurd (true≢false (sym y ∙ z));
          no_edge = λ y. choice-none q.width q.clock ts q.w q.e q.d o.wide fits.wide fits.long k.from-now k.in-time h f held h₁ (picks q.width q.w fitting);
        }

    module _ {stay : List ℕ} (b : Blocked q ts whole t stay) {u : ℕ} (x : NextFinish live n t u) where
      jump : whole ≡ true → Left q ts u
      jump z = k.openings z ∙ ap head? (rest-jump 1 q.width q.clock n live o q.w q.e q.d any fits.wide k.from-now k.in-time stay b.held (b.no-opening z) x)

      -- NONE IS LEFT
      pub walk-over : q.d - q.e < u → None ≡ Answer whole q ts
      unfolding head? stuffing
      walk-over h = go whole refl
        where
          go : (v : Bool) → whole ≡ v → None ≡ Answer whole q ts
          go true z =
              sym (ap (λ b. Answer b q ts) z ∙ ap found_of (jump z ∙ ap head? (rest_over 1 q.width q.clock ts q.w q.e q.d u 0 (omega (arith, fits.in-time)) fits.in-time)))
          go false z =
              sym (ap (λ b. Answer b q ts) z
              ∙ ap found_of (visits-none q.width q.clock ts (wanted q) (tried q ts) (map finish ts) (k.visits z) (b.no_edge z) (not-before o x) (omega (arith, fits.in-time))))

      -- on to the next finish
      pub walk-on : u ≤ q.d - q.e → Stands q ts whole u
      walk-on h = record {
        from-now = omega (arith, k.from-now, x.after);
        in-time = omega (arith, fits.in-time);
        openings = jump;
        visits = λ z.
            visits-on q.width q.clock ts (wanted q) (tried q ts) (map finish ts) (k.visits z) (b.no_edge z) (not-before o x)
            (next-time o x (omega (arith, fits.until))) x.after (omega (arith, fits.in-time));
      }
