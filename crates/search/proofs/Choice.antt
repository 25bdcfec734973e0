-- At an instant: the candidates are the left edges of the intervals free at it where w columns are clear during the whole stay. Assumes nothing.
use Prim.Native.Nat.{ℕ, ◌+◌, ◌≤◌, max, min}
use mathlib.Core.Path.{◌≡◌, sym, ap, ◌∙◌, subst}
use mathlib.Core.Logic.{◌⊎◌, inl, inr}
use mathlib.Core.Bool.{true, false, not, ◌&&◌, ◌||◌, or-false}
use mathlib.Core.Option.{some}
use mathlib.Core.List.{List, [], map}
use native.Mathlib.Omega.{arith}
use borrow.Author.Tests.{le-ltb}
use lib.Dec.{T, leb, ltb, leb→le, le→leb, ltb→lt, lt→ltb, not_T}
use Rattle.lists.specs.Lists.{◌∈◌, keep, head?, some?}
use Rattle.lists.proofs.Bools.{and_l, and_r, and_i, or_l, or_r, or_cases, is_true, same_bool}
use Rattle.lists.proofs.Append.{some_same, keep-map, keep-agree, head-map}
use Rattle.lists.proofs.Members.{keep-none, in-keep, in_map, some-pass, pass-some}
use Rattle.ways.specs.Ways.{pair}
use Rattle.tasks.specs.declared.Task.{Task}
use Rattle.tasks.specs.Tasks.{from, finish, overlap, covers, holds}
use Rattle.tasks.proofs.Grid.{begin-one}
use Rattle.columns.specs.Columns.{columns, Run, runs, best_fit}
use Rattle.columns.proofs.Runs.{runs_same}
use Rattle.planners.specs.Planners.{free, left_edge, clear_of_waiting, candidates}
use Rattle.planners.specs.Lent.{asked}
use Rattle.planners.proofs.Grid.{candidates-one, waiting-one}
use Rattle.planners.proofs.Openings.{opening-open}
use Rattle.planners.proofs.Planners.{candidate-opens}
use Rattle.words.specs.Words.{column}
use Rattle.held.specs.Held.{in_stay, Held}
use Rattle.held.proofs.Opens.{clear-opens, opens-clear}
use Rattle.std.specs.Prelude.{Some, None}
use Rattle.edges.specs.Edges.{Fitting, Picked}
use Rattle.search.proofs.Fit.{Fit}

-- a stay of one tick: the task holds the column at it
one-tick : (t c : ℕ) (u : Task) → in_stay t 1 c u ≡ holds t c u
unfolding in_stay holds
one-tick t c u =
    let p = leb (from u) t in
    let q = ltb t (finish u) in
    let o = overlap t (t + 1) (from u) (finish u) in
    ap (λ b. b && covers c u) (same_bool o (p && q)
    (λ b.
    let m = ltb→lt (max t (from u)) (min (t + 1) (finish u)) b in
    and_i p q (le→leb (from u) t (omega arith)) (lt→ltb t (finish u) (omega arith)))
    (λ b.
    let l = leb→le (from u) t (and_l p q b) in
    let m = ltb→lt t (finish u) (and_r p q b) in
    lt→ltb (max t (from u)) (min (t + 1) (finish u)) (omega arith)))

-- a longer stay meets no less
longer : (t e c : ℕ) → 1 ≤ e → (u : Task) → T (in_stay t 1 c u) → T (in_stay t e c u)
unfolding in_stay
longer t e c h u b =
    let m = ltb→lt (max t (from u)) (min (t + 1) (finish u)) (and_l (overlap t (t + 1) (from u) (finish u)) (covers c u) b) in
    and_i (overlap t (t + e) (from u) (finish u)) (covers c u) (lt→ltb (max t (from u)) (min (t + e) (finish u)) (omega arith)) (and_r (overlap t (t + 1) (from u) (finish u)) (covers c u) b)

-- the columns held at one tick: on the device those that are not free
one_free : (W t : ℕ) (ts : List Task) (words : List ℕ) → Held W t 1 ts words → W ≤ 256 → (c : ℕ) → 1 ≤ c → c ≤ W → not (column words c) ≡ free ts t c
unfolding free
one_free W t ts words h l c p q =
    ap not (h c p (omega arith) ∙ ap (λ b. some? (in_stay t 1 c) ts || b) (le-ltb W c q) ∙ or-false (some? (in_stay t 1 c) ts) ∙ some_same (in_stay t 1 c) (holds t c) ts (λ u m. one-tick t c u))

module _ (W now : ℕ) (ts : List Task) (w e d : ℕ) {t : ℕ} (small : W ≤ 256) (wide : 1 ≤ w) (long : 1 ≤ e) (from : now ≤ t) (in-time : t + e ≤ d)
    {stay fit : List ℕ} (h : Held W t e ts stay) (f : Fit stay w fit) where
  -- the free intervals at t that are wide enough, narrowest first
  abbrev intervals : List Run
  intervals = best_fit w (runs (free ts t) (columns W))

  -- a left edge is clear of waiting tasks exactly if w columns from it on are clear during the stay
  edge-fits : (q : Run) → q ∈ intervals → clear_of_waiting W now ts (asked w e d) t (left_edge t q) ≡ column fit q.left
  edge-fits q m =
      same_bool (clear_of_waiting W now ts (asked w e d) t (left_edge t q)) (column fit q.left)
      (λ b.
      let n = in-keep (clear_of_waiting W now ts (asked w e d) t) (in_map (left_edge t) m) b in
      let o = candidate-opens 1 W now ts (asked w e d) t from in-time (subst (λ ps. left_edge t q ∈ ps) (sym (candidates-one W now ts (asked w e d) t)) n) in
      f.begins q.left o.from_one (opens-clear W t e ts stay h 1 now w d q.left small o))
      (λ b.
      let o = clear-opens W t e ts stay h 1 now w d q.left wide (rw (begin-one q.left) tt) (f.from_one q.left b) from in-time (f.clear q.left b) in
      subst T (sym (waiting-one W now ts (asked w e d) t (in_map (left_edge t) m))) (opening-open 1 W now ts (asked w e d) (pair t q.left) o).clear)

  -- THE CANDIDATES
  fitting-edges : candidates 1 W now ts (asked w e d) t ≡ map (left_edge t) (keep (λ q. column fit q.left) intervals)
  fitting-edges =
      candidates-one W now ts (asked w e d) t
      ∙ keep-map (clear_of_waiting W now ts (asked w e d) t) (left_edge t) intervals
      ∙ ap (map (left_edge t)) (keep-agree (λ q. clear_of_waiting W now ts (asked w e d) t (left_edge t q)) (λ q. column fit q.left) intervals edge-fits)

  -- nothing fits
  pub no-candidate : ((c : ℕ) → column fit c ≡ true → ⊥) → candidates 1 W now ts (asked w e d) t ≡ []
  no-candidate g =
      fitting-edges ∙ ap (map (left_edge t)) (keep-none (λ q. column fit q.left) intervals (λ q m. not_T (column fit q.left) (λ b. g q.left (is_true (column fit q.left) b))))

  module _ (held : List ℕ) (k : Held W t 1 ts held) where
    -- what is held at t is held during the stay
    in-stay : (x : ℕ) → 1 ≤ x → x ≤ 256 → T (column held x) → T (column stay x)
    in-stay x p q b = subst T (sym (h x p q)) (go (or_cases (some? (in_stay t 1 x) ts) (ltb W x) (subst T (k x p q) b)))
      where
        go : T (some? (in_stay t 1 x) ts) ⊎ T (ltb W x) → T (some? (in_stay t e x) ts || ltb W x)
        go (inl y) =
            let z = some-pass (in_stay t 1 x) ts y in
            or_l (some? (in_stay t e x) ts) (ltb W x) (pass-some (in_stay t e x) ts z.among (longer t e x long z.it z.passes))
        go (inr y) = or_r (some? (in_stay t e x) ts) (ltb W x) y

    pub now-fitting : Fitting held fit W w
    now-fitting = record {
      small = small;
      wide = wide;
      beyond = λ c p q. k c (omega arith) q ∙ is_true (some? (in_stay t 1 c) ts || ltb W c) (or_r (some? (in_stay t 1 c) ts) (ltb W c) (lt→ltb W c p));
      high = λ c z. (f.clear c (subst T (sym z) tt)).fits;
      clear = λ c z x p q.
          let b : T (column fit c) = subst T (sym z) tt in
          let y = f.clear c b in
          same_bool (column held x) false (λ v. subst T (y.clear x p q) (in-stay x (omega (arith, f.from_one c b)) (omega (arith, y.fits)) v)) (λ v. absurd v);
    }

    same_runs : runs (λ c. not (column held c)) (columns W) ≡ runs (free ts t) (columns W)
    same_runs = runs_same (λ c. not (column held c)) (free ts t) 1 W (λ c p q. one_free W t ts held k small c p (omega arith))

    -- THE NARROWEST interval that fits is the first candidate
    pub choice-one : {c : ℕ} → Picked (column fit) w (runs (λ c. not (column held c)) (columns W)) (Some c) → head? (candidates 1 W now ts (asked w e d) t) ≡ some (pair t c)
    choice-one {c} picks =
        let z : Picked (column fit) w (runs (free ts t) (columns W)) (Some c) = subst (λ rs. Picked (column fit) w rs (Some c)) same_runs picks in
        ap head? fitting-edges ∙ head-map (left_edge t) (keep (λ q. column fit q.left) intervals) z.2 ∙ ap (λ c. some (pair t c)) z.1

    pub choice-none : Picked (column fit) w (runs (λ c. not (column held c)) (columns W)) None → candidates 1 W now ts (asked w e d) t ≡ []
    choice-none picks = fitting-edges ∙ ap (map (left_edge t)) (subst (λ rs. Picked (column fit) w rs None) same_runs picks)
