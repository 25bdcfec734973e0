-- Horizon's visits: what one look at a time says of the walk that every planner makes (planners' Walk). Assumes nothing.
use Prim.Native.Nat.{ℕ, ◌-◌, ◌≤◌, ◌<◌}
use mathlib.Core.Path.{◌≡◌, sym, ap, ◌∙◌, subst}
use mathlib.Core.Logic.{◌⊎◌, inl, inr}
use mathlib.Core.Option.{some}
use mathlib.Core.List.{List, [], map}
use native.Mathlib.Omega.{arith}
use native.Mathlib.Decide.{dec_lt}
use Rattle.lists.specs.Lists.{◌∈◌, head?, never}
use Rattle.lists.proofs.Members.{map-in, in_map, range-in, in-range}
use Rattle.ways.specs.Ways.{pair}
use Rattle.tasks.specs.declared.Task.{Task}
use Rattle.tasks.specs.declared.Submission.{Submission}
use Rattle.columns.specs.Columns.{columns, Run, runs, key, left_of}
use Rattle.columns.proofs.Runs.{runs-longest, longest-runs}
use Rattle.columns.proofs.BestFit.{Better, best-head, best_none, key-less, key_left, key_counts}
use Rattle.std.specs.Prelude.{Some, None}
use Rattle.planners.specs.Planners.{release, left_edge, released_edges, horizon}
use Rattle.planners.specs.Lent.{found_of}
use Rattle.planners.proofs.Grid.{released-one}
use Rattle.planners.proofs.Walk.{Visits, visits-hit, visits-none, visits-on}
use Rattle.horizon.specs.declared.Seen.{Seen}
use Rattle.horizon.specs.Look.{released_by, KeyIs, NextIs, Looked}

-- the visits of Horizon
abbrev pub Releases : (W now : ℕ) → List Task → Submission → ℕ → Type 0
Releases W now ts a t = Visits W now ts a (released_edges 1 W now ts a) (map (release now ts) (columns W)) t

module _ (W now : ℕ) (ts : List Task) (a : Submission) (wide : W ≤ 256) {t : ℕ} {o : Seen} (look : Looked (release now ts) W a.w t o) where
  -- a run of the list that is wide enough is one that the look weighed
  weighed : (q : Run) → q ∈ runs (released_by (release now ts) t) (columns W) → a.w ≤ q.size → o.key ≤ key q
  weighed q m h = look.least q (record { longest = runs-longest (released_by (release now ts) t) 1 W m; wide = h })

  -- the least key is that of best fit's first
  first_edge : (k : KeyIs (release now ts) W a.w t o.key) → head? (released_edges 1 W now ts a t) ≡ some (pair t k.run.left)
  unfolding head?
  first_edge k =
      let b = best-head a.w (released_by (release now ts) t) 1 W k.run (longest-runs (released_by (release now ts) t) 1 W k.run k.fits.longest) k.fits.wide worse in
      ap head? (released-one W now ts a t) ∙ ap (λ l. head? (map (left_edge t) l)) b.1
    where
      worse : (q : Run) → q ∈ runs (released_by (release now ts) t) (columns W) → a.w ≤ q.size → Better q k.run → ⊥
      worse q m h b =
          let g = runs-longest (released_by (release now ts) t) 1 W m in
          omega (arith, k.same, weighed q m h, key-less wide g.lies k.fits.longest.lies b)

  -- no key: no run is wide enough
  no_edge : never ≤ o.key → released_edges 1 W now ts a t ≡ []
  no_edge h =
      released-one W now ts a t ∙ ap (map (left_edge t)) (best_none a.w (runs (released_by (release now ts) t) (columns W)) (λ q m l.
      let g = runs-longest (released_by (release now ts) t) 1 W m in
      omega (arith, weighed q m l, (key_counts wide g.lies).1)))

  -- a release after t is not before the next one
  not-before : (x : ℕ) → x ∈ map (release now ts) (columns W) → (x ≤ t) ⊎ (o.next ≤ x)
  not-before x m = step (dec_lt t x)
    where
      step : Dec (t < x) → (x ≤ t) ⊎ (o.next ≤ x)
      step (no l) = inl (omega arith)
      step (yes l) =
          let r = map-in (release now ts) (columns W) m in
          let b = range-in 1 W r.1 in
          inr (omega (arith, look.soonest r.0 b.low (omega (arith, b.high)) (omega (arith, r.2)), r.2))

  module _ (v : Releases W now ts a t) where
    -- A RUN IS WIDE ENOUGH: that is the answer
    pub release-hit : {x : ℕ} → o.key < never → x ≡ left_of o.key → Some (record { column = x; start = t }) ≡ found_of (horizon 1 W now ts a)
    unfolding horizon
    release-hit {x} h z = step look.key
      where
        step : (o.key ≡ never) ⊎ KeyIs (release now ts) W a.w t o.key → Some (record { column = x; start = t }) ≡ found_of (horizon 1 W now ts a)
        step (inl e) = absurd (omega arith)
        step (inr k) =
            let c : x ≡ k.run.left = z ∙ ap left_of k.same ∙ key_left wide k.fits.longest.lies in
            ap (λ y. Some (record { column = y; start = t })) c ∙ sym (ap found_of (visits-hit W now ts a (released_edges 1 W now ts a) (map (release now ts) (columns W)) v (first_edge k)))

    -- NONE IS LEFT: the submission is rejected
    pub release-none : never ≤ o.key → a.d - a.e < o.next → None ≡ found_of (horizon 1 W now ts a)
    unfolding horizon
    release-none h l = sym (ap found_of (visits-none W now ts a (released_edges 1 W now ts a) (map (release now ts) (columns W)) v (no_edge h) not-before (omega arith)))

    -- THE NEXT VISITED TIME
    pub release-on : never ≤ o.key → o.next ≤ a.d - a.e → a.e ≤ a.d → a.d < never → (t < o.next) × Releases W now ts a o.next
    release-on h l g s = step look.next
      where
        step : (o.next ≡ never) ⊎ NextIs (release now ts) W t o.next → (t < o.next) × Releases W now ts a o.next
        step (inl e) = absurd (omega arith)
        step (inr k) =
            let m : o.next ∈ map (release now ts) (columns W) =
            subst (λ x. x ∈ map (release now ts) (columns W)) k.same (in_map (release now ts) (in-range 1 W k.column k.from_one (omega (arith, k.on-device)))) in
            (k.later, visits-on W now ts a (released_edges 1 W now ts a) (map (release now ts) (columns W)) v (no_edge h) not-before m k.later (omega arith))
