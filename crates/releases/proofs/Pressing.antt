-- The row is pressed into steps of equal release: what stands after some columns, and that one column more keeps it. Assumes nothing.
use Prim.Native.Nat.{ℕ, zero, suc, ◌+◌, ◌-◌, ◌≤◌, ◌<◌}
use mathlib.Core.Path.{◌≡◌, refl, sym, ap, ◌∙◌, subst}
use mathlib.Core.List.{List}
use native.Mathlib.Omega.{arith}
use native.Mathlib.Numerals.{add-one}
use native.Mathlib.Decide.{dec_le, ℕ_discrete as dec_eq}
use lib.ListN.{length, set, get_or, length-set}
use lib.Seq.{get_or-set_same, get_or-set_other}
use Rattle.releases.specs.Steps.{in_row, edge, Rises, Pressed}

-- n steps are done, of columns up to c
pub record Done (row past at : List ℕ) (n c : ℕ) : Type 0 where
  pub rises : (j : ℕ) → j < n → edge past j < get_or past j 0
  pub within : (j : ℕ) → j < n → get_or past j 0 ≤ c
  pub level : (j : ℕ) → j < n → (k : ℕ) → edge past j ≤ k → k < get_or past j 0 → in_row row k ≡ get_or at j 0

-- columns up to c are passed: n steps are done, and the columns of the one that is begun all have the release x
pub record Pressing (row : List ℕ) (W : ℕ) (past at : List ℕ) (n c x : ℕ) : Type 0 where
  pub room-past : length past ≡ 256
  pub room_at : length at ≡ 256
  pub upto : c ≤ W
  pub wide : W ≤ 256
  pub below : n < c
  pub begun : edge past n ≤ c
  pub flat : (k : ℕ) → edge past n ≤ k → k ≤ c → in_row row k ≡ x
  pub done : Done row past at n c
  pub ended : (j : ℕ) → j < n → in_row row (get_or past j 0) ≡ get_or at j 0 → ⊥

pub press-none : (row past at : List ℕ) (W : ℕ) → length past ≡ 256 → length at ≡ 256 → 1 ≤ W → W ≤ 256 → Pressing row W past at 0 1 (get_or row 0 0)
unfolding edge
press-none row past at W a b l h = record {
  room-past = a;
  room_at = b;
  upto = l;
  wide = h;
  below = omega arith;
  begun = omega arith;
  flat = λ k p q. let e : k ≡ 1 = omega arith in rw e;
  done = record { rises = λ j z. absurd (omega arith); within = λ j z. absurd (omega arith); level = λ j z k p q. absurd (omega arith) };
  ended = λ j z. absurd (omega arith);
}

-- a step is not moved where a later one is stored
edge_kept : (past : List ℕ) (n v j : ℕ) → j ≤ n → edge (set past n v) j ≡ edge past j
unfolding edge
edge_kept past n v zero h = refl
edge_kept past n v (suc j) h = get_or-set_other past n j v 0 (λ e. omega arith)

edge-next : (past : List ℕ) (n v : ℕ) → n < length past → edge (set past n v) (suc n) ≡ v
unfolding edge
edge-next past n v h = get_or-set_same past n v 0 h

module _ {row : List ℕ} {W : ℕ} {past at : List ℕ} {n c x : ℕ} (p : Pressing row W past at n c x) where
  -- what is stored of the step that is begun
  past-new : {j : ℕ} → j ≡ n → get_or (set past n (c + 1)) j 0 ≡ c + 1
  past-new o = ap (λ i. get_or (set past n (c + 1)) i 0) o ∙ get_or-set_same past n (c + 1) 0 (omega (arith, p.room-past, p.below, p.upto, p.wide))

  at_new : {j : ℕ} → j ≡ n → get_or (set at n x) j 0 ≡ x
  at_new o = ap (λ i. get_or (set at n x) i 0) o ∙ get_or-set_same at n x 0 (omega (arith, p.room_at, p.below, p.upto, p.wide))

  -- the step that is begun is stored: one more is done
  stored : Done row (set past n (c + 1)) (set at n x) (suc n) (c + 1)
  stored = record {
    rises = λ j h. rises j h (dec_eq j n);
    within = λ j h. within j h (dec_eq j n);
    level = λ j h k l b. level j h (dec_eq j n) k l b;
  }
    where
      other : (j : ℕ) → (j ≡ n → ⊥) → get_or (set past n (c + 1)) j 0 ≡ get_or past j 0
      other j z = get_or-set_other past n j (c + 1) 0 z

      rises : (j : ℕ) → j < suc n → Dec (j ≡ n) → edge (set past n (c + 1)) j < get_or (set past n (c + 1)) j 0
      rises j h (yes z) = rw (z, edge_kept past n (c + 1) n (omega arith), past-new refl) (omega (arith, p.begun))
      rises j h (no z) = rw (edge_kept past n (c + 1) j (omega arith), other j z) (p.done.rises j (omega arith))

      within : (j : ℕ) → j < suc n → Dec (j ≡ n) → get_or (set past n (c + 1)) j 0 ≤ c + 1
      within j h (yes z) = rw (past-new z) (omega arith)
      within j h (no z) = rw (other j z) (omega (arith, p.done.within j (omega arith)))

      level : (j : ℕ) → j < suc n → Dec (j ≡ n) → (k : ℕ) → edge (set past n (c + 1)) j ≤ k → k < get_or (set past n (c + 1)) j 0 → in_row row k ≡ get_or (set at n x) j 0
      level j h (yes z) k l b =
          let l' : edge past n ≤ k = subst (λ e. e ≤ k) (ap (edge (set past n (c + 1))) z ∙ edge_kept past n (c + 1) n (omega arith)) l in
          let b' : k < c + 1 = subst (λ e. k < e) (past-new z) b in
          p.flat k l' (omega arith) ∙ sym (at_new z)
      level j h (no z) k l b =
          p.done.level j (omega arith) k (subst (λ e. e ≤ k) (edge_kept past n (c + 1) j (omega arith)) l) (subst (λ e. k < e) (other j z) b)
          ∙ sym (get_or-set_other at n j x 0 z)

  -- where a step ended, it still does
  ended-kept : (v j : ℕ) → j < n → in_row row (get_or (set past n v) j 0) ≡ get_or (set at n x) j 0 → ⊥
  ended-kept v j h e =
      p.ended j h
      (ap (in_row row) (sym (get_or-set_other past n j v 0 (λ z. omega arith))) ∙ e ∙ get_or-set_other at n j x 0 (λ z. omega arith))

  -- ONE COLUMN MORE, with another release: a step begins
  pub press-new : c < W → (x ≡ get_or row c 0 → ⊥) → Pressing row W (set past n (c + 1)) (set at n x) (n + 1) (c + 1) (get_or row c 0)
  press-new h differs = record {
    room-past = length-set past n (c + 1) ∙ p.room-past;
    room_at = length-set at n x ∙ p.room_at;
    upto = omega arith;
    wide = p.wide;
    below = omega (arith, p.below);
    begun = rw begins (omega arith);
    flat = λ k l b.
        let l' : c + 1 ≤ k = subst (λ e. e ≤ k) begins l in
        let e : k - 1 ≡ c = omega arith in
        rw e;
    done = subst (λ m. Done row (set past n (c + 1)) (set at n x) m (c + 1)) (sym (add-one n)) stored;
    ended = λ j z. ended j z (dec_eq j n);
  }
    where
      ended : (j : ℕ) → j < n + 1 → Dec (j ≡ n) → in_row row (get_or (set past n (c + 1)) j 0) ≡ get_or (set at n x) j 0 → ⊥
      ended j z (no o) e = ended-kept (c + 1) j (omega arith) e
      ended j z (yes o) e =
          let back : c + 1 - 1 ≡ c = omega arith in
          differs (sym (sym (ap (in_row row) (past-new o) ∙ ap (λ i. get_or row i 0) back) ∙ e ∙ at_new o))

      begins : edge (set past n (c + 1)) (n + 1) ≡ c + 1
      begins = ap (edge (set past n (c + 1))) (add-one n) ∙ edge-next past n (c + 1) (omega (arith, p.room-past, p.below, p.upto, p.wide))

  -- ONE COLUMN MORE, with the same release: the step goes on
  pub press-on : c < W → x ≡ get_or row c 0 → Pressing row W (set past n (c + 1)) (set at n x) n (c + 1) (get_or row c 0)
  press-on h e = record {
    room-past = length-set past n (c + 1) ∙ p.room-past;
    room_at = length-set at n x ∙ p.room_at;
    upto = omega arith;
    wide = p.wide;
    below = omega (arith, p.below);
    begun = rw begins (omega (arith, p.begun));
    flat = λ k l b. flat k (subst (λ i. i ≤ k) begins l) b (dec_le k c);
    done = record { rises = λ j z. stored.rises j (omega arith); within = λ j z. stored.within j (omega arith); level = λ j z. stored.level j (omega arith) };
    ended = λ j z. ended-kept (c + 1) j z;
  }
    where
      begins : edge (set past n (c + 1)) n ≡ edge past n
      begins = edge_kept past n (c + 1) n (omega arith)

      flat : (k : ℕ) → edge past n ≤ k → k ≤ c + 1 → Dec (k ≤ c) → in_row row k ≡ get_or row c 0
      flat k l b (yes z) = p.flat k l z ∙ e
      flat k l b (no z) = let q : k - 1 ≡ c = omega arith in rw q

  -- AFTER THE LAST
  pub press-all : c ≡ W → Pressed (in_row row) W (set past n (W + 1)) (set at n x) (n + 1)
  press-all e =
      subst (λ i. Pressed (in_row row) W (set past n (i + 1)) (set at n x) (n + 1)) e
      (subst (λ m. Pressed (in_row row) W (set past n (c + 1)) (set at n x) m) (sym (add-one n)) (record {
        steps = record { few = omega (arith, p.below, p.upto, p.wide); rises = stored.rises; within = λ j h. omega (arith, stored.within j h, p.upto, p.wide) };
        level = stored.level;
        inside = λ j h. omega (arith, stored.within j h);
        all = edge-next past n (c + 1) (omega (arith, p.room-past, p.below, p.upto, p.wide)) ∙ (let z : c + 1 ≡ suc W = omega arith in z);
        ends = λ j h. ends j h (dec_eq j n);
      }))
    where
      ends : (j : ℕ) → j < suc n → Dec (j ≡ n) → get_or (set past n (c + 1)) j 0 ≤ W → in_row row (get_or (set past n (c + 1)) j 0) ≡ get_or (set at n x) j 0 → ⊥
      ends j h (no o) l = ended-kept (c + 1) j (omega arith)
      ends j h (yes o) l = absurd (omega (arith, past-new o))

-- every step begins at column 1 or after
pub edge-from : {past : List ℕ} {n : ℕ} → Rises past n → (j : ℕ) → j < n → 1 ≤ edge past j
unfolding edge
edge-from o zero h = omega arith
edge-from o (suc j) h = omega (arith, o.rises j (omega arith))

-- steps of a row that has the releases are steps of the releases
pub press-release : {past at : List ℕ} {W n : ℕ} (row : List ℕ) (rel : ℕ → ℕ) → W ≤ 256 → ((k : ℕ) → k < 256 → get_or row k 0 ≡ rel (suc k))
    → Pressed (in_row row) W past at n → Pressed rel W past at n
press-release {past} {at} {W} {n} row rel h f p = record { steps = p.steps; level = level; inside = p.inside; all = p.all; ends = ends }
  where
    ends : (j : ℕ) → j < n → get_or past j 0 ≤ W → rel (get_or past j 0) ≡ get_or at j 0 → ⊥
    ends j b l e =
        let low = p.steps.rises j b in
        let z : suc (get_or past j 0 - 1) ≡ get_or past j 0 = omega arith in
        p.ends j b l (f (get_or past j 0 - 1) (omega arith) ∙ ap rel z ∙ e)

    level : (j : ℕ) → j < n → (c : ℕ) → edge past j ≤ c → c < get_or past j 0 → rel c ≡ get_or at j 0
    level j b c l u =
        let low = edge-from p.steps j b in
        let z : suc (c - 1) ≡ c = omega arith in
        sym (f (c - 1) (omega (arith, p.inside j b)) ∙ ap rel z) ∙ p.level j b c l u
