-- Columns are held in steps of the grid: where w free ones begin next, and where they end. Assumes nothing.
use Rattle.std.proofs.Common.{◌≡◌, ℕ, suc, ◌+◌, ◌-◌, ◌<◌, ◌≤◌, Bool, true, false, not, ◌||◌, T, ltb, ◌⊎◌, List, sym, refl, ◌∙◌, subst, inl, inr, true≢false, arith, ltb→lt, lt→ltb, T_not}
use native.Mathlib.Decide.{dec_lt, ℕ_discrete as dec_eq}
use lib.Dec.{not_T}
use Rattle.lists.specs.Lists.{◌∈◌, some?}
use Rattle.lists.proofs.Bools.{and_l, and_r, and_i, or_l, or_r, or_cases, is_true}
use Rattle.lists.proofs.Members.{some-pass, pass-some}
use Rattle.tasks.specs.declared.Task.{Task}
use Rattle.tasks.specs.Numbers.{multiple, may_begin}
use Rattle.tasks.specs.Tasks.{from, finish, past, overlap, covers}
use Rattle.tasks.proofs.Grid.{begins-after}
use Rattle.tasks.proofs.Laws.{covers-in, covers_out}
use Rattle.planners.specs.Lent.{Stepped}
use Rattle.planners.proofs.Grid.{ends-on-grid}
use Rattle.words.specs.Words.{column, Least}
use Rattle.held.specs.Held.{in_stay, Held, Clear, FirstAt}

module _ {g : ℕ} (W t e : ℕ) {w : ℕ} {ts : List Task} (s : Stepped g W w ts) (words : List ℕ) (h : Held W t e ts words) where
  -- a clear column is past no edge of the device, and no task of the stay covers it
  clear-on : (c : ℕ) → 1 ≤ c → c ≤ 256 → column words c ≡ false → c ≤ W
  clear-on c p q z = go (dec_lt W c)
    where
      go : Dec (W < c) → c ≤ W
      go (yes k) = absurd (true≢false (sym (h c p q ∙ is_true (some? (in_stay t e c) ts || ltb W c) (or_r (some? (in_stay t e c) ts) (ltb W c) (lt→ltb W c k))) ∙ z))
      go (no k) = omega arith

  clear_of : (c : ℕ) → 1 ≤ c → c ≤ 256 → column words c ≡ false → (u : Task) → u ∈ ts → T (overlap t (t + e) (from u) (finish u)) → T (not (covers c u))
  unfolding in_stay
  clear_of c p q z u m b =
      not_T (covers c u) (λ k.
      let met = pass-some (in_stay t e c) ts m (and_i (overlap t (t + e) (from u) (finish u)) (covers c u) b k) in
      true≢false (sym (h c p q ∙ is_true (some? (in_stay t e c) ts || ltb W c) (or_l (some? (in_stay t e c) ts) (ltb W c) met)) ∙ z))

  -- A CLEAR COLUMN NEXT TO A SET ONE may begin a task
  set-clear : (c : ℕ) → 1 ≤ c → c + 1 ≤ 256 → column words c ≡ true → column words (suc c) ≡ false → T (multiple g c)
  unfolding in_stay
  set-clear c p q y z = go (or_cases (some? (in_stay t e c) ts) (ltb W c) (subst T (h c p (omega arith)) (subst T (sym y) tt)))
    where
      go : T (some? (in_stay t e c) ts) ⊎ T (ltb W c) → T (multiple g c)
      go (inl b) =
          let u = some-pass (in_stay t e c) ts b in
          let v = u.it in
          let o = overlap t (t + e) (from v) (finish v) in
          let k = covers_out c v (and_r o (covers c v) u.passes) in
          ends-on-grid s u.among c k.0 k.1 (clear_of (suc c) (omega arith) (omega arith) z v u.among (and_l o (covers c v) u.passes))
      go (inr b) = absurd (omega (arith, ltb→lt W c b, clear-on (suc c) (omega arith) (omega arith) z))

  -- A SET COLUMN NEXT TO A CLEAR ONE begins a task, or lies past the device
  clear-set : (c : ℕ) → 1 ≤ c → c + 1 ≤ 256 → column words c ≡ false → column words (suc c) ≡ true → T (multiple g c)
  unfolding in_stay may_begin
  clear-set c p q y z = go (or_cases (some? (in_stay t e (suc c)) ts) (ltb W (suc c)) (subst T (h (suc c) (omega arith) (omega arith)) (subst T (sym z) tt)))
    where
      go : T (some? (in_stay t e (suc c)) ts) ⊎ T (ltb W (suc c)) → T (multiple g c)
      go (inl b) =
          let u = some-pass (in_stay t e (suc c)) ts b in
          let v = u.it in
          let o = overlap t (t + e) (from v) (finish v) in
          let k = covers_out (suc c) v (and_r o (covers (suc c) v) u.passes) in
          let n = clear_of c p (omega arith) y v u.among (and_l o (covers (suc c) v) u.passes) in
          subst (λ x. T (multiple g x)) (begins v k.0 k.1 n (dec_lt v.column (suc c))) (s.begins v u.among)
        where
          begins : (v : Task) → v.column ≤ suc c → suc c < past v → T (not (covers c v)) → Dec (v.column < suc c) → v.column - 1 ≡ c
          begins v a b n (yes k) = absurd (T_not (covers c v) n (covers-in c v (omega arith) (omega arith)))
          begins v a b n (no k) = omega arith
      go (inr b) = subst (λ x. T (multiple g x)) (let z : W ≡ c = omega (arith, ltb→lt W (suc c) b, clear-on c p (omega arith) y) in z) s.device

  -- THE NEXT PLACE after a multiple of the grid lies on it
  pub first-on-grid : 1 ≤ w → {y c : ℕ} → T (multiple g y) → FirstAt words y w c → T (may_begin g c)
  first-on-grid i {y} {c} j f = subst (λ x. T (may_begin g x)) last (begins-after g (c - 1) (go (dec_eq (c - 1) y) (column words (c - 1)) refl))
    where
      k : Clear words w c
      k = f.clear

      last : suc (c - 1) ≡ c
      last = omega (arith, f.after)

      go : Dec (c - 1 ≡ y) → (b : Bool) → column words (c - 1) ≡ b → T (multiple g (c - 1))
      go (yes z) b v = subst (λ x. T (multiple g x)) (sym z) j
      go (no z) true v =
          set-clear (c - 1) (omega (arith, f.after)) (omega (arith, k.fits)) v
          (subst (λ x. column words x ≡ false) (sym last) (k.clear c (omega arith) (omega arith)))
      go (no z) false v =
          absurd (f.least (c - 1) (omega (arith, f.after)) (omega (arith, f.after))
          (record { fits = omega (arith, k.fits); clear = λ x p q. each x p q (dec_eq x (c - 1)) }))
        where
          each : (x : ℕ) → c - 1 ≤ x → x < c - 1 + w → Dec (x ≡ c - 1) → column words x ≡ false
          each x p q (yes r) = subst (λ x. column words x ≡ false) (sym r) v
          each x p q (no r) = k.clear x (omega arith) (omega arith)

  -- and the clear columns from it on end on it
  pub end-on-grid : W ≤ 256 → {c end : ℕ} → 1 ≤ c → c < end → Least (column words) c 257 end → T (multiple g (end - 1))
  end-on-grid small {c} {end} p q x = go (dec_lt end 257)
    where
      before : column words (end - 1) ≡ false
      before = x.before (end - 1) (omega arith) (omega arith)

      go : Dec (end < 257) → T (multiple g (end - 1))
      go (yes k) = clear-set (end - 1) (omega arith) (omega arith) before (subst (λ x. column words x ≡ true) (let z : end ≡ suc (end - 1) = omega arith in z) (x.here k))
      go (no k) = subst (λ x. T (multiple g x)) (let z : W ≡ end - 1 = omega (arith, clear-on (end - 1) (omega arith) (omega (arith, x.high)) before, x.high) in z) s.device
