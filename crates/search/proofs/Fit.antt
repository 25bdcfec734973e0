-- Where w columns are clear during the whole stay, as the eroded words say it, and the first of these places. Assumes nothing.
use Prim.Native.Nat.{ℕ, zero, suc, ◌≤◌, ◌<◌}
use mathlib.Core.Path.{◌≡◌, sym, ap, ◌∙◌, subst}
use mathlib.Core.Bool.{true, not, true≢false}
use mathlib.Core.List.{List}
use native.Mathlib.Omega.{arith}
use lib.Dec.{T}
use lib.ListN.{length}
use Rattle.std.specs.Prelude.{None}
use Rattle.lists.proofs.Bools.{is_true, is_false}
use Rattle.words.specs.Words.{column, Least}
use Rattle.erosion.specs.Erosion.{eroded}
use Rattle.erosion.proofs.Runs.{eroded-set, set-eroded, eroded-fits}
use Rattle.held.specs.Held.{Clear, FirstAt, FirstFree}

-- the set columns are those that begin w clear ones
pub record Fit (stay : List ℕ) (w : ℕ) (fit : List ℕ) : Type 0 where
  pub from_one : (c : ℕ) → T (column fit c) → 1 ≤ c
  pub clear : (c : ℕ) → T (column fit c) → Clear stay w c
  pub begins : (c : ℕ) → 1 ≤ c → Clear stay w c → T (column fit c)

-- THE CLEAR COLUMNS ERODED
pub fit-eroded : {stay fit : List ℕ} {w : ℕ} (clear : List ℕ) → length clear ≡ 4 → 1 ≤ w → ((c : ℕ) → 1 ≤ c → c ≤ 256 → column clear c ≡ not (column stay c))
    → ((c : ℕ) → column fit c ≡ eroded w clear c) → Fit stay w fit
unfolding column
fit-eroded {stay} {fit} {w} clear four wide is e = record {
  from_one = from_one;
  clear = λ c t.
      let fits = eroded-fits w clear c four wide (subst T (e c) t) in
      record { fits = fits; clear = λ x p q. is_false (column stay x) (subst T (is x (omega (arith, from_one c t)) (omega arith)) (eroded-set w clear c (subst T (e c) t) x p q)) };
  begins = λ c l k.
      subst T (sym (e c)) (set-eroded w clear c (λ x p q. subst T (sym (is x (omega arith) (omega (arith, k.fits)) ∙ ap not (k.clear x p q))) tt));
}
  where
    from_one : (c : ℕ) → T (column fit c) → 1 ≤ c
    from_one zero t = absurd (eroded-set w clear 0 (subst T (e 0) t) 0 (omega arith) (omega arith))
    from_one (suc c) t = omega arith

module _ {stay fit : List ℕ} {w r : ℕ} (i : 1 ≤ w) (f : Fit stay w fit) (l : Least (column fit) 1 257 r) where
  -- THE FIRST of them
  pub fit-first : r < 257 → FirstAt stay 0 w r
  fit-first h = record {
    after = l.low;
    clear = f.clear r (subst T (sym (l.here h)) tt);
    least = λ c p q k. true≢false (sym (is_true (column fit c) (f.begins c p k)) ∙ l.before c p q);
  }

  -- there is none
  pub fit_none : 257 ≤ r → (c : ℕ) → column fit c ≡ true → ⊥
  fit_none h c e =
      let t = subst T (sym e) tt in
      true≢false (sym e ∙ l.before c (f.from_one c t) (omega (arith, (f.clear c t).fits)))

  pub none_free : 257 ≤ r → FirstFree stay 0 w None
  none_free h = λ c p k. fit_none h c (is_true (column fit c) (f.begins c p k))
