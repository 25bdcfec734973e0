-- Numbers of a text, read byte by byte. Assumes nothing.
use Prim.Native.Nat.{ℕ, ◌+◌, ◌≤◌, ◌<◌}
use mathlib.Core.Path.{◌≡◌, refl, sym, ap, ◌∙◌}
use mathlib.Core.Bool.{Bool, true, false, cond, ◌&&◌}
use mathlib.Core.List.{List}
use native.Mathlib.Omega.{arith}
use native.Mathlib.Numerals.{add-one}
use lib.Dec.{ltb}
use Rattle.std.proofs.Common.{Some, None}
use lib.ListN.{length, get_or, set, drop, drop_of_length-le}
use lib.Seq.{drop-cons}
use Rattle.adding.specs.declared.Reading.{Reading}
use Rattle.adding.specs.Machine.{ends_number, value_of, read, figures_on, figures_in}

-- both of two tests
pub both_l : (a b : Bool) → (a && b) ≡ true → a ≡ true
both_l true b e = refl
both_l false b e = e

pub both_r : (a b : Bool) → (a && b) ≡ true → b ≡ true
both_r true b e = e
both_r false b e = absurd (let z : ◌≡◌ {A = ℕ} 0 1 = cc in omega arith)

-- a number that ends, or none
pub ended-some : (t : Bool) {x v : ℕ} → cond t (Some x) None ≡ Some v → (t ≡ true) × (x ≡ v)
ended-some true e = (refl, cc)
ended-some false e = absurd cc

pub ended-none : (t : Bool) (x : ℕ) → cond t (Some x) None ≡ None → t ≡ false
ended-none true x e = absurd cc
ended-none false x e = refl

-- THE FIGURES SO FAR, and what the bytes that are left add to them
module _ (text : List ℕ) where
  pub record Read (figures : List ℕ) (n : ℕ) (r : Reading) (i : ℕ) : Type 0 where
    pub within : i ≤ length text
    pub same : figures_on figures n r (drop i text) ≡ figures_in text

  step : (figures : List ℕ) (n : ℕ) (r : Reading) (i : ℕ) → i < length text
      → figures_on figures n r (drop i text) ≡ cond (ends_number r (get_or text i 0) && ltb n 83)
      (figures_on (set figures n (value_of r)) (n + 1) (read r (get_or text i 0)) (drop (i + 1) text)) (figures_on figures n (read r (get_or text i 0)) (drop (i + 1) text))
  unfolding figures_on
  step figures n r i h = ap (figures_on figures n r) (drop-cons text i 0 h) ∙ rw (add-one i) refl

  -- a number has ended, or none has
  pub read-stored : {figures : List ℕ} {n : ℕ} {r q : Reading} {i : ℕ} → i < length text → Read figures n r i
      → (ends_number r (get_or text i 0) && ltb n 83) ≡ true → q ≡ read r (get_or text i 0) → Read (set figures n (value_of r)) (n + 1) q (i + 1)
  read-stored {figures} {n} {r} {q} {i} h s e f = record {
    within = omega arith;
    same =
        ap (λ p. figures_on (set figures n (value_of r)) (n + 1) p (drop (i + 1) text)) f
        ∙ sym (step figures n r i h ∙ ap (λ t. cond t (figures_on (set figures n (value_of r)) (n + 1) (read r (get_or text i 0)) (drop (i + 1) text))
        (figures_on figures n (read r (get_or text i 0)) (drop (i + 1) text))) e) ∙ s.same;
  }

  pub read-passed : {figures : List ℕ} {n : ℕ} {r q : Reading} {i : ℕ} → i < length text → Read figures n r i
      → (ends_number r (get_or text i 0) && ltb n 83) ≡ false → q ≡ read r (get_or text i 0) → Read figures n q (i + 1)
  read-passed {figures} {n} {r} {q} {i} h s e f = record {
    within = omega arith;
    same =
        ap (λ p. figures_on figures n p (drop (i + 1) text)) f
        ∙ sym (step figures n r i h ∙ ap (λ t. cond t (figures_on (set figures n (value_of r)) (n + 1) (read r (get_or text i 0)) (drop (i + 1) text))
        (figures_on figures n (read r (get_or text i 0)) (drop (i + 1) text))) e) ∙ s.same;
  }

  pub read_all : {figures : List ℕ} {n : ℕ} {r : Reading} {i : ℕ} → length text ≤ i → Read figures n r i → figures ≡ figures_in text
  unfolding figures_on
  read_all {figures} {n} {r} {i} h s = sym (ap (figures_on figures n r) (drop_of_length-le text h)) ∙ s.same
