-- A row of the picture, one mark more each turn, and the marks. Assumes nothing.
use Prim.Native.Nat.{ℕ, ◌+◌}
use mathlib.Core.Path.{◌≡◌, refl, sym, ap, ◌∙◌}
use mathlib.Core.Bool.{Bool, true, false, cond}
use mathlib.Core.List.{List, [], ◌∷◌, map, map-append}
use native.Mathlib.Omega.{arith}
use borrow.Author.Tests.{ltb-true, ltb-false, lt-ltb, le-ltb}
use lib.Dec.{ltb}
use lib.ListN.{length, set, length-map}
use lib.Seq.{sets}
use Rattle.std.proofs.Common.{Option, None, Some}
use Rattle.std.proofs.lemmas.List.Recursion.{is_position_or_len}
use Rattle.std.specs.List.{position, position_or_len}
use Rattle.lists.specs.Lists.{index_of, range}
use Rattle.lists.proofs.Append.{range-more, range_length}
use Rattle.lists.proofs.Stores.{sets-append}
use Rattle.demo.specs.Picture.{mark}

pub draw-none : (f : ℕ → ℕ) (l : List ℕ) (at : ℕ) → l ≡ sets l at (map f (range 1 0))
unfolding range
draw-none f l at = refl

pub draw-one : (f : ℕ → ℕ) (l b : List ℕ) (at i : ℕ) {v : ℕ} → b ≡ sets l at (map f (range 1 i)) → v ≡ f (1 + i) → set b (at + i) v ≡ sets l at (map f (range 1 (i + 1)))
draw-one f l b at i {v} e h =
    let size : i ≡ length (map f (range 1 i)) = sym (length-map (range 1 i) f ∙ range_length 1 i) in
    ap (set b (at + i)) h
    ∙ ap (λ x. set x (at + i) (f (1 + i))) e
    ∙ ap (λ k. set (sets l at (map f (range 1 i))) (at + k) (f (1 + i))) size
    ∙ sets-append l at (map f (range 1 i)) (f (1 + i) ∷ [])
    ∙ ap (sets l at) (sym (ap (map f) (range-more 1 i) ∙ map-append f (range 1 i) ((1 + i) ∷ [])))

-- THE MARK of a task's place, or of none
module _ {A : Type 0} (p : A → Bool) (tasks : List A) (seven : length tasks ≡ 7) where
  place : index_of p tasks ≡ position_or_len p tasks
  unfolding index_of
  place = is_position_or_len (index_of p) p refl (λ x xs. ap (cond (p x) 0) (let e : index_of p xs + 1 ≡ 1 + index_of p xs = omega arith in e)) tasks

  pub mark-held : (i : ℕ) → position p tasks ≡ Some i → 49 + i ≡ mark (index_of p tasks)
  mark-held i e = rw place (by (ltb (position_or_len p tasks) (length tasks)) refl e)
    where
      by : (b : Bool) → ltb (position_or_len p tasks) (length tasks) ≡ b → cond b (Some (position_or_len p tasks)) None ≡ Some i → 49 + i ≡ mark (position_or_len p tasks)
      by true t z =
          let y : position_or_len p tasks ≡ i = cc in
          rw (lt-ltb (position_or_len p tasks) 7 (omega (arith, ltb-true (position_or_len p tasks) (length tasks) t))) (ap (◌+◌ 49) (sym y))
      by false t z = absurd (let y : ◌≡◌ {A = Option ℕ} None (Some i) = z in cc)

  pub mark-free : position p tasks ≡ None → 46 ≡ mark (index_of p tasks)
  mark-free e = rw place (by (ltb (position_or_len p tasks) (length tasks)) refl e)
    where
      by : (b : Bool) → ltb (position_or_len p tasks) (length tasks) ≡ b → cond b (Some (position_or_len p tasks)) None ≡ None → 46 ≡ mark (position_or_len p tasks)
      by true t z = absurd (let y : ◌≡◌ {A = Option ℕ} (Some (position_or_len p tasks)) None = z in cc)
      by false t z = rw (le-ltb (position_or_len p tasks) 7 (omega (arith, ltb-false (position_or_len p tasks) (length tasks) t))) refl
