-- A run of openings written one after the other. Assumes nothing.
use Prim.Native.Nat.{ℕ, suc, ◌+◌, ◌*◌, ◌≤◌, ◌<◌}
use mathlib.Core.Path.{◌≡◌, refl, sym, ap, ◌∙◌}
use mathlib.Core.List.{List, [], ◌∷◌, ◌++◌}
use native.Mathlib.Nat.{suc-mul, mul-le-mul_right, le_of_mul-le-mul_right, lt_of_mul-lt-mul_right}
use native.Mathlib.Omega.{arith}
use lib.ListN.{length, set, length-map}
use lib.Seq.{sets}
use Rattle.lists.specs.Lists.{range}
use Rattle.lists.proofs.Append.{range_length}
use Rattle.lists.proofs.Stores.{sets-append}
use Rattle.ways.specs.Ways.{pair}
use Rattle.planners.specs.Openings.{Place, pair_numbers}
use Rattle.planners.specs.Lent.{run_at}
use Rattle.planners.proofs.Grid.{run_more}

pub words_append : (ps qs : List Place) → pair_numbers (ps ++ qs) ≡ pair_numbers ps ++ pair_numbers qs
unfolding pair_numbers
words_append [] qs = refl
words_append (p ∷ ps) qs = ap (λ l. p.start ∷ p.place ∷ l) (words_append ps qs)

pub words-length : (ps : List Place) → length (pair_numbers ps) ≡ 2 * length ps
unfolding pair_numbers
words-length [] = refl
words-length (p ∷ ps) = let h = words-length ps in omega arith

pub run_length : (t step from n : ℕ) → length (run_at t step from n) ≡ n
run_length t step from n = length-map (range 0 n) (λ k. pair t (from + k * step)) ∙ range_length 0 n

-- none of a run yet
pub put-none : (l : List ℕ) (at t step from : ℕ) → l ≡ sets l at (pair_numbers (run_at t step from 0))
unfolding pair_numbers range
put-none l at t step from = refl

-- ONE OPENING MORE of a run
pub put_one : (l buffer : List ℕ) (at t step from n : ℕ) → buffer ≡ sets l at (pair_numbers (run_at t step from n))
    → set (set buffer (at + 2 * n) t) (at + 2 * n + 1) (from + n * step) ≡ sets l at (pair_numbers (run_at t step from (n + 1)))
unfolding pair_numbers
put_one l buffer at t step from n e =
    let ps = run_at t step from n in
    let c : ℕ = from + n * step in
    let size : at + length (pair_numbers ps) ≡ at + 2 * n = omega (arith, words-length ps, run_length t step from n) in
    let next : at + 2 * n + 1 ≡ suc (at + 2 * n) = omega arith in
    ap (λ b. set (set b (at + 2 * n) t) (at + 2 * n + 1) c) e
    ∙ ap (λ k. set (set (sets l at (pair_numbers ps)) (at + 2 * n) t) k c) next
    ∙ ap (λ k. sets (sets l at (pair_numbers ps)) k (t ∷ c ∷ [])) (sym size)
    ∙ sets-append l at (pair_numbers ps) (t ∷ c ∷ [])
    ∙ ap (sets l at) (sym (words_append ps (pair t c ∷ [])))
    ∙ ap (λ qs. sets l at (pair_numbers qs)) (sym (run_more t step from n))

-- two numbers of steps that reach as far are one
pub same-steps : (step from a b : ℕ) → 1 ≤ step → from + a * step ≡ from + b * step → a ≡ b
same-steps step from a b h e =
    let x = le_of_mul-le-mul_right {m = a} {n = b} {k = step} (omega arith) (omega arith) in
    let y = le_of_mul-le-mul_right {m = b} {n = a} {k = step} (omega arith) (omega arith) in
    omega arith

-- before the end of a run of k there is room for a step
pub fewer-steps : (step from a k : ℕ) → from + a * step < from + k * step → a < k
fewer-steps step from a k h = lt_of_mul-lt-mul_right step (let z : a * step < k * step = omega arith in z)

pub step_fits : (step from a k : ℕ) → a < k → from + a * step + step ≤ from + k * step
step_fits step from a k h = let x = mul-le-mul_right step (let z : suc a ≤ k = omega arith in z) in omega (arith, suc-mul a step)
