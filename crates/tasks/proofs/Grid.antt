-- The grid: multiples and their sums, the step between two of them; with g = 1 every number is one, with g = 0 only 0. Assumes nothing.
use Prim.Native.Nat.{ℕ, suc, ◌+◌, ◌-◌, ◌*◌, ◌/◌, ◌%◌, ◌≤◌, ◌<◌, ◌∣◌}
use mathlib.Core.Path.{◌≡◌, sym, ap, subst}
use mathlib.Core.Bool.{true}
use native.Mathlib.Omega.{arith}
use native.Mathlib.Nat.{zero-mod, mod-zero, mod-one, mod-lt, mod-le, mod-eq-sub-div-mul, div-mul-le_self, div-mul_cancel}
use native.Mathlib.Nat.{dvd_refl, dvd-mul_left, dvd-add, dvd-sub, le_of_dvd, mod-eq-zero_of_dvd, dvd_of_mod-eq-zero}
use lib.Dec.{T, eqb, eqb→eq}
use borrow.Author.Tests.{eq-eqb}
use Rattle.tasks.specs.Numbers.{multiple, may_begin}

multiple-divides : (g n : ℕ) → T (multiple g n) → g ∣ n
unfolding multiple
multiple-divides g n t = dvd_of_mod-eq-zero _ (eqb→eq (n % g) 0 t)

divides-multiple : (g n : ℕ) → g ∣ n → T (multiple g n)
unfolding multiple
divides-multiple g n h = subst T (sym (eq-eqb (n % g) 0 (mod-eq-zero_of_dvd _ h))) tt

pub multiple-zero : (g : ℕ) → T (multiple g 0)
unfolding multiple
multiple-zero g = subst T (sym (eq-eqb (0 % g) 0 (zero-mod g))) tt

pub multiple-self : (g : ℕ) → T (multiple g g)
multiple-self g = divides-multiple g g (dvd_refl g)

pub multiple-steps : (g k : ℕ) → T (multiple g (k * g))
multiple-steps g k = divides-multiple g (k * g) (dvd-mul_left g k)

pub multiple-sum : (g a b : ℕ) → T (multiple g a) → T (multiple g b) → T (multiple g (a + b))
multiple-sum g a b x y = divides-multiple g (a + b) (dvd-add _ (multiple-divides g a x) (multiple-divides g b y))

pub multiple-rest : (g a b : ℕ) → T (multiple g a) → T (multiple g b) → T (multiple g (a - b))
multiple-rest g a b x y = divides-multiple g (a - b) (dvd-sub _ (multiple-divides g a x) (multiple-divides g b y))

-- between two multiples there is a step
pub multiple-gap : (g a b : ℕ) → T (multiple g a) → T (multiple g b) → a < b → a + g ≤ b
multiple-gap g a b x y h =
    let k = le_of_dvd (let z : 0 < b - a = omega arith in z) (multiple-divides g (b - a) (multiple-rest g b a y x)) in
    omega arith

-- a multiple is so many steps
pub multiple-times : (g n : ℕ) → T (multiple g n) → n / g * g ≡ n
multiple-times g n t = div-mul_cancel _ (multiple-divides g n t)

-- what a number is over a multiple by taken off, or filled up to the next
pub multiple-under : (g n : ℕ) → T (multiple g (n - n % g))
multiple-under g n = subst (λ x. T (multiple g x)) (let z : n / g * g ≡ n - n % g = omega (arith, mod-eq-sub-div-mul n g, div-mul-le_self n g) in z) (multiple-steps g (n / g))

pub multiple-over : (g n : ℕ) → 1 ≤ g → T (multiple g (n + (g - n % g)))
multiple-over g n h =
    let k = mod-lt n (let z : 0 < g = omega arith in z) in
    subst (λ x. T (multiple g x)) (let z : n - n % g + g ≡ n + (g - n % g) = omega (arith, mod-le n g) in z) (multiple-sum g (n - n % g) g (multiple-under g n) (multiple-self g))

-- a task may begin next to a multiple
pub begins-after : (g c : ℕ) → T (multiple g c) → T (may_begin g (suc c))
unfolding may_begin
begins-after g c t = subst (λ x. T (multiple g x)) (let z : c ≡ suc c - 1 = omega arith in z) t

-- WITH g = 1 every column will do: document 01's device
pub multiple-one : (n : ℕ) → multiple 1 n ≡ true
unfolding multiple
multiple-one n = eq-eqb (n % 1) 0 (mod-one n)

pub begin-one : (c : ℕ) → may_begin 1 c ≡ true
unfolding may_begin
begin-one c = multiple-one (c - 1)

-- the grid of the board of zeros: 0 alone is a multiple of 0
pub multiple-none : (n : ℕ) → multiple 0 n ≡ eqb n 0
unfolding multiple
multiple-none n = ap (λ m. eqb m 0) (mod-zero n)
