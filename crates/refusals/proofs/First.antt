-- The refusal is the number of the first test that holds. Assumes nothing.
use Prim.Native.Nat.{ℕ, ◌<◌}
use native.Mathlib.Omega.{arith}
use Rattle.refusals.specs.declared.Refusal.{Refusal}
use Rattle.refusals.specs.declared.Refusal.TheVariants.{Unsound, BadDevice, NoSuchPlanner, IdIsZero, BadSize, BadTime, IdIsLive, TooLate, NoSlot, InstantBeforeNow, InstantTooLate, IdNotLive, HasBegun, ShortBuffer, TooLax}
use mathlib.Core.Path.{◌≡◌, refl, ap}
use mathlib.Core.Bool.{Bool, true, false, not}
use mathlib.Core.List.{List, [], ◌∷◌}
use lib.Dec.{T}
use Rattle.refusals.specs.Refusals.{Test, ◌when◌, refusal, unsound, number_of}

-- a test that holds gives its number, another is passed over
pub refused-by : (n : ℕ) (t : Bool) (ts : List Test) → t ≡ true → refusal ((n when t) ∷ ts) ≡ n
unfolding refusal
refused-by n t ts e = rw e

pub passed_over_lem : (n : ℕ) (t : Bool) (ts : List Test) → t ≡ false → refusal ((n when t) ∷ ts) ≡ refusal ts
unfolding refusal
passed_over_lem n t ts e = rw e

pub none_left : refusal [] ≡ 0
unfolding refusal
none_left = refl

-- NO REFUSAL: every test fails
pub none-holds : (n : ℕ) (t : Bool) (ts : List Test) → (n ≡ 0 → ⊥) → refusal ((n when t) ∷ ts) ≡ 0 → T (not t) × (refusal ts ≡ 0)
unfolding refusal
none-holds n true ts f e = absurd (f e)
none-holds n false ts f e = (tt, e)

-- a refusal of another number is that of the tests behind
pub not-by : (n k : ℕ) (t : Bool) (ts : List Test) → (n ≡ k → ⊥) → refusal ((n when t) ∷ ts) ≡ k → refusal ts ≡ k
unfolding refusal
not-by n k true ts f e = absurd (f e)
not-by n k false ts f e = e

-- no refusal is told as done
pub is_told : (r : Refusal) → 0 < number_of r
is_told Unsound = omega arith
is_told BadDevice = omega arith
is_told NoSuchPlanner = omega arith
is_told IdIsZero = omega arith
is_told BadSize = omega arith
is_told BadTime = omega arith
is_told IdIsLive = omega arith
is_told TooLate = omega arith
is_told NoSlot = omega arith
is_told InstantBeforeNow = omega arith
is_told InstantTooLate = omega arith
is_told IdNotLive = omega arith
is_told HasBegun = omega arith
is_told ShortBuffer = omega arith
is_told TooLax = omega arith

-- a sound board passes test 1, another is refused by it
pub sound-passes : (s : Bool) (ts : List Test) → s ≡ true → refusal (unsound s ∷ ts) ≡ refusal ts
sound-passes s ts e = passed_over_lem 1 (not s) ts (ap not e)

pub unsound-refused : (s : Bool) (ts : List Test) → s ≡ false → refusal (unsound s ∷ ts) ≡ 1
unsound-refused s ts e = refused-by 1 (not s) ts (ap not e)
