-- A laxity's class is how many classes it is past; 0 is in the last. Assumes nothing.
use Prim.Native.Nat.{ℕ, ◌+◌, ◌≤◌, ◌<◌}
use mathlib.Core.Path.{◌≡◌, sym, ap, ◌∙◌}
use mathlib.Core.Bool.{true, cond}
use native.Mathlib.Decide.{dec_le}
use native.Mathlib.Omega.{arith}
use borrow.Author.Tests.{le-leb, lt-leb}
use lib.Dec.{leb}
use Rattle.laxity.specs.Laxity.{class_of}

pub zero-other : (l : ℕ) → l ≡ 0 → 3 ≡ class_of l
zero-other l e = sym (ap class_of e)

pub past-classes : (l : ℕ) → (l ≡ 0 → ⊥) → {a b c : ℕ} → a ≡ cond (leb 51 l) 1 0 → b ≡ cond (leb 101 l) 1 0 → c ≡ cond (leb 201 l) 1 0 → a + b + c ≡ class_of l
past-classes l n {a} {b} {c} p q r = go (dec_le l 50) (dec_le l 100) (dec_le l 200)
  where
    some : leb 1 l ≡ true
    some = le-leb 1 l (omega (arith, n))

    past : {x : ℕ} (m : ℕ) → x ≡ cond (leb m l) 1 0 → m ≤ l → x ≡ 1
    past m e h = e ∙ ap (λ t. cond t 1 0) (le-leb m l h)

    short : {x : ℕ} (m : ℕ) → x ≡ cond (leb m l) 1 0 → l < m → x ≡ 0
    short m e h = e ∙ ap (λ t. cond t 1 0) (lt-leb m l h)

    go : Dec (l ≤ 50) → Dec (l ≤ 100) → Dec (l ≤ 200) → a + b + c ≡ class_of l
    go (yes x) y z = rw (some, le-leb l 50 x) (omega (arith, short 51 p (omega (arith, x)), short 101 q (omega (arith, x)), short 201 r (omega (arith, x))))
    go (no x) (yes y) z =
        rw (some, lt-leb l 50 (omega (arith, x)), le-leb 51 l (omega (arith, x)), le-leb l 100 y)
        (omega (arith, past 51 p (omega (arith, x)), short 101 q (omega (arith, y)), short 201 r (omega (arith, y))))
    go (no x) (no y) (yes z) =
        rw (some, lt-leb l 50 (omega (arith, x)), le-leb 51 l (omega (arith, x)), lt-leb l 100 (omega (arith, y)), le-leb 101 l (omega (arith, y)), le-leb l 200 z)
        (omega (arith, past 51 p (omega (arith, x)), past 101 q (omega (arith, y)), short 201 r (omega (arith, z))))
    go (no x) (no y) (no z) =
        rw (some, lt-leb l 50 (omega (arith, x)), le-leb 51 l (omega (arith, x)), lt-leb l 100 (omega (arith, y)), le-leb 101 l (omega (arith, y)), lt-leb l 200 (omega (arith, z)))
        (omega (arith, past 51 p (omega (arith, x)), past 101 q (omega (arith, y)), past 201 r (omega (arith, z))))
