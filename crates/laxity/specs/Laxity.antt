-- LAXITY, its limit, and its classes. Assumes nothing.
use Rattle.std.specs.Prelude.{ℕ, ◌-◌, cond, ◌&&◌, leb}

-- document 02, Q-1: "Laxity is d − e − arrival"; 0 where there is less
abbrev pub laxity : ℕ → ℕ → ℕ → ℕ
laxity arrival e d = d - e - arrival

-- Q-2: "Refuse a laxity over 10,000,000"
abbrev pub most_laxity : ℕ
most_laxity = 10000000

-- "classes are A 1 to 50, B 51 to 100, C 101 to 200, and Other, which takes laxity 0 too": 0 to 3
abbrev pub class_of : ℕ → ℕ
class_of l = cond (leb 1 l && leb l 50) 0 (cond (leb 51 l && leb l 100) 1 (cond (leb 101 l && leb l 200) 2 3))
