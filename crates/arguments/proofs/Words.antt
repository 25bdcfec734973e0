-- An argument's bytes stored one behind the other. Assumes nothing.
use Prim.Native.Nat.{ℕ, ◌+◌, ◌<◌}
use mathlib.Core.Path.{◌≡◌, refl, sym, ap, ◌∙◌}
use mathlib.Core.Bool.{true, false}
use mathlib.Core.List.{List, [], ◌∷◌, map}
use native.Mathlib.Omega.{arith}
use borrow.Author.Tests.{lt-ltb, eqb-true}
use lib.Dec.{eqb}
use lib.ListN.{length, take, set, get_or, length-map, get_or-map}
use lib.Seq.{sets, take_all}
use Rattle.text.specs.Digits.{Put}
use Rattle.text.proofs.Spelling.{put_both, bytes-more}
use Rattle.arguments.specs.Arguments.{guarded, argument_text, joined_text}

-- an empty argument
pub argument-none : (l bytes : List ℕ) (at : ℕ) → eqb (length bytes) 0 ≡ true → Put l at (argument_text bytes) (set l at 63) (at + 1)
unfolding argument_text
argument-none l [] at h = record { stored = refl; place = refl }
argument-none l (b ∷ bs) at h = absurd (omega (arith, eqb-true (length (b ∷ bs)) 0 h))

-- one byte more
pub guarded-more : (l bytes : List ℕ) (at i : ℕ) → i < length bytes
    → set (sets l at (take i (map guarded bytes))) (at + i) (guarded (get_or bytes i 0)) ≡ sets l at (take (i + 1) (map guarded bytes))
guarded-more l bytes at i h =
    ap (set (sets l at (take i (map guarded bytes))) (at + i)) (sym (get_or-map guarded bytes i 0)) ∙ bytes-more l (map guarded bytes) at i (omega (arith, length-map bytes guarded))

-- all of them
guarded-all : (bytes : List ℕ) → eqb (length bytes) 0 ≡ false → map guarded bytes ≡ argument_text bytes
unfolding argument_text
guarded-all [] h = absurd (let z : ◌≡◌ {A = ℕ} 0 1 = cc in omega arith)
guarded-all (b ∷ bs) h = refl

pub argument-some : {m : List ℕ} (l bytes : List ℕ) (at : ℕ) → eqb (length bytes) 0 ≡ false → m ≡ sets l at (take (length bytes) (map guarded bytes))
    → Put l at (argument_text bytes) m (at + length bytes)
argument-some {m} l bytes at h f =
    let size : length (map guarded bytes) ≡ length bytes = length-map bytes guarded in
    let all : take (length bytes) (map guarded bytes) ≡ argument_text bytes = take_all (length bytes) (map guarded bytes) (omega arith) ∙ guarded-all bytes h in
    record { stored = f ∙ ap (sets l at) all; place = ap (λ k. at + k) (sym size ∙ ap length (guarded-all bytes h)) }

-- THE FIRST ARGUMENT, and one behind others
pub joined-first : {l m : List ℕ} {at p : ℕ} (bytes : List ℕ) → at ≡ 0 → Put l at (argument_text bytes) m p → Put l at (joined_text at bytes) m p
unfolding joined_text
joined-first {l} {m} {at} {p} bytes e a = rw e (rw e at a)

pub joined-next : {l m n : List ℕ} {at p q : ℕ} (bytes : List ℕ) → 0 < at → Put l at (32 ∷ []) m p → Put m p (argument_text bytes) n q → Put l at (joined_text at bytes) n q
unfolding joined_text
joined-next {l} {m} {n} {at} {p} {q} bytes h a b = rw (lt-ltb 0 at h) (put_both a b)
