-- The first test that holds wins. Its number is the lowest where the numbers of a list rise; those of a submission do not, since 18. Assumes nothing.
use Prim.Native.Nat.{ℕ, ◌≤◌}
use mathlib.Core.Path.{◌≡◌, refl, sym, ◌∙◌, subst}
use mathlib.Core.Logic.{◌⊎◌, inl, inr}
use mathlib.Core.Bool.{Bool, true, false}
use mathlib.Core.List.Memᴰ.{cases_cons as cases}
use mathlib.Core.List.Memᴰ.{not-nil as nowhere}
use mathlib.Core.List.{List, [], ◌∷◌, map}
use native.Mathlib.Omega.{arith}
use lib.Dec.{T, ltb, ltb→lt}
use Rattle.lists.specs.Lists.{◌∈◌, all?, pairwise?}
use Rattle.lists.proofs.Bools.{and_l, and_r}
use Rattle.lists.proofs.Members.{all_pass}
use Rattle.tasks.specs.declared.Device.{Device}
use Rattle.tasks.specs.declared.Submission.{Submission}
use Rattle.laxity.specs.Laxity.{laxity, most_laxity}
use Rattle.refusals.specs.Refusals.{Test, ◌when◌, refusal, unsound, submit_tests, instant_tests, withdraw_tests, openings_tests, horizon_tests}
use Rattle.refusals.proofs.First.{passed_over_lem, none_left, not-by}

-- the numbers of a list rise
abbrev pub Rising : List Test → Type 0
Rising ts = T (pairwise? (λ s t. ltb s.number t.number) ts)

-- THE LOWEST NUMBER WINS where the numbers rise
pub lowest : (ts : List Test) → Rising ts → (t : Test) → t ∈ ts → T t.holds → refusal ts ≤ t.number
unfolding refusal pairwise?
lowest [] r t m h = absurd (nowhere m)
lowest (s ∷ ts) r t m h = by s.holds refl (cases m) (λ i. lowest ts (and_r (all? above ts) (pairwise? under ts) r) t i h)
  where
    under : Test → Test → Bool
    under x y = ltb x.number y.number

    above : Test → Bool
    above u = under s u

    by : (b : Bool) → s.holds ≡ b → (t ≡ s) ⊎ (t ∈ ts) → (t ∈ ts → refusal ts ≤ t.number)
        → elim b [ true ↦ s.number | false ↦ refusal ts ] ≤ t.number
    by true e (inl z) k = subst (λ x. s.number ≤ x.number) (sym z) (omega arith)
    by true e (inr i) k =
        let l = ltb→lt s.number t.number (all_pass above ts (and_l (all? above ts) (pairwise? under ts) r) i) in
        omega arith
    by false e (inl z) k = absurd (subst T e (subst (λ x. T x.holds) z h))
    by false e (inr i) k = k i

-- document 02, Q-2: "18 .. tested after 8 and before 9; this is the first number out of rising order"
module _ (sound : Bool) where
  pub submit-order : (D : Device) (now n : ℕ) (a : Submission) (known full : Bool)
      → map (λ t. t.number) (unsound sound ∷ submit_tests D now n a known full) ≡ 1 ∷ 3 ∷ 4 ∷ 5 ∷ 6 ∷ 7 ∷ 8 ∷ 18 ∷ 9 ∷ []
  submit-order D now n a known full = refl

  -- and 18 is given only where the laxity is too large
  pub refused-lax : (D : Device) (now n : ℕ) (a : Submission) (known full : Bool) → refusal (unsound sound ∷ submit_tests D now n a known full) ≡ 18
      → T (ltb most_laxity (laxity now a.e a.d))
  refused-lax D now n a known full e =
      let b1 = not-by 1 18 _ _ (omega arith) e in
      let b3 = not-by 3 18 _ _ (omega arith) b1 in
      let b4 = not-by 4 18 _ _ (omega arith) b3 in
      let b5 = not-by 5 18 _ _ (omega arith) b4 in
      let b6 = not-by 6 18 _ _ (omega arith) b5 in
      let b7 = not-by 7 18 _ _ (omega arith) b6 in
      last (ltb most_laxity (laxity now a.e a.d)) (not-by 8 18 _ _ (omega arith) b7)
    where
      last : (t : Bool) → refusal ((18 when t) ∷ (9 when full) ∷ []) ≡ 18 → T t
      last true e = tt
      last false e = let z = not-by 9 18 full [] (omega arith) (sym (passed_over_lem 18 false _ refl) ∙ e) in absurd (omega (arith, z, none_left))

  -- every other list rises
  pub instant-rises : (now i : ℕ) → Rising (unsound sound ∷ instant_tests now i)
  unfolding pairwise? all?
  instant-rises now i = tt

  pub withdraw-rises : (known begun : Bool) → Rising (unsound sound ∷ withdraw_tests known begun)
  unfolding pairwise? all?
  withdraw-rises known begun = tt

  pub openings-rises : (D : Device) (now : ℕ) (a : Submission) → Rising (unsound sound ∷ openings_tests D now a)
  unfolding pairwise? all?
  openings-rises D now a = tt

  pub horizon-rises : (runs words : ℕ) → Rising (unsound sound ∷ horizon_tests runs words)
  unfolding pairwise? all?
  horizon-rises runs words = tt
