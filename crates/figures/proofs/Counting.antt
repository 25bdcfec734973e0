-- One submission more: three counters of its planner and class, or the one without class. Assumes nothing.
use Prim.Native.Nat.{ℕ, zero, suc, ◌+◌, ◌-◌, ◌*◌, ◌/◌, ◌%◌, ◌≤◌, ◌<◌}
use mathlib.Core.Path.{◌≡◌, refl, sym, ap, ap₂, ◌∙◌, subst}
use mathlib.Core.Bool.{Bool, true, false, cond, ◌&&◌}
use mathlib.Core.List.{List, [], ◌∷◌, ◌++◌}
use mathlib.Core.Logic.{◌⊎◌, inl, inr}
use native.Mathlib.Decide.{dec_lt, ℕ_discrete as dec_eq}
use native.Mathlib.Omega.{arith}
use borrow.Author.Tests.{lt-ltb, le-ltb, eq-eqb, ne_eqb}
use lib.Dec.{ltb, eqb}
use lib.ListN.{length, get_or, length-append, length-set, get_or-append}
use lib.Seq.{get_or-append-add, get_or-set_same, get_or-set_other, ext_get_or}
use Rattle.lists.specs.Lists.{keep, each, range}
use Rattle.sheets.specs.Sheets.{plus}
use Rattle.sheets.proofs.Laws.{length-plus, get_or-plus}
use Rattle.figures.specs.declared.Verdict.{Verdict}
use Rattle.figures.specs.Figures.{place_of, is_of, of, came, waited_in, figures_of, sheet_with}
use Rattle.figures.specs.Rows.{bumped}

-- two tests of equal numbers
pub same_test : {a b c d : ℕ} → (a ≡ b → c ≡ d) → (c ≡ d → a ≡ b) → eqb a b ≡ eqb c d
same_test {a} {b} {c} {d} f g = go (dec_eq a b)
  where
    go : Dec (a ≡ b) → eqb a b ≡ eqb c d
    go (yes e) = eq-eqb a b e ∙ sym (eq-eqb c d (f e))
    go (no n) = ne_eqb a b n ∙ sym (ne_eqb c d (λ e. n (g e)))

-- ROWS OF FIVE
pub row-length : (vs : List Verdict) (p c : ℕ) → length (figures_of vs p c) ≡ 5
unfolding figures_of
row-length vs p c = refl

module _ (f : ℕ → List ℕ) (five : (r : ℕ) → length (f r) ≡ 5) where
  pub rows-length : (a n : ℕ) → length (each (range a n) f) ≡ n * 5
  unfolding each range
  rows-length a zero = refl
  rows-length a (suc n) = omega (arith, length-append (f a) (each (range (suc a) n) f), five a, rows-length (suc a) n)

  pub rows_at : (a n i : ℕ) → i < n * 5 → get_or (each (range a n) f) i 0 ≡ get_or (f (a + i / 5)) (i % 5) 0
  unfolding each range
  rows_at a zero i h = absurd (omega arith)
  rows_at a (suc n) i h = go (λ b j q. rows_at b n j q) (dec_lt i 5)
    where
      later : List ℕ
      later = each (range (suc a) n) f

      go : ((b j : ℕ) → j < n * 5 → get_or (each (range b n) f) j 0 ≡ get_or (f (b + j / 5)) (j % 5) 0) → Dec (i < 5)
          → get_or (f a ++ later) i 0 ≡ get_or (f (a + i / 5)) (i % 5) 0
      go next (yes q) =
          let here : a ≡ a + i / 5 = omega arith in
          let k : i ≡ i % 5 = omega arith in
          get_or-append (f a) later 0 i (omega (arith, five a)) ∙ ap₂ (λ r j. get_or (f r) j 0) here k
      go next (no q) =
          let past : i ≡ length (f a) + (i - 5) = omega (arith, five a) in
          let here : suc a + (i - 5) / 5 ≡ a + i / 5 = omega arith in
          let k : (i - 5) % 5 ≡ i % 5 = omega arith in
          ap (λ j. get_or (f a ++ later) j 0) past ∙ get_or-append-add (f a) later (i - 5) 0 ∙ next (suc a) (i - 5) (omega arith)
          ∙ ap₂ (λ r j. get_or (f r) j 0) here k

module _ (vs : List Verdict) (a b : ℕ) where
  abbrev rows_of : List ℕ
  rows_of = each (range 0 16) (λ r. figures_of vs (r / 4) (r % 4))

  rows-size : length rows_of ≡ 80
  rows-size = rows-length (λ r. figures_of vs (r / 4) (r % 4)) (λ r. row-length vs (r / 4) (r % 4)) 0 16

  pub sheet-length : length (sheet_with vs a b) ≡ 83
  unfolding sheet_with
  sheet-length = omega (arith, length-append rows_of (came 3 vs ∷ a ∷ b ∷ []), rows-size)

  pub sheet-row : (i : ℕ) → i < 80 → get_or (sheet_with vs a b) i 0 ≡ get_or (figures_of vs (i / 5 / 4) (i / 5 % 4)) (i % 5) 0
  unfolding sheet_with
  sheet-row i h =
      let here : 0 + i / 5 ≡ i / 5 = omega arith in
      get_or-append rows_of (came 3 vs ∷ a ∷ b ∷ []) 0 i (omega (arith, rows-size))
      ∙ rows_at (λ r. figures_of vs (r / 4) (r % 4)) (λ r. row-length vs (r / 4) (r % 4)) 0 16 i h ∙ ap (λ r. get_or (figures_of vs (r / 4) (r % 4)) (i % 5) 0) here

  pub sheet-foot : (i : ℕ) → get_or (sheet_with vs a b) (80 + i) 0 ≡ get_or (came 3 vs ∷ a ∷ b ∷ []) i 0
  unfolding sheet_with
  sheet-foot i = ap (λ n. get_or (rows_of ++ (came 3 vs ∷ a ∷ b ∷ [])) (n + i) 0) (sym rows-size) ∙ get_or-append-add rows_of (came 3 vs ∷ a ∷ b ∷ []) i 0

-- a counter that grew
pub bumped-at : (cs : List ℕ) (j x i : ℕ) → j < length cs → get_or (bumped cs j x) i 0 ≡ get_or cs i 0 + cond (eqb i j) x 0
bumped-at cs j x i h = go (dec_eq i j)
  where
    go : Dec (i ≡ j) → get_or (bumped cs j x) i 0 ≡ get_or cs i 0 + cond (eqb i j) x 0
    go (yes e) = rw (eq-eqb i j e) (ap (λ k. get_or (bumped cs j x) k 0) e ∙ get_or-set_same cs j (get_or cs j 0 + x) 0 h ∙ ap (λ k. get_or cs k 0 + x) (sym e))
    go (no n) = rw (ne_eqb i j n) (get_or-set_other cs j i (get_or cs j 0 + x) 0 n ∙ (let y : get_or cs i 0 ≡ get_or cs i 0 + 0 = omega arith in y))

-- counter by counter: those of the rows, and the last three
pub grown : (cs more es : List ℕ) → length cs ≡ 83 → length more ≡ 83 → length es ≡ 83 → ((i : ℕ) → i < 80 → get_or es i 0 ≡ get_or cs i 0 + get_or more i 0)
    → ((i : ℕ) → i < 3 → get_or es (80 + i) 0 ≡ get_or cs (80 + i) 0 + get_or more (80 + i) 0) → es ≡ plus cs more
grown cs more es long m n f g =
    ext_get_or 0 es (plus cs more) (omega (arith, length-plus cs more even)) (λ i h. go i (omega arith) (dec_lt i 80) ∙ sym (get_or-plus cs more i even))
  where
    even : length cs ≡ length more
    even = long ∙ sym m

    go : (i : ℕ) → i < 83 → Dec (i < 80) → get_or es i 0 ≡ get_or cs i 0 + get_or more i 0
    go i h (yes q) = f i q
    go i h (no q) = let e : 80 + (i - 80) ≡ i = omega arith in subst (λ j. get_or es j 0 ≡ get_or cs j 0 + get_or more j 0) e (g (i - 80) (omega arith))

zeros : (k : ℕ) → ◌≡◌ {A = ℕ} (get_or (0 ∷ 0 ∷ 0 ∷ 0 ∷ 0 ∷ []) k 0) 0
zeros zero = refl
zeros (suc zero) = refl
zeros (suc (suc zero)) = refl
zeros (suc (suc (suc zero))) = refl
zeros (suc (suc (suc (suc zero)))) = refl
zeros (suc (suc (suc (suc (suc k))))) = refl

-- NO SUBMISSION
no_row : (p c : ℕ) → figures_of [] p c ≡ 0 ∷ 0 ∷ 0 ∷ 0 ∷ 0 ∷ []
unfolding figures_of of keep waited_in came
no_row p c = refl

no-figure : (a b i : ℕ) → i < 80 → get_or (sheet_with [] a b) i 0 ≡ 0
no-figure a b i h = sheet-row [] a b i h ∙ ap (λ l. get_or l (i % 5) 0) (no_row (i / 5 / 4) (i / 5 % 4)) ∙ zeros (i % 5)

none_came : (f : ℕ) → came f [] ≡ 0
unfolding came keep
none_came f = refl

pub event-more : (cs : List ℕ) → length cs ≡ 83 → bumped cs 81 1 ≡ plus cs (sheet_with [] 1 0)
event-more cs long =
    grown cs (sheet_with [] 1 0) (bumped cs 81 1) long (sheet-length [] 1 0) (length-set cs 81 (get_or cs 81 0 + 1) ∙ long)
    (λ i h. bumped-at cs 81 1 i (omega arith) ∙ rw (ne_eqb i 81 (λ x. omega arith)) (omega (arith, no-figure 1 0 i h)))
    (λ i h. bumped-at cs 81 1 (80 + i) (omega arith) ∙ ap (λ n. get_or cs (80 + i) 0 + n)
    (ap (λ t. cond t 1 0) (same_test {a = 80 + i} {b = 81} {c = i} {d = 1} (λ x. omega arith) (λ x. omega arith)) ∙ last i h ∙ sym (sheet-foot [] 1 0 i)))
  where
    last : (i : ℕ) → i < 3 → cond (eqb i 1) 1 0 ≡ get_or (came 3 [] ∷ 1 ∷ 0 ∷ []) i 0
    last zero h = sym (none_came 3)
    last (suc zero) h = refl
    last (suc (suc zero)) h = refl
    last (suc (suc (suc i))) h = absurd (omega arith)

pub blank : (cs : List ℕ) → length cs ≡ 83 → cs ≡ plus cs (sheet_with [] 0 0)
blank cs long =
    grown cs (sheet_with [] 0 0) cs long (sheet-length [] 0 0) long (λ i h. omega (arith, no-figure 0 0 i h)) (λ i h. omega (arith, sheet-foot [] 0 0 i ∙ last i h))
  where
    last : (i : ℕ) → i < 3 → get_or (came 3 [] ∷ 0 ∷ 0 ∷ []) i 0 ≡ 0
    last zero h = none_came 3
    last (suc zero) h = refl
    last (suc (suc zero)) h = refl
    last (suc (suc (suc i))) h = absurd (omega arith)

-- A SUBMISSION ALONE
module _ (v : Verdict) where
  -- in its row, and in another
  one_in : (p c : ℕ) → is_of p c v ≡ true → figures_of (v ∷ []) p c ≡ 1 ∷ came 0 (v ∷ []) ∷ came 1 (v ∷ []) ∷ came 2 (v ∷ []) ∷ (v.waited + 0) ∷ []
  unfolding figures_of of keep waited_in
  one_in p c e = rw e

  one_out : (p c : ℕ) → is_of p c v ≡ false → figures_of (v ∷ []) p c ≡ 0 ∷ 0 ∷ 0 ∷ 0 ∷ 0 ∷ []
  unfolding figures_of of keep waited_in came
  one_out p c e = rw e

  one-came : (f : ℕ) → came f (v ∷ []) ≡ cond (eqb (place_of v.fate) f) 1 0
  unfolding came keep
  one-came f = go (eqb (place_of v.fate) f) refl
    where
      go : (b : Bool) → eqb (place_of v.fate) f ≡ b → length (cond (eqb (place_of v.fate) f) (v ∷ []) []) ≡ cond (eqb (place_of v.fate) f) 1 0
      go true e = rw e
      go false e = rw e

  -- what the k-th counter of its row grows by
  abbrev grows : ℕ → ℕ
  grows k = cond (eqb k 0) 1 0 + cond (eqb k (1 + (place_of v.fate))) 1 0 + cond (eqb k 4) v.waited 0

  one-row : (place_of v.fate) < 3 → (p c : ℕ) → is_of p c v ≡ true → (k : ℕ) → k < 5 → get_or (figures_of (v ∷ []) p c) k 0 ≡ grows k
  one-row h p c e k q = ap (λ l. get_or l k 0) (one_in p c e) ∙ go k q
    where
      line : (f k : ℕ) → k ≡ 1 + f → 0 < k → k < 4 → came f (v ∷ []) ≡ grows k
      line f k n a b =
          one-came f
          ∙ ap (λ t. cond t 1 0) (same_test {a = (place_of v.fate)} {b = f} {c = k} {d = 1 + (place_of v.fate)} (λ x. omega arith) (λ x. omega arith))
          ∙ sym (rw (ne_eqb k 0 (λ x. omega arith), ne_eqb k 4 (λ x. omega arith))
          (let y : 0 + cond (eqb k (1 + place_of v.fate)) 1 0 + 0 ≡ cond (eqb k (1 + place_of v.fate)) 1 0 = omega arith in y))

      go : (k : ℕ) → k < 5 → get_or (1 ∷ came 0 (v ∷ []) ∷ came 1 (v ∷ []) ∷ came 2 (v ∷ []) ∷ (v.waited + 0) ∷ []) k 0 ≡ grows k
      go zero b = rw (ne_eqb 0 (1 + (place_of v.fate)) (λ x. omega arith))
      go (suc zero) b = line 0 1 refl (omega arith) (omega arith)
      go (suc (suc zero)) b = line 1 2 refl (omega arith) (omega arith)
      go (suc (suc (suc zero))) b = line 2 3 refl (omega arith) (omega arith)
      go (suc (suc (suc (suc zero)))) b = rw (ne_eqb 4 (1 + (place_of v.fate)) (λ x. omega arith)) (omega arith)
      go (suc (suc (suc (suc (suc k))))) b = absurd (omega arith)

-- THE COUNTERS AFTER IT
module _ (cs : List ℕ) (long : length cs ≡ 83) (v : Verdict) where
  abbrev alone : List ℕ
  alone = sheet_with (v ∷ []) 0 0

  -- nothing in a row that it is not in
  empty-at : (i : ℕ) → i < 80 → is_of (i / 5 / 4) (i / 5 % 4) v ≡ false → get_or alone i 0 ≡ 0
  empty-at i h e = sheet-row (v ∷ []) 0 0 i h ∙ ap (λ l. get_or l (i % 5) 0) (one_out v (i / 5 / 4) (i / 5 % 4) e) ∙ zeros (i % 5)

  foot : (i : ℕ) → i < 3 → get_or alone (80 + i) 0 ≡ cond (eqb i 0) (cond (eqb (place_of v.fate) 3) 1 0) 0
  foot i h = sheet-foot (v ∷ []) 0 0 i ∙ go i h
    where
      go : (i : ℕ) → i < 3 → get_or (came 3 (v ∷ []) ∷ 0 ∷ 0 ∷ []) i 0 ≡ cond (eqb i 0) (cond (eqb (place_of v.fate) 3) 1 0) 0
      go zero q = one-came v 3
      go (suc zero) q = refl
      go (suc (suc zero)) q = refl
      go (suc (suc (suc i))) q = absurd (omega arith)

  pub count-classless : place_of v.fate ≡ 3 → bumped cs 80 1 ≡ plus cs alone
  count-classless e = grown cs alone (bumped cs 80 1) long (sheet-length (v ∷ []) 0 0) (length-set cs 80 (get_or cs 80 0 + 1) ∙ long) rows_stay line
    where
      out : (p c : ℕ) → p < 4 → is_of p c v ≡ false
      out p c h = go (eqb v.planner p) (eqb v.class c)
        where
          go : (x y : Bool) → (x && y && ltb (place_of v.fate) 3) ≡ false
          go x y = rw (le-ltb (place_of v.fate) 3 (omega arith)) (both x y)
            where
              both : (x y : Bool) → (x && y && false) ≡ false
              both true true = refl
              both true false = refl
              both false true = refl
              both false false = refl

      rows_stay : (i : ℕ) → i < 80 → get_or (bumped cs 80 1) i 0 ≡ get_or cs i 0 + get_or alone i 0
      rows_stay i h = bumped-at cs 80 1 i (omega arith) ∙ rw (ne_eqb i 80 (λ x. omega arith)) (ap (λ n. get_or cs i 0 + n) (sym (empty-at i h (out (i / 5 / 4) (i / 5 % 4) (omega arith)))))

      line : (i : ℕ) → i < 3 → get_or (bumped cs 80 1) (80 + i) 0 ≡ get_or cs (80 + i) 0 + get_or alone (80 + i) 0
      line i h =
          bumped-at cs 80 1 (80 + i) (omega arith)
          ∙ ap (λ n. get_or cs (80 + i) 0 + n)
          (ap (λ t. cond t 1 0) (same_test {a = 80 + i} {b = 80} {c = i} {d = 0} (λ x. omega arith) (λ x. omega arith)) ∙ sym (foot i h ∙ rw (eq-eqb (place_of v.fate) 3 e)))

  module _ (f : place_of v.fate < 3) where
    foot-stays : (i : ℕ) → i < 3 → get_or alone (80 + i) 0 ≡ 0
    foot-stays i h = foot i h ∙ rw (ne_eqb (place_of v.fate) 3 (λ x. omega arith)) (go (eqb i 0))
      where
        go : (b : Bool) → ◌≡◌ {A = ℕ} (cond b 0 0) 0
        go true = refl
        go false = refl

    pub count_none : 3 < v.planner → cs ≡ plus cs alone
    count_none h = grown cs alone cs long (sheet-length (v ∷ []) 0 0) long (λ i q. still i (empty-at i q (out (i / 5 / 4) (i / 5 % 4) (omega arith)))) (λ i q. still (80 + i) (foot-stays i q))
      where
        out : (p c : ℕ) → p < 4 → is_of p c v ≡ false
        out p c q = rw (ne_eqb v.planner p (λ x. omega arith))

        still : (i : ℕ) → get_or alone i 0 ≡ 0 → get_or cs i 0 ≡ get_or cs i 0 + get_or alone i 0
        still i e = omega (arith, e)

    module _ (h : v.planner < 4) (c : v.class < 4) where
      abbrev at : ℕ
      at = v.planner * 20 + v.class * 5

      abbrev first : List ℕ
      first = bumped cs at 1

      abbrev second : List ℕ
      second = bumped first (at + 1 + (place_of v.fate)) 1

      first-length : length first ≡ 83
      first-length = length-set cs at (get_or cs at 0 + 1) ∙ long

      second-length : length second ≡ 83
      second-length = length-set first (at + 1 + (place_of v.fate)) (get_or first (at + 1 + (place_of v.fate)) 0 + 1) ∙ first-length

      third : (i : ℕ) → get_or (bumped second (at + 4) v.waited) i 0
          ≡ get_or cs i 0 + cond (eqb i at) 1 0 + cond (eqb i (at + 1 + (place_of v.fate))) 1 0 + cond (eqb i (at + 4)) v.waited 0
      third i =
          bumped-at second (at + 4) v.waited i (omega (arith, second-length))
          ∙ ap (λ n. n + cond (eqb i (at + 4)) v.waited 0)
          (bumped-at first (at + 1 + (place_of v.fate)) 1 i (omega (arith, first-length)) ∙ ap (λ n. n + cond (eqb i (at + 1 + (place_of v.fate))) 1 0) (bumped-at cs at 1 i (omega (arith, long))))

      -- what the i-th counter grows by
      abbrev more : ℕ → ℕ
      more i = cond (eqb i at) 1 0 + cond (eqb i (at + 1 + (place_of v.fate))) 1 0 + cond (eqb i (at + 4)) v.waited 0

      out-row : (i : ℕ) → i < 80 → is_of (i / 5 / 4) (i / 5 % 4) v ≡ false → (i < at) ⊎ (at + 4 < i) → more i ≡ get_or alone i 0
      out-row i q e (inl x) = rw (ne_eqb i at (λ z. omega arith), ne_eqb i (at + 1 + (place_of v.fate)) (λ z. omega arith), ne_eqb i (at + 4) (λ z. omega arith)) (sym (empty-at i q e))
      out-row i q e (inr x) = rw (ne_eqb i at (λ z. omega arith), ne_eqb i (at + 1 + (place_of v.fate)) (λ z. omega arith), ne_eqb i (at + 4) (λ z. omega arith)) (sym (empty-at i q e))

      apart : (i : ℕ) → i < 80 → ((i / 5 / 4 ≡ v.planner) × (i / 5 % 4 ≡ v.class) → ⊥) → (i < at) ⊎ (at + 4 < i)
      apart i q n = go (dec_lt i at) (dec_lt (at + 4) i)
        where
          go : Dec (i < at) → Dec (at + 4 < i) → (i < at) ⊎ (at + 4 < i)
          go (yes x) y = inl x
          go (no x) (yes y) = inr y
          go (no x) (no y) = absurd (n (omega arith, omega arith))

      in_row : (i : ℕ) → i < 80 → Dec (i / 5 / 4 ≡ v.planner) → Dec (i / 5 % 4 ≡ v.class) → more i ≡ get_or alone i 0
      in_row i q (yes p) (yes k) =
          ap₂ (λ x y. x + y)
          (ap₂ (λ x y. x + y)
          (ap (λ t. cond t 1 0) (same_test {a = i} {b = at} {c = i % 5} {d = 0} (λ x. omega arith) (λ x. omega arith)))
          (ap (λ t. cond t 1 0) (same_test {a = i} {b = at + 1 + (place_of v.fate)} {c = i % 5} {d = 1 + (place_of v.fate)} (λ x. omega arith) (λ x. omega arith))))
          (ap (λ t. cond t v.waited 0) (same_test {a = i} {b = at + 4} {c = i % 5} {d = 4} (λ x. omega arith) (λ x. omega arith)))
          ∙ sym (sheet-row (v ∷ []) 0 0 i q ∙ one-row v f (i / 5 / 4) (i / 5 % 4) here (i % 5) (omega arith))
        where
          here : is_of (i / 5 / 4) (i / 5 % 4) v ≡ true
          here = rw (eq-eqb v.planner (i / 5 / 4) (sym p), eq-eqb v.class (i / 5 % 4) (sym k), lt-ltb (place_of v.fate) 3 f)
      in_row i q (yes p) (no k) = out-row i q (rw (eq-eqb v.planner (i / 5 / 4) (sym p), ne_eqb v.class (i / 5 % 4) (λ x. k (sym x)))) (apart i q (λ x. k x.1))
      in_row i q (no p) k = out-row i q (rw (ne_eqb v.planner (i / 5 / 4) (λ x. p (sym x)))) (apart i q (λ x. p x.0))

      pub count-in : bumped second (at + 4) v.waited ≡ plus cs alone
      count-in =
          grown cs alone (bumped second (at + 4) v.waited) long (sheet-length (v ∷ []) 0 0) (length-set second (at + 4) (get_or second (at + 4) 0 + v.waited) ∙ second-length)
          (λ i q. third i ∙ (let y : get_or cs i 0 + cond (eqb i at) 1 0 + cond (eqb i (at + 1 + (place_of v.fate))) 1 0 + cond (eqb i (at + 4)) v.waited 0 ≡ get_or cs i 0 + more i = omega arith in y)
          ∙ ap (λ n. get_or cs i 0 + n) (in_row i q (dec_eq (i / 5 / 4) v.planner) (dec_eq (i / 5 % 4) v.class)))
          (λ i q. third (80 + i) ∙ rw (ne_eqb (80 + i) at (λ z. omega arith), ne_eqb (80 + i) (at + 1 + (place_of v.fate)) (λ z. omega arith), ne_eqb (80 + i) (at + 4) (λ z. omega arith))
          (omega (arith, foot-stays i q)))

-- no counter grows by more than that
pub bumped-most : (cs : List ℕ) (j x i : ℕ) → j < length cs → get_or (bumped cs j x) i 0 ≤ get_or cs i 0 + x
bumped-most cs j x i h = go (dec_eq i j)
  where
    go : Dec (i ≡ j) → get_or (bumped cs j x) i 0 ≤ get_or cs i 0 + x
    go (yes e) = let y : get_or (bumped cs j x) i 0 ≡ get_or cs i 0 + x = subst (λ t. get_or (bumped cs j x) i 0 ≡ get_or cs i 0 + cond t x 0) (eq-eqb i j e) (bumped-at cs j x i h) in omega arith
    go (no n) = let y : get_or (bumped cs j x) i 0 ≡ get_or cs i 0 + 0 = subst (λ t. get_or (bumped cs j x) i 0 ≡ get_or cs i 0 + cond t x 0) (ne_eqb i j n) (bumped-at cs j x i h) in omega arith
