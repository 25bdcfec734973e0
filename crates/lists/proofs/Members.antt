-- What stands in the lists that the functions of `specs/Lists.antt` make. Assumes nothing.
use Prim.Native.Nat.{ℕ, zero, suc, ◌+◌, ◌≤◌, ◌<◌, max}
use mathlib.Core.Path.{◌≡◌, refl, sym, ap, ◌∙◌, subst}
use mathlib.Core.Logic.{◌⊎◌, inl, inr}
use mathlib.Core.Bool.{Bool, true, false, not, cond, ◌||◌}
use mathlib.Core.Option.{none, some}
use mathlib.Core.List.Memᴰ
use mathlib.Core.List.{List, [], ◌∷◌, map}
use mathlib.Core.List.Memᴰ.{cases_cons as cases}
use mathlib.Core.List.Memᴰ.{head as here}
use mathlib.Core.List.Memᴰ.{not-nil as nowhere}
use mathlib.Core.List.Memᴰ.{tail as there}
use native.Mathlib.Omega.{arith}
use native.Mathlib.Decide.{ℕ_discrete as dec_eq}
use lib.Dec.{T, ltb, eqb, T_not}
use lib.ListN.{length, get_or}
use borrow.Author.Tests.{eqb-true}
use Rattle.lists.specs.Lists.{◌∈◌, keep, some?, all?, head?, insert_by, sort_by, range, each, highest, add_to, rising}
use Rattle.lists.proofs.Bools.{and_l, and_r, and_i, is_true, is_false, bool}

module _ {A : Type 0} where
  pub keep-yes : (p : A → Bool) (x : A) (xs : List A) → T (p x) → keep p (x ∷ xs) ≡ x ∷ keep p xs
  unfolding keep
  keep-yes p x xs t = rw (is_true (p x) t)

  pub keep-no : (p : A → Bool) (x : A) (xs : List A) → T (not (p x)) → keep p (x ∷ xs) ≡ keep p xs
  unfolding keep
  keep-no p x xs t = rw (is_false (p x) t)

  -- what is kept was there and passes
  pub keep-in : (p : A → Bool) (xs : List A) {a : A} → a ∈ keep p xs → (a ∈ xs) × T (p a)
  unfolding keep
  keep-in p [] m = absurd (nowhere m)
  keep-in p (x ∷ xs) {a} m = step (λ m'. keep-in p xs m') (p x) refl m
    where
      step : (a ∈ keep p xs → (a ∈ xs) × T (p a)) → (b : Bool) → p x ≡ b → a ∈ cond b (x ∷ keep p xs) (keep p xs) → (a ∈ x ∷ xs) × T (p a)
      step below false e m = let r = below m in (there r.0, r.1)
      step below true e m = pick (cases m)
        where
          pick : (a ≡ x) ⊎ (a ∈ keep p xs) → (a ∈ x ∷ xs) × T (p a)
          pick (inl q) = (here q, rw (q, e) tt)
          pick (inr m') = let r = below m' in (there r.0, r.1)

  pub in-keep : (p : A → Bool) {a : A} {xs : List A} → a ∈ xs → T (p a) → a ∈ keep p xs
  in-keep p {a} (here {x} {xs} q) t = rw (keep-yes p x xs (rw (← q) t)) (here q)
  in-keep p {a} (there {x} {xs} m) t = step (in-keep p m t) (bool (p x))
    where
      step : a ∈ keep p xs → T (p x) ⊎ T (not (p x)) → a ∈ keep p (x ∷ xs)
      step m' (inl y) = rw (keep-yes p x xs y) (there m')
      step m' (inr n) = rw (keep-no p x xs n) m'

  -- no element passes
  pub none_pass : (p : A → Bool) (xs : List A) → T (not (some? p xs)) → {a : A} → a ∈ xs → T (not (p a))
  unfolding some?
  none_pass p [] t m = absurd (nowhere m)
  none_pass p (x ∷ xs) t {a} m = step (λ s m'. none_pass p xs s m') (p x) refl t (cases m)
    where
      step : (T (not (some? p xs)) → a ∈ xs → T (not (p a))) → (b : Bool) → p x ≡ b → T (not (b || some? p xs)) → (a ≡ x) ⊎ (a ∈ xs) → T (not (p a))
      step below true e s c = absurd s
      step below false e s (inl q) = rw (q, e) tt
      step below false e s (inr m') = below s m'

  pub pass-none : (p : A → Bool) (xs : List A) → ((a : A) → a ∈ xs → T (not (p a))) → T (not (some? p xs))
  unfolding some?
  pass-none p [] f = tt
  pass-none p (x ∷ xs) f = rw (is_false (p x) (f x (here refl))) (pass-none p xs (λ a m. f a (there m)))

  pub all_pass : (p : A → Bool) (xs : List A) → T (all? p xs) → {a : A} → a ∈ xs → T (p a)
  unfolding all?
  all_pass p [] t m = absurd (nowhere m)
  all_pass p (x ∷ xs) t {a} m = step (λ m'. all_pass p xs (and_r (p x) (all? p xs) t) m') (cases m)
    where
      step : (a ∈ xs → T (p a)) → (a ≡ x) ⊎ (a ∈ xs) → T (p a)
      step below (inl q) = rw q (and_l (p x) (all? p xs) t)
      step below (inr m') = below m'

-- a number lies in a range
pub record Within (a n k : ℕ) : Type 0 where
  pub low : a ≤ k
  pub high : k < a + n

pub range-in : (a n : ℕ) {k : ℕ} → k ∈ range a n → Within a n k
unfolding range
range-in a zero m = absurd (nowhere m)
range-in a (suc n) {k} m = step (λ m'. range-in (suc a) n m') (cases m)
  where
    step : (k ∈ range (suc a) n → Within (suc a) n k) → (k ≡ a) ⊎ (k ∈ range (suc a) n) → Within a (suc n) k
    step below (inl q) = omega arith
    step below (inr m') = let r = below m' in omega arith

pub in-range : (a n k : ℕ) → a ≤ k → k < a + n → k ∈ range a n
unfolding range
in-range a zero k l h = absurd (omega arith)
in-range a (suc n) k l h = step (λ l' h'. in-range (suc a) n k l' h') (dec_eq a k)
  where
    step : (suc a ≤ k → k < suc a + n → k ∈ range (suc a) n) → Dec (a ≡ k) → k ∈ a ∷ range (suc a) n
    step below (yes q) = here (sym q)
    step below (no q) = there (below (omega arith) (omega arith))

module _ {A B : Type 0} where
  pub each_in : (xs : List A) (f : A → List B) {b : B} → b ∈ each xs f → (a : A) × (a ∈ xs) × (b ∈ f a)
  unfolding each
  each_in [] f m = absurd (nowhere m)
  each_in (x ∷ xs) f {b} m = step (λ m'. each_in xs f m') (Memᴰ.append_cases (f x) m)
    where
      step : (b ∈ each xs f → (a : A) × (a ∈ xs) × (b ∈ f a)) → (b ∈ f x) ⊎ (b ∈ each xs f) → (a : A) × (a ∈ x ∷ xs) × (b ∈ f a)
      step below (inl m') = (x, here refl, m')
      step below (inr m') = let r = below m' in (r.0, there r.1, r.2)

  pub in-each : (f : A → List B) {a : A} {xs : List A} {b : B} → a ∈ xs → b ∈ f a → b ∈ each xs f
  unfolding each
  in-each f {a} {b} (here {x} {xs} q) m = Memᴰ.append_left (each xs f) (subst (λ y. b ∈ f y) q m)
  in-each f (there {x} {xs} n) m = Memᴰ.append_right (f x) (in-each f n m)

  pub map-in : (f : A → B) (xs : List A) {b : B} → b ∈ map f xs → (a : A) × (a ∈ xs) × (b ≡ f a)
  map-in f [] m = absurd (nowhere m)
  map-in f (x ∷ xs) {b} m = step (λ m'. map-in f xs m') (cases m)
    where
      step : (b ∈ map f xs → (a : A) × (a ∈ xs) × (b ≡ f a)) → (b ≡ f x) ⊎ (b ∈ map f xs) → (a : A) × (a ∈ x ∷ xs) × (b ≡ f a)
      step below (inl q) = (x, here refl, q)
      step below (inr m') = let r = below m' in (r.0, there r.1, r.2)

  pub in_map : (f : A → B) {a : A} {xs : List A} → a ∈ xs → f a ∈ map f xs
  in_map f (here q) = here (ap f q)
  in_map f (there m) = there (in_map f m)

module _ {A : Type 0} where
  pub pass_all : (p : A → Bool) (xs : List A) → ((a : A) → a ∈ xs → T (p a)) → T (all? p xs)
  unfolding all?
  pass_all p [] f = tt
  pass_all p (x ∷ xs) f = and_i (p x) (all? p xs) (f x (here refl)) (pass_all p xs (λ a m. f a (there m)))

  -- an element that passes
  pub record Passing (p : A → Bool) (xs : List A) : Type 0 where
    pub it : A
    pub among : it ∈ xs
    pub passes : T (p it)

  pub some-pass : (p : A → Bool) (xs : List A) → T (some? p xs) → Passing p xs
  unfolding some?
  some-pass p [] t = absurd t
  some-pass p (x ∷ xs) t = step (λ s. some-pass p xs s) (p x) refl t
    where
      step : (T (some? p xs) → Passing p xs) → (b : Bool) → p x ≡ b → T (b || some? p xs) → Passing p (x ∷ xs)
      step below true e s = record { it = x; among = here refl; passes = rw e tt }
      step below false e s = let r = below s in record { it = r.it; among = there r.among; passes = r.passes }

  pub pass-some : (p : A → Bool) (xs : List A) {a : A} → a ∈ xs → T (p a) → T (some? p xs)
  pass-some p xs {a} m t = step (bool (some? p xs))
    where
      step : T (some? p xs) ⊎ T (not (some? p xs)) → T (some? p xs)
      step (inl s) = s
      step (inr n) = absurd (T_not (p a) (none_pass p xs n m) t)

  pub get_or-in : (xs : List A) (i : ℕ) (d : A) → i < length xs → get_or xs i d ∈ xs
  get_or-in [] i d h = absurd (omega arith)
  get_or-in (x ∷ xs) zero d h = here refl
  get_or-in (x ∷ xs) (suc i) d h = there (get_or-in xs i d (omega arith))

  -- what stands in a list stands at a place of it
  pub in-get_or : (xs : List A) (d : A) {a : A} → a ∈ xs → (i : ℕ) × (i < length xs) × (a ≡ get_or xs i d)
  in-get_or [] d m = absurd (nowhere m)
  in-get_or (x ∷ xs) d {a} m = go (λ n. in-get_or xs d n) (cases m)
    where
      go : (a ∈ xs → (i : ℕ) × (i < length xs) × (a ≡ get_or xs i d)) → (a ≡ x) ⊎ (a ∈ xs) → (i : ℕ) × (i < length (x ∷ xs)) × (a ≡ get_or (x ∷ xs) i d)
      go below (inl e) = (0, omega arith, e)
      go below (inr n) = let k = below n in (suc k.0, omega (arith, k.1), k.2)

  -- where no element fails, all are kept
  pub keep_all : (p : A → Bool) (xs : List A) → ((a : A) → a ∈ xs → T (p a)) → keep p xs ≡ xs
  keep_all p [] f = unfold keep in refl
  keep_all p (x ∷ xs) f = keep-yes p x xs (f x (here refl)) ∙ ap (λ l. x ∷ l) (keep_all p xs (λ a m. f a (there m)))

  -- none passes: nothing is kept
  pub keep-none : (p : A → Bool) (xs : List A) → ((a : A) → a ∈ xs → T (not (p a))) → keep p xs ≡ []
  keep-none p [] f = unfold keep in refl
  keep-none p (x ∷ xs) f = keep-no p x xs (f x (here refl)) ∙ keep-none p xs (λ a m. f a (there m))

  pub length-keep : (p : A → Bool) (xs : List A) → length (keep p xs) ≤ length xs
  length-keep p [] = unfold keep in omega arith
  length-keep p (x ∷ xs) = step (length-keep p xs) (bool (p x))
    where
      step : length (keep p xs) ≤ length xs → T (p x) ⊎ T (not (p x)) → length (keep p (x ∷ xs)) ≤ suc (length xs)
      step h (inl t) = rw (keep-yes p x xs t) (omega arith)
      step h (inr t) = rw (keep-no p x xs t) (omega arith)

  -- one that does not pass is left out
  pub keep-fewer : (p : A → Bool) (xs : List A) {a : A} → a ∈ xs → T (not (p a)) → length (keep p xs) < length xs
  keep-fewer p [] m t = absurd (nowhere m)
  keep-fewer p (x ∷ xs) {a} m t = go (λ n. keep-fewer p xs n t) (bool (p x)) (cases m)
    where
      go : (a ∈ xs → length (keep p xs) < length xs) → T (p x) ⊎ T (not (p x)) → (a ≡ x) ⊎ (a ∈ xs) → length (keep p (x ∷ xs)) < suc (length xs)
      go below (inl u) (inl e) = absurd (T_not (p x) (subst (λ y. T (not (p y))) e t) u)
      go below (inl u) (inr n) = rw (keep-yes p x xs u) (let z = below n in omega arith)
      go below (inr u) c = rw (keep-no p x xs u) (let z = length-keep p xs in omega arith)

  -- the head of a list
  pub head-none : (xs : List A) → head? xs ≡ none → xs ≡ []
  unfolding head?
  head-none [] e = refl
  head-none (x ∷ xs) e = cc

  pub head-some : (xs : List A) {a : A} → head? xs ≡ some a → (ys : List A) × (xs ≡ a ∷ ys)
  unfolding head?
  head-some [] e = absurd (let z : ◌≡◌ {A = ℕ} 0 1 = cc in omega arith)
  head-some (x ∷ xs) e = (xs, cc)

  pub head_in : (xs : List A) {a : A} → head? xs ≡ some a → a ∈ xs
  head_in xs e = let r = head-some xs e in rw r.1 (here refl)

  -- what sorting puts where: the same elements
  pub insert-in : (before : A → A → Bool) (a : A) (xs : List A) {x : A} → x ∈ insert_by before a xs → (x ≡ a) ⊎ (x ∈ xs)
  unfolding insert_by
  insert-in before a [] m = cases m
  insert-in before a (y ∷ ys) {x} m = step (λ m'. insert-in before a ys m') (before a y) m
    where
      step : (x ∈ insert_by before a ys → (x ≡ a) ⊎ (x ∈ ys)) → (t : Bool) → x ∈ cond t (a ∷ y ∷ ys) (y ∷ insert_by before a ys) → (x ≡ a) ⊎ (x ∈ y ∷ ys)
      step below true n = cases n
      step below false n = pick (cases n)
        where
          deeper : (x ≡ a) ⊎ (x ∈ ys) → (x ≡ a) ⊎ (x ∈ y ∷ ys)
          deeper (inl z) = inl z
          deeper (inr k) = inr (there k)

          pick : (x ≡ y) ⊎ (x ∈ insert_by before a ys) → (x ≡ a) ⊎ (x ∈ y ∷ ys)
          pick (inl z) = inr (here z)
          pick (inr k) = deeper (below k)

  pub in_insert : (before : A → A → Bool) (a : A) (xs : List A) {x : A} → (x ≡ a) ⊎ (x ∈ xs) → x ∈ insert_by before a xs
  unfolding insert_by
  in_insert before a [] (inl z) = here z
  in_insert before a [] (inr m) = absurd (nowhere m)
  in_insert before a (y ∷ ys) {x} m = step (λ m'. in_insert before a ys m') (before a y) m
    where
      step : ((x ≡ a) ⊎ (x ∈ ys) → x ∈ insert_by before a ys) → (t : Bool) → (x ≡ a) ⊎ (x ∈ y ∷ ys) → x ∈ cond t (a ∷ y ∷ ys) (y ∷ insert_by before a ys)
      step below true (inl z) = here z
      step below true (inr n) = there n
      step below false (inl z) = there (below (inl z))
      step below false (inr n) = pick (cases n)
        where
          pick : (x ≡ y) ⊎ (x ∈ ys) → x ∈ y ∷ insert_by before a ys
          pick (inl z) = here z
          pick (inr k) = there (below (inr k))

  pub sort-in : (before : A → A → Bool) (xs : List A) {x : A} → x ∈ sort_by before xs → x ∈ xs
  unfolding sort_by
  sort-in before [] m = m
  sort-in before (y ∷ ys) {x} m = step (λ m'. sort-in before ys m') (insert-in before y (sort_by before ys) m)
    where
      step : (x ∈ sort_by before ys → x ∈ ys) → (x ≡ y) ⊎ (x ∈ sort_by before ys) → x ∈ y ∷ ys
      step below (inl z) = here z
      step below (inr k) = there (below k)

  pub in-sort : (before : A → A → Bool) (xs : List A) {x : A} → x ∈ xs → x ∈ sort_by before xs
  unfolding sort_by
  in-sort before [] m = m
  in-sort before (y ∷ ys) {x} m = in_insert before y (sort_by before ys) (step (λ m'. in-sort before ys m') (cases m))
    where
      step : (x ∈ ys → x ∈ sort_by before ys) → (x ≡ y) ⊎ (x ∈ ys) → (x ≡ y) ⊎ (x ∈ sort_by before ys)
      step below (inl z) = inl z
      step below (inr k) = inr (below k)

-- the largest is not smaller than any, and is one of them
pub highest-over : (n : ℕ) {x : ℕ} {xs : List ℕ} → x ∈ xs → x ≤ highest n xs
unfolding highest
highest-over n {x} (here {x = y} {xs} z) = omega arith
highest-over n (there {x = y} {xs} m) = let h = highest-over n m in omega arith

pub highest-from : (n : ℕ) (xs : List ℕ) → n ≤ highest n xs
unfolding highest
highest-from n [] = omega arith
highest-from n (x ∷ xs) = let h = highest-from n xs in omega arith

pub highest-one : (n : ℕ) (xs : List ℕ) → (highest n xs ≡ n) ⊎ (highest n xs ∈ xs)
unfolding highest
highest-one n [] = inl refl
highest-one n (x ∷ xs) = step (highest-one n xs) (dec_eq (max x (highest n xs)) x)
  where
    step : (highest n xs ≡ n) ⊎ (highest n xs ∈ xs) → Dec (max x (highest n xs) ≡ x) → (max x (highest n xs) ≡ n) ⊎ (max x (highest n xs) ∈ x ∷ xs)
    step r (yes z) = inr (here z)
    step r (no z) = let q : max x (highest n xs) ≡ highest n xs = omega arith in pick q r
      where
        pick : max x (highest n xs) ≡ highest n xs → (highest n xs ≡ n) ⊎ (highest n xs ∈ xs) → (max x (highest n xs) ≡ n) ⊎ (max x (highest n xs) ∈ x ∷ xs)
        pick q (inl e) = inl (q ∙ e)
        pick q (inr m) = let k : max x (highest n xs) ∈ xs = rw q m in inr (there k)

-- a rising list has the numbers of the list that it is made of
pub add-in : (n : ℕ) (xs : List ℕ) {x : ℕ} → x ∈ add_to n xs → (x ≡ n) ⊎ (x ∈ xs)
unfolding add_to
add-in n [] m = cases m
add-in n (y ∷ ys) {x} m = step (λ m'. add-in n ys m') (ltb n y) (eqb n y) m
  where
    step : (x ∈ add_to n ys → (x ≡ n) ⊎ (x ∈ ys)) → (s t : Bool) → x ∈ cond s (n ∷ y ∷ ys) (cond t (y ∷ ys) (y ∷ add_to n ys)) → (x ≡ n) ⊎ (x ∈ y ∷ ys)
    step below true t k = cases k
    step below false true k = inr k
    step below false false k = pick (cases k)
      where
        deeper : (x ≡ n) ⊎ (x ∈ ys) → (x ≡ n) ⊎ (x ∈ y ∷ ys)
        deeper (inl z) = inl z
        deeper (inr l) = inr (there l)

        pick : (x ≡ y) ⊎ (x ∈ add_to n ys) → (x ≡ n) ⊎ (x ∈ y ∷ ys)
        pick (inl z) = inr (here z)
        pick (inr l) = deeper (below l)

pub in-add : (n : ℕ) (xs : List ℕ) {x : ℕ} → (x ≡ n) ⊎ (x ∈ xs) → x ∈ add_to n xs
unfolding add_to
in-add n [] (inl z) = here z
in-add n [] (inr m) = absurd (nowhere m)
in-add n (y ∷ ys) {x} m = step (λ m'. in-add n ys m') (ltb n y) (eqb n y) refl m
  where
    step : ((x ≡ n) ⊎ (x ∈ ys) → x ∈ add_to n ys) → (s t : Bool) → eqb n y ≡ t → (x ≡ n) ⊎ (x ∈ y ∷ ys)
        → x ∈ cond s (n ∷ y ∷ ys) (cond t (y ∷ ys) (y ∷ add_to n ys))
    step below true t e (inl z) = here z
    step below true t e (inr k) = there k
    step below false true e (inl z) = here (z ∙ eqb-true n y e)
    step below false true e (inr k) = k
    step below false false e (inl z) = there (below (inl z))
    step below false false e (inr k) = pick (cases k)
      where
        pick : (x ≡ y) ⊎ (x ∈ ys) → x ∈ y ∷ add_to n ys
        pick (inl z) = here z
        pick (inr l) = there (below (inr l))

pub rising-in : (xs : List ℕ) {x : ℕ} → x ∈ rising xs → x ∈ xs
unfolding rising
rising-in [] m = m
rising-in (y ∷ ys) {x} m = step (λ m'. rising-in ys m') (add-in y (rising ys) m)
  where
    step : (x ∈ rising ys → x ∈ ys) → (x ≡ y) ⊎ (x ∈ rising ys) → x ∈ y ∷ ys
    step below (inl z) = here z
    step below (inr k) = there (below k)

pub in-rising : (xs : List ℕ) {x : ℕ} → x ∈ xs → x ∈ rising xs
unfolding rising
in-rising [] m = m
in-rising (y ∷ ys) {x} m = in-add y (rising ys) (step (λ m'. in-rising ys m') (cases m))
  where
    step : (x ∈ ys → x ∈ rising ys) → (x ≡ y) ⊎ (x ∈ ys) → (x ≡ y) ⊎ (x ∈ rising ys)
    step below (inl z) = inl z
    step below (inr k) = inr (below k)
