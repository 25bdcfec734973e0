-- The functions of `specs/Lists.antt` over a list taken element by element: one more at the end, or the first of what is left. Assumes nothing.
use Prim.Native.Nat.{ℕ, zero, suc, ◌+◌, ◌-◌, ◌≤◌, ◌<◌}
use mathlib.Core.Path.{◌≡◌, refl, sym, ap, ap₂, ◌∙◌, subst}
use mathlib.Core.Logic.{◌⊎◌, inl, inr}
use mathlib.Core.Bool.{Bool, true, false, not, cond, ◌&&◌, ◌||◌, or_assoc, or-false}
use mathlib.Core.Option.{some}
use mathlib.Core.List.Memᴰ.{head as here}
use mathlib.Core.List.Memᴰ.{tail as there}
use mathlib.Core.List.{List, [], ◌∷◌, ◌++◌, map, append-nil, append_assoc, map-append}
use native.Mathlib.Omega.{arith}
use native.Mathlib.Numerals.{add-one}
use native.Mathlib.Decide.{ℕ_discrete as dec_eq}
use lib.Dec.{T, ltb, leb-suc-suc, T_not}
use borrow.Author.Tests.{lt-ltb}
use lib.ListN.{length, take, drop, set, get_or, length-map, length-append, length-set, drop_of_length-le}
use lib.Seq.{take-suc, take_all, length-take-le, drop-cons, get_or-set_same, get_or-set_other, set_at, get_or_at}
use Rattle.lists.specs.Lists.{◌∈◌, keep, some?, all?, head?, index_of, put_first, range}
use Rattle.lists.proofs.Bools.{bool}
use Rattle.lists.proofs.Members.{keep-yes, keep-no}

pub and_assoc : (a b c : Bool) → ((a && b) && c) ≡ (a && (b && c))
and_assoc true b c = refl
and_assoc false b c = refl

pub and-true : (a : Bool) → (a && true) ≡ a
and-true true = refl
and-true false = refl

module _ {A : Type 0} where
  pub all_append : (p : A → Bool) (xs ys : List A) → all? p (xs ++ ys) ≡ (all? p xs && all? p ys)
  unfolding all?
  all_append p [] ys = refl
  all_append p (x ∷ xs) ys = ap (λ b. p x && b) (all_append p xs ys) ∙ sym (and_assoc (p x) (all? p xs) (all? p ys))

  pub keep_append : (p : A → Bool) (xs ys : List A) → keep p (xs ++ ys) ≡ keep p xs ++ keep p ys
  unfolding keep
  keep_append p [] ys = refl
  keep_append p (x ∷ xs) ys = step (keep_append p xs ys) (bool (p x))
    where
      step : keep p (xs ++ ys) ≡ keep p xs ++ keep p ys → T (p x) ⊎ T (not (p x)) → keep p (x ∷ (xs ++ ys)) ≡ keep p (x ∷ xs) ++ keep p ys
      step h (inl t) = rw (keep-yes p x (xs ++ ys) t, keep-yes p x xs t, h)
      step h (inr t) = rw (keep-no p x (xs ++ ys) t, keep-no p x xs t, h)

  -- one element more
  pub all_more : (p : A → Bool) (l : List A) (i : ℕ) (d : A) → i < length l → all? p (take (i + 1) l) ≡ (all? p (take i l) && p (get_or l i d))
  unfolding all?
  all_more p l i d h =
      rw (add-one, take-suc l i d h) (all_append p (take i l) (get_or l i d ∷ []) ∙ ap (λ b. all? p (take i l) && b) (and-true (p (get_or l i d))))

  -- the first of what is left
  pub index-left : (p : A → Bool) (l : List A) (i : ℕ) (d : A) → i < length l → index_of p (drop i l) ≡ cond (p (get_or l i d)) 0 (index_of p (drop (i + 1) l) + 1)
  unfolding index_of
  index-left p l i d h = rw (add-one i, drop-cons l i d h)

  -- a walk up to the first that passes: what is left gives the place
  pub index_on : (p : A → Bool) (l : List A) (i : ℕ) (d : A) → i < length l → p (get_or l i d) ≡ false → index_of p l ≡ i + index_of p (drop i l)
      → index_of p l ≡ i + 1 + index_of p (drop (i + 1) l)
  index_on p l i d h t e =
      let x : index_of p (drop i l) ≡ index_of p (drop (i + 1) l) + 1 = index-left p l i d h ∙ ap (λ b. cond b 0 (index_of p (drop (i + 1) l) + 1)) t in
      omega arith

  pub index-here : (p : A → Bool) (l : List A) (i : ℕ) (d : A) → i < length l → p (get_or l i d) ≡ true → index_of p l ≡ i + index_of p (drop i l) → i ≡ index_of p l
  index-here p l i d h t e =
      let x : index_of p (drop i l) ≡ 0 = index-left p l i d h ∙ ap (λ b. cond b 0 (index_of p (drop (i + 1) l) + 1)) t in
      omega arith

  pub index-none : (p : A → Bool) (l : List A) (i : ℕ) → length l ≤ i → index_of p l ≡ i + index_of p (drop i l) → i ≡ index_of p l
  index-none p l i h e =
      let x : index_of p (drop i l) ≡ 0 = ap (index_of p) (drop_of_length-le l h) ∙ (unfold index_of in refl) in
      omega arith

-- what stands at a place after a store
pub stored : {A : Type 0} (Q : A → Type 0) (l : List A) (i : ℕ) (v : A) (k : ℕ) (d : A) → i < length l → (k ≡ i → Q v)
    → ((k ≡ i → ⊥) → Q (get_or l k d)) → Q (get_or (set l i v) k d)
stored Q l i v k d h f g = go (dec_eq k i)
  where
    go : Dec (k ≡ i) → Q (get_or (set l i v) k d)
    go (yes e) = rw (e, get_or-set_same l i v d h) (f e)
    go (no n) = rw (get_or-set_other l i k v d n) (g n)

-- a range with one number more at its end
range_last : (a m : ℕ) → range a (suc m) ≡ range a m ++ ((a + m) ∷ [])
unfolding range
range_last a zero = ap (λ x. x ∷ []) (let e : a ≡ a + 0 = omega arith in e)
range_last a (suc m) =
    let e : suc a + m ≡ a + suc m = omega arith in
    ap (λ l. a ∷ l) (range_last (suc a) m ∙ ap (λ x. range (suc a) m ++ (x ∷ [])) e)

pub range-more : (a m : ℕ) → range a (m + 1) ≡ range a m ++ ((a + m) ∷ [])
range-more a m = ap (range a) (add-one m) ∙ range_last a m

pub all-range-more : (p : ℕ → Bool) (a m : ℕ) → all? p (range a (m + 1)) ≡ (all? p (range a m) && p (a + m))
unfolding all?
all-range-more p a m = ap (all? p) (range-more a m) ∙ all_append p (range a m) ((a + m) ∷ []) ∙ ap (λ b. all? p (range a m) && b) (and-true (p (a + m)))

-- the first number of a range that is not empty
pub range-first : (a n : ℕ) → a < n → range a (n - a) ≡ a ∷ range (a + 1) (n - (a + 1))
range-first a n h =
    let e : n - a ≡ suc (n - (a + 1)) = omega arith in
    rw (e, add-one a) (unfold range in refl)

-- the first i elements put through f, the others as they were: one more, all of them
module _ {A : Type 0} (f : A → A) where
  pub map-one : (l : List A) (i : ℕ) (d : A) → i < length l → set (map f (take i l) ++ drop i l) i (f (get_or l i d)) ≡ map f (take (i + 1) l) ++ drop (i + 1) l
  map-one l i d h =
      let n : length (map f (take i l)) ≡ i = length-map (take i l) f ∙ length-take-le i l (omega arith) in
      rw (add-one i, drop-cons l i d h, take-suc l i d h)
      (set_at (map f (take i l)) (get_or l i d) (drop (suc i) l) (f (get_or l i d)) i n
      ∙ sym (ap (λ x. x ++ drop (suc i) l) (map-append f (take i l) (get_or l i d ∷ [])) ∙ append_assoc (map f (take i l)) (f (get_or l i d) ∷ []) (drop (suc i) l)))

  pub map_at : (l : List A) (i : ℕ) (d : A) → i < length l → get_or (map f (take i l) ++ drop i l) i d ≡ get_or l i d
  map_at l i d h =
      let n : length (map f (take i l)) ≡ i = length-map (take i l) f ∙ length-take-le i l (omega arith) in
      rw (drop-cons l i d h) (get_or_at (map f (take i l)) (get_or l i d) (drop (suc i) l) d i n)

  pub map-step : (l next : List A) (i : ℕ) (d : A) {r : A} → next ≡ map f (take i l) ++ drop i l → i < length l → r ≡ f (get_or next i d)
      → set next i r ≡ map f (take (i + 1) l) ++ drop (i + 1) l
  map-step l next i d {r} e h q =
      let v : r ≡ f (get_or l i d) = q ∙ ap (λ x. f (get_or x i d)) e ∙ ap f (map_at l i d h) in
      rw (e, v) (map-one l i d h)

  pub map-done : (l : List A) (i : ℕ) → length l ≤ i → map f (take i l) ++ drop i l ≡ map f l
  map-done l i h = rw (take_all i l h, drop_of_length-le l h) (append-nil (map f l))

-- the first that passes is found at its index, and put there
pub index-test : {A : Type 0} (p : A → Bool) (l : List A) → some? p l ≡ ltb (index_of p l) (length l)
unfolding some? index_of
index-test p [] = refl
index-test p (x ∷ xs) = step (p x) (index-test p xs)
  where
    step : (b : Bool) → some? p xs ≡ ltb (index_of p xs) (length xs) → (b || some? p xs) ≡ ltb (cond b 0 (index_of p xs + 1)) (suc (length xs))
    step true e = sym (lt-ltb 0 (suc (length xs)) (omega arith))
    step false e = e ∙ sym (ap (λ n. ltb n (suc (length xs))) (add-one (index_of p xs)) ∙ leb-suc-suc (suc (index_of p xs)) (length xs))

pub put-index : {A : Type 0} (p : A → Bool) (x : A) (l : List A) → put_first p x l ≡ set l (index_of p l) x
unfolding put_first index_of
put-index p x [] = refl
put-index {A} p x (y ∷ ys) = step (p y) (put-index p x ys)
  where
    step : (b : Bool) → put_first p x ys ≡ set ys (index_of p ys) x → cond b (x ∷ ys) (y ∷ put_first p x ys) ≡ set (y ∷ ys) (cond b 0 (index_of p ys + 1)) x
    step true e = refl
    step false e = ap (λ l. y ∷ l) e ∙ sym (ap (λ n. set (y ∷ ys) n x) (add-one (index_of p ys)))

-- it is the only place before which none passes and at which one does, or the end
pub index_is : {A : Type 0} (p : A → Bool) (l : List A) (d : A) (i : ℕ) → i ≤ length l → ((j : ℕ) → j < i → p (get_or l j d) ≡ false)
    → (i < length l → p (get_or l i d) ≡ true) → i ≡ index_of p l
unfolding index_of
index_is p [] d i h f g = omega arith
index_is p (x ∷ xs) d zero h f g = rw (g (omega arith)) refl
index_is p (x ∷ xs) d (suc i) h f g =
    rw (f 0 (omega arith)) (add-one' (index_is p xs d i (omega arith) (λ j l. f (suc j) (omega arith)) (λ l. g (omega arith))))
  where
    add-one' : i ≡ index_of p xs → suc i ≡ index_of p xs + 1
    add-one' e = omega arith

pub index-passes : {A : Type 0} (p : A → Bool) (l : List A) (d : A) → index_of p l < length l → T (p (get_or l (index_of p l) d))
unfolding index_of
index-passes p [] d h = absurd (omega arith)
index-passes {A} p (y ∷ ys) d h = step (p y) refl (λ k. index-passes p ys d k) h
  where
    step : (b : Bool) → p y ≡ b → (index_of p ys < length ys → T (p (get_or ys (index_of p ys) d))) → cond b 0 (index_of p ys + 1) < suc (length ys)
        → T (p (get_or (y ∷ ys) (cond b 0 (index_of p ys + 1)) d))
    step true e below k = rw e tt
    step false e below k = subst (λ n. T (p (get_or (y ∷ ys) n d))) (sym (add-one (index_of p ys))) (below (omega arith))

-- what is put stands at the first that passed, and an element that does not pass stays where it is
pub put-there : {A : Type 0} (p : A → Bool) (x : A) (l : List A) (d : A) → index_of p l < length l → get_or (put_first p x l) (index_of p l) d ≡ x
put-there p x l d h = ap (λ m. get_or m (index_of p l) d) (put-index p x l) ∙ get_or-set_same l (index_of p l) x d h

pub put_keeps : {A : Type 0} (p : A → Bool) (x : A) (l : List A) (i : ℕ) (d : A) → i < length l → T (not (p (get_or l i d))) → get_or (put_first p x l) i d ≡ get_or l i d
put_keeps p x l i d h t =
    ap (λ m. get_or m i d) (put-index p x l)
    ∙ get_or-set_other l (index_of p l) i x d (λ e. T_not (p (get_or l i d)) t (subst (λ n. T (p (get_or l n d))) (sym e) (index-passes p l d (subst (λ n. n < length l) e h))))

pub length-put : {A : Type 0} (p : A → Bool) (x : A) (l : List A) → length (put_first p x l) ≡ length l
length-put p x l = ap length (put-index p x l) ∙ length-set l (index_of p l) x

pub some-append : {A : Type 0} (p : A → Bool) (xs ys : List A) → some? p (xs ++ ys) ≡ (some? p xs || some? p ys)
unfolding some?
some-append p [] ys = refl
some-append p (x ∷ xs) ys = ap (λ b. p x || b) (some-append p xs ys) ∙ sym (or_assoc (p x) (some? p xs) (some? p ys))

-- one element more
pub some_more : {A : Type 0} (p : A → Bool) (xs : List A) (y : A) → some? p (xs ++ (y ∷ [])) ≡ (some? p xs || p y)
unfolding some?
some_more p xs y = some-append p xs (y ∷ []) ∙ ap (λ b. some? p xs || b) (or-false (p y))

pub some-range-more : (p : ℕ → Bool) (m : ℕ) → some? p (range 0 (m + 1)) ≡ (some? p (range 0 m) || p m)
some-range-more p m =
    let e : 0 + m ≡ m = omega arith in
    ap (some? p) (range-more 0 m) ∙ some_more p (range 0 m) (0 + m) ∙ ap (λ x. some? p (range 0 m) || p x) e

-- tests that agree on a list
pub some_same : {A : Type 0} (p q : A → Bool) (xs : List A) → ((a : A) → a ∈ xs → p a ≡ q a) → some? p xs ≡ some? q xs
unfolding some?
some_same p q [] f = refl
some_same p q (x ∷ xs) f = ap₂ ◌||◌ (f x (here refl)) (some_same p q xs (λ a m. f a (there m)))

pub keep-agree : {A : Type 0} (p q : A → Bool) (xs : List A) → ((a : A) → a ∈ xs → p a ≡ q a) → keep p xs ≡ keep q xs
unfolding keep
keep-agree p q [] f = refl
keep-agree p q (x ∷ xs) f = ap₂ (λ b ys. cond b (x ∷ ys) ys) (f x (here refl)) (keep-agree p q xs (λ a m. f a (there m)))

-- a list that is put through g
pub some-map : {A B : Type 0} (p : B → Bool) (g : A → B) (xs : List A) → some? p (map g xs) ≡ some? (λ x. p (g x)) xs
unfolding some?
some-map p g [] = refl
some-map p g (x ∷ xs) = ap (λ b. p (g x) || b) (some-map p g xs)

pub keep-map : {A B : Type 0} (p : B → Bool) (g : A → B) (xs : List A) → keep p (map g xs) ≡ map g (keep (λ x. p (g x)) xs)
unfolding keep
keep-map p g [] = refl
keep-map p g (x ∷ xs) = step (p (g x)) (keep-map p g xs)
  where
    step : (b : Bool) → keep p (map g xs) ≡ map g (keep (λ y. p (g y)) xs)
        → cond b (g x ∷ keep p (map g xs)) (keep p (map g xs)) ≡ map g (cond b (x ∷ keep (λ y. p (g y)) xs) (keep (λ y. p (g y)) xs))
    step true e = ap (λ l. g x ∷ l) e
    step false e = e

pub head-map : {A B : Type 0} (g : A → B) (xs : List A) {a : A} → head? xs ≡ some a → head? (map g xs) ≡ some (g a)
unfolding head?
head-map g [] e = cc
head-map g (x ∷ xs) e = cc

pub map-map : {A B C : Type 0} (f : B → C) (g : A → B) (xs : List A) → map f (map g xs) ≡ map (λ x. f (g x)) xs
map-map f g [] = refl
map-map f g (x ∷ xs) = ap (λ l. f (g x) ∷ l) (map-map f g xs)

pub range_length : (a n : ℕ) → length (range a n) ≡ n
unfolding range
range_length a zero = refl
range_length a (suc n) = ap suc (range_length (suc a) n)

-- how many pass: one number more, no more than there are, and fewer where the test is stricter
pub count-range-more : (p : ℕ → Bool) (m : ℕ) → length (keep p (range 0 (m + 1))) ≡ length (keep p (range 0 m)) + cond (p m) 1 0
unfolding keep
count-range-more p m =
    let e : 0 + m ≡ m = omega arith in
    ap (λ l. length (keep p l)) (range-more 0 m)
    ∙ ap length (keep_append p (range 0 m) ((0 + m) ∷ []))
    ∙ length-append (keep p (range 0 m)) (keep p ((0 + m) ∷ []))
    ∙ ap (λ x. length (keep p (range 0 m)) + length (keep p (x ∷ []))) e
    ∙ ap (λ x. length (keep p (range 0 m)) + x) (one (p m))
  where
    one : (b : Bool) → length (cond b (m ∷ []) []) ≡ cond b 1 0
    one true = refl
    one false = refl

module _ {A : Type 0} (p q : A → Bool) where
  pub count-fewer : (xs : List A) → ((a : A) → a ∈ xs → T (p a) → T (q a)) → length (keep p xs) ≤ length (keep q xs)
  unfolding keep
  count-fewer [] f = omega arith
  count-fewer (x ∷ xs) f = step (count-fewer xs (λ a m. f a (there m))) (p x) (q x) (f x (here refl))
    where
      step : length (keep p xs) ≤ length (keep q xs) → (b c : Bool) → (T b → T c) → length (cond b (x ∷ keep p xs) (keep p xs)) ≤ length (cond c (x ∷ keep q xs) (keep q xs))
      step h true true g = omega arith
      step h true false g = absurd (g tt)
      step h false true g = omega arith
      step h false false g = h

  pub count_less : {a : A} {xs : List A} → a ∈ xs → ((a : A) → a ∈ xs → T (p a) → T (q a)) → T (not (p a)) → T (q a) → length (keep p xs) < length (keep q xs)
  count_less {a} (here {x} {xs} e) f n y =
      let z = count-fewer xs (λ a m. f a (there m)) in
      rw (keep-no p x xs (rw (← e) n), keep-yes q x xs (rw (← e) y)) (omega arith)
  count_less {a} (there {x} {xs} m) f n y = step (count_less m (λ a k. f a (there k)) n y) (bool (p x)) (bool (q x))
    where
      step : length (keep p xs) < length (keep q xs) → T (p x) ⊎ T (not (p x)) → T (q x) ⊎ T (not (q x)) → length (keep p (x ∷ xs)) < length (keep q (x ∷ xs))
      step h (inl b) (inl c) = rw (keep-yes p x xs b, keep-yes q x xs c) (omega arith)
      step h (inl b) (inr c) = absurd (T_not (q x) c (f x (here refl) b))
      step h (inr b) (inl c) = rw (keep-no p x xs b, keep-yes q x xs c) (omega arith)
      step h (inr b) (inr c) = rw (keep-no p x xs b, keep-no q x xs c) h
