-- The openings are every opening, each once, in order; what each move of a search leaves of them; asking on reaches the end. Assumes nothing.
use Prim.Native.Nat.{ℕ, zero, suc, ◌+◌, ◌≤◌, ◌<◌}
use mathlib.Core.Path.{◌≡◌, refl, sym, ap, ◌∙◌}
use mathlib.Core.Logic.{◌⊎◌, inl, inr}
use mathlib.Core.Bool.{true, ◌&&◌}
use mathlib.Core.List.Memᴰ.{cases_cons as cases}
use mathlib.Core.List.Memᴰ.{head as here}
use mathlib.Core.List.Memᴰ.{tail as there}
use mathlib.Core.List.{List, [], ◌∷◌, ◌++◌, map}
use native.Mathlib.Omega.{arith}
use native.Mathlib.Decide.{dec_le, ℕ_discrete as dec_eq}
use lib.Dec.{T, ltb, eqb, ltb→lt, lt→ltb, eqb→eq, eqb_refl, not_T, T_not}
use lib.ListN.{length, take, drop, length-drop, take-append-drop}
use Rattle.lists.specs.Lists.{◌∈◌, keep, range, last_or}
use Rattle.lists.proofs.Bools.{and_l, and_r, and_i, or_cases, or_l, or_r, same_bool}
use Rattle.lists.proofs.Members.{keep-in, in-keep, none_pass, pass-none, range-in, in-range, each_in, in-each, map-in, in_map}
use Rattle.lists.proofs.Order.{Sorted, next, Sorted·head, sorted-keep, sorted-range, sorted-map, sorted-each, sorted-unique}
use Rattle.ways.specs.Ways.{Pair, pair, Ways, is_open, pairs_in, openings_in, after, openings_after, asked_on}

-- what is asked of places and time, and holds of columns, of a grid and of cells: `low` is a place before every place
pub record Lawful {P A : Type 0} (w : Ways P A) (low : P) : Type 0 where
  -- of a thing in the way from a start at a place: until which start it is
  pub leaves : ℕ → P → A → ℕ
  -- TIME ALONE: a thing that is in the way stays in the way at that place until it leaves
  pub stays : (t v : ℕ) (p : P) (a : A) → T (w.in_way t p a) → t ≤ v → v < leaves t p a → T (w.in_way v p a)
  -- the places stand in their order
  pub sorted : Sorted (λ p q. T (w.before p q)) w.places
  pub asym : (p q : P) → T (w.before p q) → T (w.before q p) → ⊥
  pub trans : (p q r : P) → T (w.before p q) → T (w.before q r) → T (w.before p r)
  pub first : (p : P) → p ∈ w.places → T (w.before low p)

module _ {P A : Type 0} (w : Ways P A) where
  -- AN OPENING
  pub record Open (q : Pair P) : Type 0 where
    pub from-now : w.from ≤ q.start
    pub in-time : q.start < w.from + w.starts
    pub on-board : q.place ∈ w.places
    pub clear : T (is_open w q)

  pub data After (p q : Pair P) : Type 0 where
    sooner : p.start < q.start → After p q
    beside : p.start ≡ q.start → T (w.before p.place q.place) → After p q

  pub openings-in : {q : Pair P} → q ∈ openings_in w → Open q
  unfolding openings_in pairs_in
  openings-in {q} m =
      let r = keep-in (is_open w) (pairs_in w) m in
      let k = each_in (range w.from w.starts) (λ s. map (pair s) w.places) r.0 in
      let l = range-in w.from w.starts k.1 in
      let n = map-in (pair k.0) w.places k.2 in
      let x : q.start ≡ k.0 = ap (λ z. z.start) n.2 in
      let y : q.place ≡ n.0 = ap (λ z. z.place) n.2 in
      record { from-now = omega arith; in-time = omega arith; on-board = rw y n.1; clear = r.1 }

  pub in-openings : (q : Pair P) → Open q → q ∈ openings_in w
  unfolding openings_in pairs_in
  in-openings q o =
      in-keep (is_open w)
      (in-each (λ s. map (pair s) w.places) (in-range w.from w.starts q.start o.from-now o.in-time) (in_map (pair q.start) o.on-board))
      o.clear

  after-out : (p q : Pair P) → T (after w p q) → After p q
  unfolding after
  after-out p q h = pick (or_cases (ltb p.start q.start) (eqb p.start q.start && w.before p.place q.place) h)
    where
      pick : T (ltb p.start q.start) ⊎ T (eqb p.start q.start && w.before p.place q.place) → After p q
      pick (inl t) = sooner (ltb→lt p.start q.start t)
      pick (inr t) =
          beside (eqb→eq p.start q.start (and_l (eqb p.start q.start) (w.before p.place q.place) t))
          (and_r (eqb p.start q.start) (w.before p.place q.place) t)

  after-in : (p q : Pair P) → After p q → T (after w p q)
  unfolding after
  after-in p q (sooner h) = or_l (ltb p.start q.start) (eqb p.start q.start && w.before p.place q.place) (lt→ltb p.start q.start h)
  after-in p q (beside x h) =
      or_r (ltb p.start q.start) (eqb p.start q.start && w.before p.place q.place)
      (and_i (eqb p.start q.start) (w.before p.place q.place) (rw x (eqb_refl q.start)) h)

module _ {P A : Type 0} (w : Ways P A) (low : P) (o : Lawful w low) where
  asymmetric : (p q : Pair P) → After w p q → After w q p → ⊥
  asymmetric p q (sooner h) (sooner k) = omega arith
  asymmetric p q (sooner h) (beside x k) = omega arith
  asymmetric p q (beside x h) (sooner k) = omega arith
  asymmetric p q (beside x h) (beside y k) = o.asym p.place q.place h k

  transitive : (p q r : Pair P) → After w p q → After w q r → After w p r
  transitive p q r (sooner h) (sooner k) = sooner (omega arith)
  transitive p q r (sooner h) (beside y k) = sooner (omega arith)
  transitive p q r (beside x h) (sooner k) = sooner (omega arith)
  transitive p q r (beside x h) (beside y k) = beside (x ∙ y) (o.trans p.place q.place r.place h k)

  -- ORDER, so each once
  pub openings-sorted : Sorted (After w) (openings_in w)
  unfolding openings_in pairs_in
  openings-sorted =
      sorted-keep (After w) (is_open w)
      (sorted-each ◌<◌ (After w) (λ s. map (pair s) w.places)
      (λ s. sorted-map (λ p q. T (w.before p q)) (After w) (pair s) (λ x y h. beside refl h) o.sorted)
      (λ s u h p q m n. sooner (ahead s u h p q m n))
      (sorted-range w.from w.starts))
    where
      ahead : (s u : ℕ) → s < u → (p q : Pair P) → p ∈ map (pair s) w.places → q ∈ map (pair u) w.places → p.start < q.start
      ahead s u h p q m n =
          let x : p.start ≡ s = ap (λ z. z.start) (map-in (pair s) w.places m).2 in
          let y : q.start ≡ u = ap (λ z. z.start) (map-in (pair u) w.places n).2 in
          omega arith

  pub rest_out : (p r : Pair P) → r ∈ openings_after w p → Open w r × After w p r
  unfolding openings_after
  rest_out p r m = let k = keep-in (after w p) (openings_in w) m in (openings-in w k.0, after-out w p r k.1)

  pub rest_in : (p r : Pair P) → Open w r → After w p r → r ∈ openings_after w p
  unfolding openings_after
  rest_in p r k l = in-keep (after w p) (in-openings w r k) (after-in w p r l)

  pub rest_sorted : (p : Pair P) → Sorted (After w) (openings_after w p)
  unfolding openings_after
  rest_sorted p = sorted-keep (After w) (after w p) openings-sorted

  rest-none : (p : Pair P) → ((r : Pair P) → Open w r → After w p r → ⊥) → openings_after w p ≡ []
  rest-none p f = go (openings_after w p) (λ r m. let k = rest_out p r m in f r k.0 k.1)
    where
      go : (xs : List (Pair P)) → ((r : Pair P) → r ∈ xs → ⊥) → xs ≡ []
      go [] g = refl
      go (x ∷ xs) g = absurd (g x (here refl))

  rest-next : (p q : Pair P) → Open w q → After w p q → ((r : Pair P) → Open w r → After w p r → (r ≡ q) ⊎ After w q r) → openings_after w p ≡ q ∷ openings_after w q
  rest-next p q k l f =
      sorted-unique (After w) asymmetric (openings_after w p) (q ∷ openings_after w q) (rest_sorted p) (next (λ y m. (rest_out q y m).1) (rest_sorted q)) to from
    where
      to : (r : Pair P) → r ∈ openings_after w p → r ∈ q ∷ openings_after w q
      to r m = let z = rest_out p r m in pick z.0 (f r z.0 z.1)
        where
          pick : Open w r → (r ≡ q) ⊎ After w q r → r ∈ q ∷ openings_after w q
          pick g (inl z) = here z
          pick g (inr z) = there (rest_in q r g z)

      from : (r : Pair P) → r ∈ q ∷ openings_after w q → r ∈ openings_after w p
      from r m = pick (cases m)
        where
          pick : (r ≡ q) ⊎ (r ∈ openings_after w q) → r ∈ openings_after w p
          pick (inl z) = rw z (rest_in p q k l)
          pick (inr n) = let z = rest_out q r n in rest_in p r z.0 (transitive p q r l z.1)

  -- two pairs between which no opening stands
  rest-same : (p q : Pair P) → ((r : Pair P) → Open w r → After w p r → After w q r) → ((r : Pair P) → Open w r → After w q r → After w p r) → openings_after w p ≡ openings_after w q
  unfolding openings_after keep
  rest-same p q f g = go (openings_in w) (λ r m. openings-in w m)
    where
      go : (l : List (Pair P)) → ((r : Pair P) → r ∈ l → Open w r) → keep (after w p) l ≡ keep (after w q) l
      go [] k = refl
      go (r ∷ l) k =
          let e : after w p r ≡ after w q r = same_bool (after w p r) (after w q r)
          (λ t. after-in w q r (f r (k r (here refl)) (after-out w p r t)))
          (λ t. after-in w p r (g r (k r (here refl)) (after-out w q r t))) in
          let n = go l (λ x m. k x (there m)) in
          rw (e, n)

  from_low : (t : ℕ) (r : Pair P) → After w (pair t low) r → t ≤ r.start
  from_low t r (sooner h) = omega arith
  from_low t r (beside x h) = omega arith

  low-from : (t : ℕ) (r : Pair P) → Open w r → t ≤ r.start → After w (pair t low) r
  low-from t r k h = go (dec_eq t r.start)
    where
      go : Dec (t ≡ r.start) → After w (pair t low) r
      go (yes e) = beside e (o.first r.place k.on-board)
      go (no n) = sooner (omega arith)

  -- behind a pair before the first start: all
  pub early : (s : ℕ) (p : P) → s < w.from → openings_after w (pair s p) ≡ openings_after w (pair w.from low)
  early s p h =
      rest-same (pair s p) (pair w.from low) (λ r k l. low-from w.from r k k.from-now)
      (λ r k l. sooner (omega (arith, from_low w.from r l)))

  -- past the last start: none
  pub over : (t : ℕ) (p : P) → w.from + w.starts ≤ t → openings_after w (pair t p) ≡ []
  over t p h = rest-none (pair t p) none?
    where
      none? : (r : Pair P) → Open w r → After w (pair t p) r → ⊥
      none? r k (sooner l) = omega (arith, k.in-time)
      none? r k (beside x l) = omega (arith, k.in-time)

  module _ (t : ℕ) (p : P) where
    same_start : (r : Pair P) → t ≡ r.start → pair t r.place ≡ r
    same_start r e = ap (λ s. pair s r.place) e

    -- the next at the same start: q, where no place between p and q is open
    pub found : (q : P) → Open w (pair t q) → T (w.before p q) → ((r : P) → Open w (pair t r) → T (w.before p r) → (r ≡ q) ⊎ T (w.before q r))
        → openings_after w (pair t p) ≡ pair t q ∷ openings_after w (pair t q)
    found q k l f = rest-next (pair t p) (pair t q) k (beside refl l) least
      where
        least : (r : Pair P) → Open w r → After w (pair t p) r → (r ≡ pair t q) ⊎ After w (pair t q) r
        least r m (sooner h) = inr (sooner h)
        least r m (beside e h) = pick (f r.place (rw (same_start r e) m) h)
          where
            pick : (r.place ≡ q) ⊎ T (w.before q r.place) → (r ≡ pair t q) ⊎ After w (pair t q) r
            pick (inl z) = inl (sym (same_start r e) ∙ ap (pair t) z)
            pick (inr z) = inr (beside e z)

    -- no place after p is open: on to the next tick
    pub next-tick : ((r : P) → Open w (pair t r) → T (w.before p r) → ⊥) → openings_after w (pair t p) ≡ openings_after w (pair (t + 1) low)
    next-tick f = rest-same (pair t p) (pair (t + 1) low) to (λ r k l. sooner (omega (arith, from_low (t + 1) r l)))
      where
        to : (r : Pair P) → Open w r → After w (pair t p) r → After w (pair (t + 1) low) r
        to r k (sooner l) = low-from (t + 1) r k (omega arith)
        to r k (beside e l) = absurd (f r.place (rw (same_start r e) k) l)

  -- TIME ALONE: what is in the way at t leaves from n on, so what is open from a start before n was open from t
  slide : (t n : ℕ) → w.from ≤ t → ((a : A) → a ∈ w.things → (p : P) → T (w.in_way t p a) → n ≤ o.leaves t p a)
      → (r : Pair P) → Open w r → t ≤ r.start → r.start < n → Open w (pair t r.place)
  unfolding is_open
  slide t n l f r k h m = record {
    from-now = l;
    in-time = omega (arith, k.in-time);
    on-board = k.on-board;
    clear = pass-none (w.in_way t r.place) w.things (λ a i. not_T (w.in_way t r.place a) (λ b. clash a i b (f a i r.place b)));
  }
    where
      clash : (a : A) → a ∈ w.things → T (w.in_way t r.place a) → n ≤ o.leaves t r.place a → ⊥
      clash a i b z =
          T_not (w.in_way r.start r.place a) (none_pass (w.in_way r.start r.place) w.things k.clear i)
          (o.stays t r.start r.place a b h (omega arith))

  -- nothing is open at t: on to where the next thing leaves
  pub next-end : (t n : ℕ) → w.from ≤ t → t < n → ((a : A) → a ∈ w.things → (p : P) → T (w.in_way t p a) → n ≤ o.leaves t p a)
      → ((r : P) → Open w (pair t r) → ⊥) → openings_after w (pair t low) ≡ openings_after w (pair n low)
  next-end t n l u f g = rest-same (pair t low) (pair n low) to (λ r k m. sooner (omega (arith, from_low n r m)))
    where
      to : (r : Pair P) → Open w r → After w (pair t low) r → After w (pair n low) r
      to r k m = go (dec_le n r.start)
        where
          go : Dec (n ≤ r.start) → After w (pair n low) r
          go (yes z) = low-from n r k z
          go (no z) = absurd (g r.place (slide t n l f r k (from_low t r m) (omega arith)))

  -- after the next opening: the rest without it
  pub next-tail : (p q : Pair P) (l : List (Pair P)) → openings_after w p ≡ q ∷ l → openings_after w p ≡ q ∷ openings_after w q
  next-tail p q l e =
      let i = rest_out p q (rw e (here refl)) in
      rest-next p q i.0 i.1 (λ r k m. least (cases (rw e at (rest_in p r k m))) (rw e at (rest_sorted p)))
    where
      least : {r : Pair P} → (r ≡ q) ⊎ (r ∈ l) → Sorted (After w) (q ∷ l) → (r ≡ q) ⊎ After w q r
      least (inl z) s = inl z
      least {r} (inr m) s = inr (Sorted·head (After w) s r m)

  -- from the first place of tick 0 on: all of them
  pub all : openings_after w (pair 0 low) ≡ openings_in w
  unfolding openings_after keep
  all = go (openings_in w) (λ r m. openings-in w m)
    where
      go : (l : List (Pair P)) → ((r : Pair P) → r ∈ l → Open w r) → keep (after w (pair 0 low)) l ≡ l
      go [] k = refl
      go (r ∷ l) k =
          let e : after w (pair 0 low) r ≡ true = same_bool (after w (pair 0 low) r) true (λ t. tt) (λ t. after-in w (pair 0 low) r (low-from 0 r (k r (here refl)) (omega arith))) in
          let n = go l (λ x m. k x (there m)) in
          rw (e, n)

  -- after the last of the first k openings: the others
  pub after-part : (k : ℕ) (p : Pair P) (ps : List (Pair P)) → openings_after w p ≡ ps → openings_after w (last_or p (take k ps)) ≡ drop k ps
  unfolding last_or
  after-part zero p ps e = e
  after-part (suc k) p [] e = e
  after-part (suc k) p (q ∷ qs) e =
      let t : openings_after w p ≡ q ∷ openings_after w q = next-tail p q qs e in
      let f : openings_after w q ≡ qs = ap (drop 1) (sym t ∙ e) in
      after-part k q qs f

  -- ASKING ON, with room for one or more, goes through all that comes after a pair, and ends
  pub asked-all : (n k : ℕ) (p : Pair P) → 1 ≤ k → length (openings_after w p) ≤ n → asked_on w n k p ≡ openings_after w p
  unfolding asked_on
  asked-all zero k p h l = none (openings_after w p) l
    where
      none : (ps : List (Pair P)) → length ps ≤ 0 → [] ≡ ps
      none [] l = refl
      none (q ∷ ps) l = absurd (omega arith)
  asked-all (suc n) k p h l =
      let ps = openings_after w p in
      let q = last_or p (take k ps) in
      let f : openings_after w q ≡ drop k ps = after-part k p ps refl in
      let m : length (openings_after w q) ≤ n = omega (arith, ap length f, length-drop k ps) in
      ap (λ x. take k ps ++ x) (asked-all n k q h m ∙ f) ∙ take-append-drop k ps

  -- THE LIST IS THE ONLY ONE: any list in order whose elements are the openings is it
  pub openings-unique : (ps : List (Pair P)) → Sorted (After w) ps → ((q : Pair P) → q ∈ ps → Open w q) → ((q : Pair P) → Open w q → q ∈ ps) → ps ≡ openings_in w
  openings-unique ps s f g =
      sorted-unique (After w) asymmetric ps (openings_in w) s openings-sorted (λ q m. in-openings w q (f q m)) (λ q m. g q (openings-in w m))
