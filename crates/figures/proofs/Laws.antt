-- FIGURES ADD UP: those of events and of events behind them are the sums of both; and no figure outgrows the events. Assumes nothing.
use Prim.Native.Nat.{ℕ, zero, suc, ◌+◌, ◌-◌, ◌*◌, ◌/◌, ◌%◌, ◌≤◌, ◌<◌}
use mathlib.Core.Path.{◌≡◌, refl, sym, ap, ap₂, ◌∙◌, subst}
use mathlib.Core.Bool.{Bool, true, false, cond}
use mathlib.Core.List.Memᴰ
use mathlib.Core.List.{List, [], ◌∷◌, ◌++◌, append_assoc}
use mathlib.Core.List.Memᴰ.{cases_cons as cases}
use mathlib.Core.List.Memᴰ.{head as here}
use mathlib.Core.List.Memᴰ.{not-nil as nowhere}
use mathlib.Core.List.Memᴰ.{tail as there}
use mathlib.Core.Logic.{◌⊎◌, inl, inr}
use native.Mathlib.Nat.{le_trans, suc-mul, mul-le-mul_right}
use native.Mathlib.Decide.{dec_lt}
use native.Mathlib.Omega.{arith}
use lib.Dec.{eqb}
use lib.ListN.{length, get_or, length-append}
use Rattle.lists.specs.Lists.{◌∈◌, keep, each, range}
use Rattle.lists.proofs.Members.{keep-in}
use Rattle.lists.proofs.Append.{keep_append}
use Rattle.laxity.specs.Laxity.{laxity, class_of}
use Rattle.sheets.specs.Sheets.{plus}
use Rattle.events.specs.declared.Event.{Event}
use Rattle.events.specs.declared.Event.TheVariants.{NewBoard, Submit, Clock, Withdraw, GridBoard}
use Rattle.figures.specs.declared.Verdict.{Verdict}
use Rattle.figures.specs.Figures.{Trial, place_of, fate_of, verdict_of, verdicts, is_of, of, came, waited_in, figures_of, sheet_with, sheet_of}
use Rattle.figures.proofs.Counting.{row-length, sheet-row, sheet-foot, sheet-length}

-- of one planner and class
of-append : (p c : ℕ) (vs ws : List Verdict) → of p c (vs ++ ws) ≡ of p c vs ++ of p c ws
unfolding of
of-append p c vs ws = keep_append (is_of p c) vs ws

came-append : (f : ℕ) (vs ws : List Verdict) → came f (vs ++ ws) ≡ came f vs + came f ws
unfolding came
came-append f vs ws = ap length (keep_append (λ v. eqb (place_of v.fate) f) vs ws) ∙ length-append (keep (λ v. eqb (place_of v.fate) f) vs) (keep (λ v. eqb (place_of v.fate) f) ws)

waited-append : (vs ws : List Verdict) → waited_in (vs ++ ws) ≡ waited_in vs + waited_in ws
unfolding waited_in
waited-append [] ws = (let y : waited_in ws ≡ 0 + waited_in ws = omega arith in y)
waited-append (v ∷ vs) ws = omega (arith, waited-append vs ws)

figures-append : (p c : ℕ) (vs ws : List Verdict) → figures_of (vs ++ ws) p c ≡ plus (figures_of vs p c) (figures_of ws p c)
unfolding figures_of plus
figures-append p c vs ws =
    rw (
      of-append p c vs ws,
      length-append (of p c vs) (of p c ws),
      came-append 0 (of p c vs) (of p c ws),
      came-append 1 (of p c vs) (of p c ws),
      came-append 2 (of p c vs) (of p c ws),
      waited-append (of p c vs) (of p c ws),
    )

plus-append : (xs ys us vs : List ℕ) → length xs ≡ length us → plus (xs ++ ys) (us ++ vs) ≡ plus xs us ++ plus ys vs
unfolding plus
plus-append [] ys [] vs h = refl
plus-append [] ys (u ∷ us) vs h = absurd (omega arith)
plus-append (x ∷ xs) ys [] vs h = absurd (omega arith)
plus-append (x ∷ xs) ys (u ∷ us) vs h = ap (λ l. (x + u) ∷ l) (plus-append xs ys us vs (omega arith))

-- row by row
rows-plus : (f g h : ℕ → List ℕ) → ((r : ℕ) → length (f r) ≡ length (g r)) → ((r : ℕ) → h r ≡ plus (f r) (g r)) → (rs : List ℕ) → plus (each rs f) (each rs g) ≡ each rs h
unfolding each plus
rows-plus f g h n e [] = refl
rows-plus f g h n e (r ∷ rs) = plus-append (f r) (each rs f) (g r) (each rs g) (n r) ∙ ap₂ (λ x y. x ++ y) (sym (e r)) (rows-plus f g h n e rs)

rows-even : (f g : ℕ → List ℕ) → ((r : ℕ) → length (f r) ≡ length (g r)) → (rs : List ℕ) → length (each rs f) ≡ length (each rs g)
unfolding each
rows-even f g n [] = refl
rows-even f g n (r ∷ rs) = omega (arith, length-append (f r) (each rs f), length-append (g r) (each rs g), n r, rows-even f g n rs)

-- FIGURES ADD UP
pub sheets-add : (vs ws : List Verdict) (a b x y : ℕ) → plus (sheet_with vs a x) (sheet_with ws b y) ≡ sheet_with (vs ++ ws) (a + b) (x + y)
unfolding sheet_with plus
sheets-add vs ws a b x y =
    plus-append (each (range 0 16) f) (came 3 vs ∷ a ∷ x ∷ []) (each (range 0 16) g) (came 3 ws ∷ b ∷ y ∷ []) (rows-even f g same (range 0 16))
    ∙ ap₂ (λ rows n. rows ++ (n ∷ (a + b) ∷ (x + y) ∷ []))
    (rows-plus f g (λ r. figures_of (vs ++ ws) (r / 4) (r % 4)) same (λ r. figures-append (r / 4) (r % 4) vs ws) (range 0 16)) (sym (came-append 3 vs ws))
  where
    f : ℕ → List ℕ
    f r = figures_of vs (r / 4) (r % 4)

    g : ℕ → List ℕ
    g r = figures_of ws (r / 4) (r % 4)

    same : (r : ℕ) → length (f r) ≡ length (g r)
    same r = row-length vs (r / 4) (r % 4) ∙ sym (row-length ws (r / 4) (r % 4))

verdicts-append : (ts us : List Trial) → verdicts (ts ++ us) ≡ verdicts ts ++ verdicts us
unfolding verdicts each
verdicts-append [] us = refl
verdicts-append (t ∷ ts) us =
    ap (λ l. verdict_of t.now t.event t.answer t.start ++ l) (verdicts-append ts us)
    ∙ sym (append_assoc (verdict_of t.now t.event t.answer t.start) (verdicts ts) (verdicts us))

pub figures-add : (m n : ℕ) (ts us : List Trial) → plus (sheet_of m ts) (sheet_of n us) ≡ sheet_of (m + n) (ts ++ us)
unfolding sheet_of
figures-add m n ts us =
    sheets-add (verdicts ts) (verdicts us) (length ts) (length us) m n
    ∙ ap₂ (λ vs k. sheet_with vs k (m + n)) (sym (verdicts-append ts us)) (sym (length-append ts us))

pub figures-length : (m : ℕ) (ts : List Trial) → length (sheet_of m ts) ≡ 83
unfolding sheet_of
figures-length m ts = sheet-length (verdicts ts) (length ts) m

-- NO FIGURE OUTGROWS THE EVENTS
few-kept : {A : Type 0} (p : A → Bool) (xs : List A) → length (keep p xs) ≤ length xs
unfolding keep
few-kept p [] = omega arith
few-kept p (x ∷ xs) = go (p x) (few-kept p xs)
  where
    go : (b : Bool) → length (keep p xs) ≤ length xs → length (cond b (x ∷ keep p xs) (keep p xs)) ≤ suc (length xs)
    go true h = omega arith
    go false h = omega arith

waited-most : (m : ℕ) (vs : List Verdict) → ((v : Verdict) → v ∈ vs → v.waited ≤ m) → waited_in vs ≤ length vs * m
unfolding waited_in
waited-most m [] h = omega arith
waited-most m (v ∷ vs) h = let y : suc (length vs) * m ≡ length vs * m + m = suc-mul (length vs) m in omega (arith, y, h v (here refl), waited-most m vs (λ u q. h u (there q)))

module _ (m : ℕ) (one : 1 ≤ m) (vs : List Verdict) (slow : (v : Verdict) → v ∈ vs → v.waited ≤ m) where
  at_most : (n : ℕ) → n ≤ length vs → n ≤ length vs * m
  at_most n h = le_trans h (at_least (length vs))
    where
      at_least : (k : ℕ) → k ≤ k * m
      at_least zero = omega arith
      at_least (suc k) = let y : suc k * m ≡ k * m + m = suc-mul k m in omega (arith, y, at_least k)

  row-most : (p c k : ℕ) → get_or (figures_of vs p c) k 0 ≤ length vs * m
  unfolding figures_of of came
  row-most p c zero = at_most (length (of p c vs)) (few-kept (is_of p c) vs)
  row-most p c (suc zero) = at_most (came 0 (of p c vs)) (le_trans (few-kept (λ v. eqb (place_of v.fate) 0) (of p c vs)) (few-kept (is_of p c) vs))
  row-most p c (suc (suc zero)) = at_most (came 1 (of p c vs)) (le_trans (few-kept (λ v. eqb (place_of v.fate) 1) (of p c vs)) (few-kept (is_of p c) vs))
  row-most p c (suc (suc (suc zero))) = at_most (came 2 (of p c vs)) (le_trans (few-kept (λ v. eqb (place_of v.fate) 2) (of p c vs)) (few-kept (is_of p c) vs))
  row-most p c (suc (suc (suc (suc zero)))) =
      le_trans (waited-most m (of p c vs) (λ v q. slow v (keep-in (is_of p c) vs q).0)) (mul-le-mul_right m (few-kept (is_of p c) vs))
  row-most p c (suc (suc (suc (suc (suc k))))) = omega arith

  pub sheet-most : (a b i : ℕ) → get_or (sheet_with vs a b) i 0 ≤ length vs * m + a + b
  unfolding came
  sheet-most a b i = go (dec_lt i 80)
    where
      foot : (k : ℕ) → get_or (came 3 vs ∷ a ∷ b ∷ []) k 0 ≤ length vs * m + a + b
      foot zero = let y = at_most (came 3 vs) (few-kept (λ v. eqb (place_of v.fate) 3) vs) in omega (arith, y)
      foot (suc zero) = omega arith
      foot (suc (suc zero)) = omega arith
      foot (suc (suc (suc k))) = omega arith

      go : Dec (i < 80) → get_or (sheet_with vs a b) i 0 ≤ length vs * m + a + b
      go (yes h) = omega (arith, sheet-row vs a b i h, row-most (i / 5 / 4) (i / 5 % 4) (i % 5))
      go (no h) =
          let e : 80 + (i - 80) ≡ i = omega arith in
          subst (λ j. get_or (sheet_with vs a b) j 0 ≤ length vs * m + a + b) e (omega (arith, sheet-foot vs a b (i - 80), foot (i - 80)))

-- a submission waits no longer than until its start
waits-until : (now : ℕ) (e : Event) (answer start : ℕ) (v : Verdict) → v ∈ verdict_of now e answer start → v.waited ≤ start
unfolding verdict_of
waits-until now (NewBoard W H) answer start v q = absurd (nowhere q)
waits-until now (Clock i) answer start v q = absurd (nowhere q)
waits-until now (Withdraw n) answer start v q = absurd (nowhere q)
waits-until now (GridBoard W H g) answer start v q = absurd (nowhere q)
waits-until now (Submit p a) answer start v q = pick (cases q)
  where
    soon : (b : Bool) → cond b (start - now) 0 ≤ start
    soon true = omega arith
    soon false = omega arith

    pick : (v ≡ record { planner = p; class = class_of (laxity now a.e a.d); fate = fate_of answer; waited = cond (eqb answer 0) (start - now) 0 }) ⊎ (v ∈ []) → v.waited ≤ start
    pick (inl e) = subst (λ n. n ≤ start) (sym (ap (λ (x : Verdict). x.waited) e)) (soon (eqb answer 0))
    pick (inr m) = absurd (nowhere m)

slow-all : (m : ℕ) (ts : List Trial) → ((t : Trial) → t ∈ ts → t.start ≤ m) → (v : Verdict) → v ∈ verdicts ts → v.waited ≤ m
unfolding verdicts each
slow-all m [] h v q = absurd (nowhere q)
slow-all m (t ∷ ts) h v q = go (λ k. slow-all m ts (λ u r. h u (there r)) v k) (Memᴰ.append_cases (verdict_of t.now t.event t.answer t.start) q)
  where
    go : (v ∈ verdicts ts → v.waited ≤ m) → (v ∈ verdict_of t.now t.event t.answer t.start) ⊎ (v ∈ verdicts ts) → v.waited ≤ m
    go next (inl k) = le_trans (waits-until t.now t.event t.answer t.start v k) (h t (here refl))
    go next (inr k) = next k

few-verdicts : (ts : List Trial) → length (verdicts ts) ≤ length ts
unfolding verdicts each verdict_of
few-verdicts [] = omega arith
few-verdicts (t ∷ ts) =
    omega (arith, length-append (verdict_of t.now t.event t.answer t.start) (verdicts ts), one t.event, few-verdicts ts)
  where
    one : (e : Event) → length (verdict_of t.now e t.answer t.start) ≤ 1
    one (NewBoard W H) = omega arith
    one (Submit p a) = omega arith
    one (Clock i) = omega arith
    one (Withdraw n) = omega arith
    one (GridBoard W H g) = omega arith

-- where no start is later than m, no figure is more than m for each event, and one for it and one for each file
pub figures-most : (m : ℕ) → 1 ≤ m → (files : ℕ) (ts : List Trial) → ((t : Trial) → t ∈ ts → t.start ≤ m)
    → (i : ℕ) → get_or (sheet_of files ts) i 0 ≤ length ts * m + length ts + files
unfolding sheet_of
figures-most m h files ts s i =
    omega (arith, sheet-most m h (verdicts ts) (slow-all m ts s) (length ts) files i, mul-le-mul_right m (few-verdicts ts))
