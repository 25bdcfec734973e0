-- What reading gives, kind by kind and case by case, and at a place of a longer list. Assumes nothing.
use Prim.Native.Nat.{ℕ, suc, ◌+◌, ◌-◌, ◌≤◌, ◌<◌}
use mathlib.Core.Path.{◌≡◌, refl, sym, ap, ◌∙◌}
use mathlib.Core.Bool.{Bool, true, false, cond}
use mathlib.Core.List.{List, [], ◌∷◌}
use native.Mathlib.Numerals.{add-one}
use native.Mathlib.Omega.{arith}
use lib.Dec.{ltb, eqb}
use lib.ListN.{length, take, drop, get_or, length-drop, drop_of_length-le}
use lib.Seq.{drop-cons, take_all}
use borrow.Author.Tests.{lt-ltb, le-ltb, ltb-true, ltb-false, ne_eqb, eqb-true, eqb-false}
use Rattle.events.specs.declared.Event.{Event}
use Rattle.std.specs.Prelude.{if◌then◌else◌, Result, Ok, Err, Some, None}
use Rattle.events.specs.declared.ReadError.{ReadError}
use Rattle.events.specs.declared.ReadError.TheVariants.{CutShort, Unknown}
use Rattle.events.specs.Records.{Reading, field, new_board_in, submit_in, clock_in, withdraw_in, grid_board_in, whole_or15, read_from}

-- the same answer is the same event and the same length
pub same-taken : {v w : Event} {m n : ℕ} → ◌≡◌ {A = Reading} (Ok (Some (v, m))) (Ok (Some (w, n))) → (v ≡ w) × (m ≡ n)
same-taken {v} {w} {m} {n} e =
    let p : ◌≡◌ {A = Event × ℕ} (v, m) (w, n) = cc in
    (ap (λ (x : Event × ℕ). x.0) p, ap (λ (x : Event × ℕ). x.1) p)

-- THE KNOWN KINDS: the kind byte, the body's length, and the event that such a body is
pub data Known : ℕ → ℕ → (List ℕ → Event) → Type 0 where
  new-board : Known 1 4 new_board_in
  submit : Known 2 17 submit_in
  clock : Known 3 4 clock_in
  withdraw : Known 4 4 withdraw_in
  grid-board : Known 5 5 grid_board_in

pub known :
    {kind n : ℕ} {f : List ℕ → Event} → Known kind n f → (body : List ℕ)
    → read_from (kind ∷ body) ≡ whole_or15 kind n body (f body)
unfolding read_from
known new-board body = refl
known submit body = refl
known clock body = refl
known withdraw body = refl
known grid-board body = refl

-- a body that is there is read; one with too few bytes is 15
pub whole : (kind n : ℕ) (body : List ℕ) (v : Event) → n ≤ length body → whole_or15 kind n body v ≡ Ok (Some (v, suc n))
unfolding whole_or15
whole kind n body v h = rw (le-ltb (length body) n h)

pub short : (kind n : ℕ) (body : List ℕ) (v : Event) → length body < n → whole_or15 kind n body v ≡ Err (CutShort kind)
unfolding whole_or15
short kind n body v h = rw (lt-ltb (length body) n h)

-- a byte that is no kind
pub record NoKind (kind : ℕ) : Type 0 where
  pub not-1 : kind ≡ 1 → ⊥
  pub not-2 : kind ≡ 2 → ⊥
  pub not-3 : kind ≡ 3 → ⊥
  pub not-4 : kind ≡ 4 → ⊥
  pub not-5 : kind ≡ 5 → ⊥

pub unknown : (kind : ℕ) → NoKind kind → (body : List ℕ) → read_from (kind ∷ body) ≡ Err (Unknown kind)
unfolding read_from
unknown kind k body = rw (
  ne_eqb kind 1 k.not-1,
  ne_eqb kind 2 k.not-2,
  ne_eqb kind 3 k.not-3,
  ne_eqb kind 4 k.not-4,
  ne_eqb kind 5 k.not-5,
)

-- WHAT READING GIVES where there is a kind byte: one of three
pub data Found (kind : ℕ) (body : List ℕ) : Reading → Type 0 where
  got : {n : ℕ} {f : List ℕ → Event} → Known kind n f → n ≤ length body → Found kind body (Ok (Some (f body, suc n)))
  cut : {n : ℕ} {f : List ℕ → Event} → Known kind n f → length body < n → Found kind body (Err (CutShort kind))
  none : NoKind kind → Found kind body (Err (Unknown kind))

either : (P : Reading → Type 0) (b : Bool) (x y : Reading) → (b ≡ true → P x) → (b ≡ false → P y) → P (cond b x y)
either P true x y p q = p refl
either P false x y p q = q refl

module _ (kind : ℕ) (body : List ℕ) where
  of-kind : (n : ℕ) (f : List ℕ → Event) → Known kind n f → Found kind body (whole_or15 kind n body (f body))
  unfolding whole_or15
  of-kind n f k =
      either (Found kind body) (ltb (length body) n) _ _ (λ e. cut k (ltb-true _ _ e)) (λ e. got k (ltb-false _ _ e))

  pub found : Found kind body (read_from (kind ∷ body))
  unfolding read_from
  found =
      either (Found kind body) (eqb kind 1) _ _ (λ e. of-kind 4 new_board_in (rw (eqb-true kind 1 e) new-board)) (λ a.
      either (Found kind body) (eqb kind 2) _ _ (λ e. of-kind 17 submit_in (rw (eqb-true kind 2 e) submit)) (λ b.
      either (Found kind body) (eqb kind 3) _ _ (λ e. of-kind 4 clock_in (rw (eqb-true kind 3 e) clock)) (λ c.
      either (Found kind body) (eqb kind 4) _ _ (λ e. of-kind 4 withdraw_in (rw (eqb-true kind 4 e) withdraw)) (λ d.
      either (Found kind body) (eqb kind 5) _ _ (λ e. of-kind 5 grid_board_in (rw (eqb-true kind 5 e) grid-board)) (λ g.
      none (record {
        not-1 = eqb-false kind 1 a;
        not-2 = eqb-false kind 2 b;
        not-3 = eqb-false kind 3 c;
        not-4 = eqb-false kind 4 d;
        not-5 = eqb-false kind 5 g;
      }))))))

-- WHAT WAS TAKEN: a kind byte with as many bytes after it as its kind fixes, and the event that they are
pub data Taken : List ℕ → Event → ℕ → Type 0 where
  taken :
      {kind n : ℕ} {f : List ℕ → Event} {body : List ℕ} → Known kind n f → n ≤ length body
      → Taken (kind ∷ body) (f body) (suc n)

pub got-taken : (l : List ℕ) (v : Event) (size : ℕ) → read_from l ≡ Ok (Some (v, size)) → Taken l v size
unfolding read_from
got-taken [] v size e = absurd (let z : ◌≡◌ {A = ℕ} 0 1 = cc in omega arith)
got-taken (kind ∷ body) v size e = of (read_from (kind ∷ body)) (found kind body) e
  where
    of : (r : Reading) → Found kind body r → r ≡ Ok (Some (v, size)) → Taken (kind ∷ body) v size
    of _ (got {n} {f} k h) q =
        let s = same-taken q in
        rw (← s.0, ← s.1) (taken k h)
    of _ (cut k h) q = absurd (let z : ◌≡◌ {A = ℕ} 0 1 = cc in omega arith)
    of _ (none k) q = absurd (let z : ◌≡◌ {A = ℕ} 0 1 = cc in omega arith)

-- at a place past the end is the end
pub past : (l : List ℕ) (at : ℕ) → length l ≤ at → read_from (drop at l) ≡ Ok None
unfolding read_from
past l at h = rw (drop_of_length-le l h)

module _ (l : List ℕ) (at : ℕ) (here : at < length l) where
  -- the kind byte stands at the place, and the body after it
  pub front : drop at l ≡ get_or l at 0 ∷ drop (at + 1) l
  front = rw (add-one, drop-cons l at 0)

  -- a body lent as the part of the list after the kind byte
  pub lent :
      {kind n : ℕ} {f : List ℕ → Event} → Known kind n f → get_or l at 0 ≡ kind
      → (let body = take (length l - (at + 1)) (drop (at + 1) l) in whole_or15 kind n body (f body)) ≡ read_from (drop at l)
  lent k e =
      let rest : length (drop (at + 1) l) ≤ length l - (at + 1) = simp length-drop (omega arith) in
      rw (front, e, known k, take_all (length l - (at + 1)) (drop (at + 1) l) rest)

-- what the one number of a body is read as, where it is there and where it is not
module _ (kind : ℕ) (body : List ℕ) (of : ℕ → Event) {r : Result ℕ ReadError} (e : r ≡ (if ltb (length body) 4 then Err (CutShort kind) else Ok (field 0 4 body))) where
  abbrev answer : Reading
  answer = whole_or15 kind 4 body (of (field 0 4 body))

  pub number-whole : {x : ℕ} → r ≡ Ok x → Ok (Some (of x, 5)) ≡ answer
  unfolding whole_or15
  number-whole {x} q = go (ltb (length body) 4) (sym q ∙ e)
    where
      go :
          (t : Bool) → Ok x ≡ (if t then Err (CutShort kind) else Ok (field 0 4 body))
          → ◌≡◌ {A = Reading} (Ok (Some (of x, 5))) (cond t (Err (CutShort kind)) (Ok (Some (of (field 0 4 body), 5))))
      go true p = absurd (let z : ◌≡◌ {A = ℕ} 0 1 = cc in omega arith)
      go false p = let k : x ≡ field 0 4 body = cc in ap (λ y. Ok (Some (of y, 5))) k

  pub number-short : {d : ReadError} → r ≡ Err d → Err d ≡ answer
  unfolding whole_or15
  number-short {d} q = go (ltb (length body) 4) (sym q ∙ e)
    where
      go :
          (t : Bool) → Err d ≡ (if t then Err (CutShort kind) else Ok (field 0 4 body))
          → ◌≡◌ {A = Reading} (Err d) (cond t (Err (CutShort kind)) (Ok (Some (of (field 0 4 body), 5))))
      go true p = let k : d ≡ CutShort kind = cc in ap (λ y. Err y) k
      go false p = absurd (let z : ◌≡◌ {A = ℕ} 0 1 = cc in omega arith)
