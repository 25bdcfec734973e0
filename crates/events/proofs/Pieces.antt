-- Reading where more bytes follow: a whole record stays what it was, and no record is longer than 18 bytes. Assumes nothing.
use Prim.Native.Nat.{ℕ, suc, ◌+◌, ◌≤◌}
use mathlib.Core.Path.{◌≡◌, refl, sym, ap, ◌∙◌}
use mathlib.Core.List.{List, [], ◌∷◌, ◌++◌}
use mathlib.Core.Bool.{Bool, true, false, cond}
use native.Mathlib.Omega.{arith}
use lib.Dec.{ltb}
use lib.ListN.{length, take, drop, length-append, length-take, length-drop, take-append-drop}
use lib.Seq.{take-append-le, drop-append-le, take_all}
use Rattle.events.specs.declared.Event.{Event}
use Rattle.events.specs.declared.Event.TheVariants.{NewBoard, Submit, Clock, Withdraw, GridBoard}
use Rattle.std.specs.Prelude.{Ok, Err, Some, None}
use Rattle.events.specs.Records.{Reading}
use Rattle.events.specs.declared.ReadError.TheVariants.{CutShort, Unknown}
use Rattle.events.specs.Records.{number_of, field, whole_or15, read_from}
use Rattle.events.proofs.Calls.{taken-there}
use Rattle.events.proofs.Found.{same-taken, Known, new-board, submit, clock, withdraw, grid-board, known, whole, unknown, Found, got, cut, none, found, Taken, taken, got-taken}

-- a field that is there
field-there : (at n : ℕ) (l more : List ℕ) → at + n ≤ length l → field at n (l ++ more) ≡ field at n l
field-there at n l more h =
    ap (λ x. number_of (take n x)) (drop-append-le at l more (omega arith))
    ∙ ap number_of (take-append-le n (drop at l) more (omega (arith, length-drop at l)))

-- an event is what its own bytes are, whatever follows them
event-there : {kind n : ℕ} {f : List ℕ → Event} → Known kind n f → (body more : List ℕ) → n ≤ length body → f (body ++ more) ≡ f body
event-there new-board body more h = λ i. NewBoard (field-there 0 2 body more (omega arith) i) (field-there 2 2 body more (omega arith) i)
event-there submit body more h = λ i. Submit (field-there 0 1 body more (omega arith) i) (record {
  id = field-there 1 4 body more (omega arith) i;
  e = field-there 9 4 body more (omega arith) i;
  d = field-there 13 4 body more (omega arith) i;
  w = field-there 5 2 body more (omega arith) i;
  h = field-there 7 2 body more (omega arith) i;
})
event-there clock body more h = λ i. Clock (field-there 0 4 body more (omega arith) i)
event-there withdraw body more h = λ i. Withdraw (field-there 0 4 body more (omega arith) i)
event-there grid-board body more h = λ i. GridBoard
    (field-there 0 2 body more (omega arith) i)
    (field-there 2 2 body more (omega arith) i)
    (field-there 4 1 body more (omega arith) i)

-- A WHOLE RECORD stays what it was, whatever follows it
pub got-longer : (l more : List ℕ) (v : Event) (size : ℕ) → read_from l ≡ Ok (Some (v, size)) → read_from (l ++ more) ≡ Ok (Some (v, size))
got-longer l more v size e = of (got-taken l v size e)
  where
    of : {l : List ℕ} {v : Event} {size : ℕ} → Taken l v size → read_from (l ++ more) ≡ Ok (Some (v, size))
    of (taken {kind} {n} {f} {body} k h) =
        known k (body ++ more) ∙ whole kind n (body ++ more) _ (omega (arith, length-append body more))
        ∙ ap (λ v. Ok (Some (v, suc n))) (event-there k body more h)

whole-size : (kind n : ℕ) (body : List ℕ) (w v : Event) (size : ℕ) → whole_or15 kind n body w ≡ Ok (Some (v, size)) → size ≡ suc n
unfolding whole_or15
whole-size kind n body w v size = go (ltb (length body) n)
  where
    go : (t : Bool) → cond {A = Reading} t (Err (CutShort kind)) (Ok (Some (w, suc n))) ≡ Ok (Some (v, size)) → size ≡ suc n
    go true e = absurd (let z : ◌≡◌ {A = ℕ} 0 1 = cc in omega arith)
    go false e = sym (same-taken e).1

-- and it was there where its own bytes were
pub got-shorter : (l more : List ℕ) (v : Event) (size : ℕ) → size ≤ length l → read_from (l ++ more) ≡ Ok (Some (v, size)) → read_from l ≡ Ok (Some (v, size))
got-shorter [] more v size h e = absurd (let p = taken-there more v size e in omega (arith, p.0))
got-shorter (kind ∷ body) more v size h e = go (read_from (kind ∷ body)) (found kind body) refl
  where
    go : (r : Reading) → Found kind body r → read_from (kind ∷ body) ≡ r → read_from (kind ∷ body) ≡ Ok (Some (v, size))
    go _ (got {n} {f} k q) x = x ∙ sym (got-longer (kind ∷ body) more _ _ x) ∙ e
    go _ (none k) x = let z : ◌≡◌ {A = Reading} (Err (Unknown kind)) (Ok (Some (v, size))) = sym (unknown kind k (body ++ more)) ∙ e in absurd (let w : ◌≡◌ {A = ℕ} 0 1 = cc in omega arith)
    go _ (cut {n} {f} k q) x =
        let z = whole-size kind n (body ++ more) (f (body ++ more)) v size (sym (known k (body ++ more)) ∙ e) in
        absurd (omega arith)

-- no byte is the end
end-of-none : ◌≡◌ {A = Reading} (Ok None) (read_from [])
unfolding read_from
end-of-none = refl

-- an unknown kind stays unknown
pub unknown-longer : (l more : List ℕ) (k : ℕ) → read_from l ≡ Err (Unknown k) → read_from (l ++ more) ≡ Err (Unknown k)
unknown-longer [] more k e = absurd (let z : ◌≡◌ {A = Reading} (Ok None) (Err (Unknown k)) = end-of-none ∙ e in let w : ◌≡◌ {A = ℕ} 0 1 = cc in omega arith)
unknown-longer (kind ∷ body) more k e = go (read_from (kind ∷ body)) (found kind body) e
  where
    go : (r : Reading) → Found kind body r → r ≡ Err (Unknown k) → read_from (kind ∷ body ++ more) ≡ Err (Unknown k)
    go _ (got q h) x = absurd (let w : ◌≡◌ {A = ℕ} 0 1 = cc in omega arith)
    go _ (cut q h) x = absurd (let w : ◌≡◌ {A = ℕ} 0 1 = cc in omega arith)
    go _ (none q) x = unknown kind q (body ++ more) ∙ x

-- a body of a known kind is 17 bytes at most
body-few : {kind n : ℕ} {f : List ℕ → Event} → Known kind n f → n ≤ 17
body-few new-board = omega arith
body-few submit = omega arith
body-few clock = omega arith
body-few withdraw = omega arith
body-few grid-board = omega arith

-- THE BEGIN OF A RECORD: no whole one, and of no unknown kind
pub record Begun (l : List ℕ) : Type 0 where
  pub not-whole : (v : Event) (n : ℕ) → read_from l ≡ Ok (Some (v, n)) → ⊥
  pub no-stranger : (k : ℕ) → read_from l ≡ Err (Unknown k) → ⊥

pub begun-few : (l : List ℕ) → Begun l → length l ≤ 17
begun-few [] b = omega arith
begun-few (kind ∷ body) b = go (read_from (kind ∷ body)) (found kind body) refl
  where
    go : (r : Reading) → Found kind body r → read_from (kind ∷ body) ≡ r → suc (length body) ≤ 17
    go _ (got q h) e = absurd (b.not-whole _ _ e)
    go _ (none q) e = absurd (b.no-stranger _ e)
    go _ (cut q h) e = let k = body-few q in omega arith

-- NO RECORD IS LONGER THAN 18 BYTES: the first 18 say what all say
pub read-18 : (l : List ℕ) → read_from (take 18 l) ≡ read_from l
read-18 l = go (read_from (take 18 l)) refl
  where
    whole-list : take 18 l ++ drop 18 l ≡ l
    whole-list = take-append-drop 18 l

    all : length (take 18 l) ≤ 17 → read_from (take 18 l) ≡ read_from l
    all h = ap read_from (take_all 18 l (omega (arith, length-take 18 l)))

    no-got : (r : Reading) → read_from (take 18 l) ≡ r → ((v : Event) (n : ℕ) → r ≡ Ok (Some (v, n)) → ⊥) → ((k : ℕ) → r ≡ Err (Unknown k) → ⊥) → read_from (take 18 l) ≡ read_from l
    no-got r e f g = all (begun-few (take 18 l) (record { not-whole = λ v n q. f v n (sym e ∙ q); no-stranger = λ k q. g k (sym e ∙ q) }))

    go : (r : Reading) → read_from (take 18 l) ≡ r → read_from (take 18 l) ≡ read_from l
    go (Ok (Some (v, n))) e = e ∙ sym (got-longer (take 18 l) (drop 18 l) v n e) ∙ ap read_from whole-list
    go (Err (Unknown k)) e = e ∙ sym (unknown-longer (take 18 l) (drop 18 l) k e) ∙ ap read_from whole-list
    go (Ok None) e = no-got (Ok None) e (λ v n q. let w : ◌≡◌ {A = ℕ} 0 1 = cc in omega arith) (λ k q. let w : ◌≡◌ {A = ℕ} 0 1 = cc in omega arith)
    go (Err (CutShort k)) e = no-got (Err (CutShort k)) e (λ v n q. let w : ◌≡◌ {A = ℕ} 0 1 = cc in omega arith) (λ k q. let w : ◌≡◌ {A = ℕ} 0 1 = cc in omega arith)
