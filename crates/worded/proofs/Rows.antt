-- Lines in words, row by row: what the loop of `worded::put_rows` has put, and what is left. Assumes nothing.
use Prim.Native.Nat.{ℕ, suc, ◌+◌, ◌-◌, ◌*◌, ◌≤◌, ◌<◌}
use mathlib.Core.Path.{◌≡◌, refl, sym, ap, ap₂, ◌∙◌, subst}
use mathlib.Core.List.{List, [], ◌∷◌, ◌++◌, append-nil, append_assoc}
use native.Mathlib.Omega.{arith}
use lib.ListN.{length, get_or, take, drop, length-drop}
use lib.Seq.{drop-drop, get_or-take}
use Rattle.text.specs.Text.{decimal}
use Rattle.text.specs.Digits.{Put, spaced}
use Rattle.text.proofs.Spelling.{put_both, line-end, line-more}
use Rattle.text.proofs.Rows.{line-rest}
use Rattle.answer_words.specs.AnswerWords.{answer_words}
use Rattle.std.specs.Prelude.{Option, Some, None, Ok, Err}
use Rattle.events.specs.Records.{Reading, read_from}
use Rattle.events.proofs.Calls.{taken-there}
use Rattle.worded.specs.declared.Name.{Name}
use Rattle.worded.specs.Worded.{id_text}
use Rattle.worded.specs.Rows.{worded_row, id_read, size_read, worded_rows}

-- an id that is named, and none
pub named : {id : Option ℕ} {n : ℕ} → id ≡ Some n → {l m : List ℕ} {at p : ℕ} → Put l at (decimal n ++ (32 ∷ [])) m p → Put l at (id_text id ++ (32 ∷ [])) m p
unfolding id_text
named e p = rw e p

pub not_named : {id : Option ℕ} → id ≡ None → {l m : List ℕ} {at p : ℕ} → Put l at (45 ∷ 32 ∷ []) m p → Put l at (id_text id ++ (32 ∷ [])) m p
unfolding id_text
not_named e p = rw e p

-- a line put part by part
pub row_put : {l m k i j e : List ℕ} {at p q r s t : ℕ} (row : List ℕ) (answer : ℕ) (id : Option ℕ) → Put l at (spaced row) m p → Put m p (id_text id ++ (32 ∷ [])) k q
    → Put k q (decimal answer ++ (32 ∷ [])) i r → Put i r (answer_words answer) j s → Put j s (10 ∷ []) e t → Put l at (worded_row row answer id) e t
unfolding worded_row
row_put row answer id a b c d n =
    line-rest row (id_text id) (decimal answer ∷ answer_words answer ∷ []) a
    (line-more (id_text id) (decimal answer) (answer_words answer ∷ []) b
    (line-more (decimal answer) (answer_words answer) [] c
    (line-end (answer_words answer) (put_both d n))))

-- a record is there as a whole
size-there : (l : List ℕ) → size_read (read_from l) ≤ length l
size-there l = go (read_from l) refl
  where
    go : (r : Reading) → read_from l ≡ r → size_read r ≤ length l
    go (Ok None) e = unfold size_read in omega arith
    go (Ok (Some (v, n))) e = let h = (taken-there l v n e).1 in unfold size_read in h
    go (Err d) e = unfold size_read in omega arith

-- after i lines
pub record Rowed (count : ℕ) (numbers bytes lent out : List ℕ) (place at i : ℕ) : Type 0 where
  pub done : List ℕ
  pub whole : worded_rows count numbers bytes ≡ done ++ worded_rows (count - i) (drop (i * 6) numbers) (drop at bytes)
  pub put : Put lent 0 done out place
  pub upto : i ≤ count
  pub within : place ≤ i * 134
  pub inside : at ≤ length bytes
  pub size : length out ≡ length lent

pub rows-begin : (count : ℕ) (numbers bytes lent : List ℕ) → Rowed count numbers bytes lent lent 0 0 0
rows-begin count numbers bytes lent = record {
  done = [];
  whole = ap (λ m. worded_rows m numbers bytes) (let y : count ≡ count - 0 = omega arith in y);
  put = record { stored = refl; place = refl };
  upto = omega arith;
  within = omega arith;
  inside = omega arith;
  size = refl;
}

rows-one : (count : ℕ) (numbers bytes : List ℕ)
    → worded_rows (suc count) numbers bytes ≡ worded_row (take 6 numbers) (get_or numbers 2 0) (id_read (read_from bytes)) ++ worded_rows count (drop 6 numbers) (drop (size_read (read_from bytes)) bytes)
unfolding worded_rows
rows-one count numbers bytes = refl

zero-rows : (numbers bytes : List ℕ) → worded_rows 0 numbers bytes ≡ []
unfolding worded_rows
zero-rows numbers bytes = refl

module _ {count : ℕ} {numbers bytes lent out : List ℕ} {place at i : ℕ} (o : Rowed count numbers bytes lent out place at i) where
  pub rows_more : i < count → (name : Name) → name.id ≡ id_read (read_from (drop at bytes)) → name.size ≡ size_read (read_from (drop at bytes))
      → {after : List ℕ} {past : ℕ} → Put out place (worded_row (take 6 (drop (i * 6) numbers)) (get_or (take 6 (drop (i * 6) numbers)) 2 0) name.id) after past
      → past ≤ place + 134 → length after ≡ length out → Rowed count numbers bytes lent after past (at + name.size) (i + 1)
  rows_more h name n z {after} {past} p b s = record {
    done = o.done ++ row;
    whole = o.whole ∙ ap (λ x. o.done ++ x) (ap (λ m. worded_rows m (drop (i * 6) numbers) (drop at bytes)) left ∙ rows-one (count - (i + 1)) (drop (i * 6) numbers) (drop at bytes)
        ∙ ap₂ (λ x y. x ++ y) here next) ∙ sym (append_assoc o.done row _);
    put = put_both o.put p;
    upto = omega arith;
    within = omega (arith, o.within, more);
    inside = omega (arith, z, size-there (drop at bytes), length-drop at bytes, o.inside);
    size = s ∙ o.size;
  }
    where
      row : List ℕ
      row = worded_row (take 6 (drop (i * 6) numbers)) (get_or (take 6 (drop (i * 6) numbers)) 2 0) name.id

      more : (i + 1) * 134 ≡ i * 134 + 134
      more = omega arith

      left : count - i ≡ suc (count - (i + 1))
      left = omega arith

      here : worded_row (take 6 (drop (i * 6) numbers)) (get_or (drop (i * 6) numbers) 2 0) (id_read (read_from (drop at bytes))) ≡ row
      here = ap₂ (λ a d. worded_row (take 6 (drop (i * 6) numbers)) a d) (sym (get_or-take 6 (drop (i * 6) numbers) 2 0 (omega arith))) (sym n)

      next : worded_rows (count - (i + 1)) (drop 6 (drop (i * 6) numbers)) (drop (size_read (read_from (drop at bytes))) (drop at bytes))
          ≡ worded_rows (count - (i + 1)) (drop ((i + 1) * 6) numbers) (drop (at + name.size) bytes)
      next =
          ap₂ (worded_rows (count - (i + 1)))
          (drop-drop 6 (i * 6) numbers ∙ ap (λ m. drop m numbers) (let y : i * 6 + 6 ≡ (i + 1) * 6 = omega arith in y))
          (drop-drop (size_read (read_from (drop at bytes))) at bytes ∙ ap (λ m. drop (at + m) bytes) (sym z))

  pub record-there : {size : ℕ} → size ≡ size_read (read_from (drop at bytes)) → at + size ≤ length bytes
  record-there z = omega (arith, z, size-there (drop at bytes), length-drop at bytes, o.inside)

  pub rows_end : count ≤ i → Put lent 0 (worded_rows count numbers bytes) out place
  rows_end h = subst (λ x. Put lent 0 x out place) (sym (o.whole ∙ ap (λ x. o.done ++ x) none_left ∙ append-nil o.done)) o.put
    where
      none_left : worded_rows (count - i) (drop (i * 6) numbers) (drop at bytes) ≡ []
      none_left = ap (λ m. worded_rows m (drop (i * 6) numbers) (drop at bytes)) (let y : count - i ≡ 0 = omega arith in y) ∙ zero-rows (drop (i * 6) numbers) (drop at bytes)
