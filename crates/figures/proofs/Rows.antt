-- Line by line: what the loop of `figures::count_rows` has counted, and what is left. Assumes nothing.
use Prim.Native.Nat.{ℕ, suc, ◌+◌, ◌-◌, ◌*◌, ◌≤◌, ◌<◌}
use mathlib.Core.Path.{◌≡◌, refl, sym, ap, ap₂, ◌∙◌, subst}
use mathlib.Core.List.{List, [], ◌∷◌, ◌++◌, append-nil, append_assoc}
use mathlib.Core.List.Memᴰ.{cases_cons as cases}
use mathlib.Core.List.Memᴰ.{not-nil as nowhere}
use mathlib.Core.Logic.{◌⊎◌, inl, inr}
use native.Mathlib.Omega.{arith}
use lib.ListN.{length, get_or, drop, length-drop}
use lib.Seq.{drop-drop, get_or-drop}
use Rattle.lists.specs.Lists.{◌∈◌}
use Rattle.sheets.specs.Sheets.{plus}
use Rattle.sheets.proofs.Laws.{get_or-plus}
use Rattle.std.specs.Prelude.{Ok, Err, Some, None}
use Rattle.events.specs.Records.{Reading, read_from}
use Rattle.events.proofs.Calls.{taken-there}
use Rattle.events.specs.declared.Event.{Event}
use Rattle.figures.specs.Figures.{Trial, verdict_of, sheet_with, sheet_of}
use Rattle.figures.specs.Rows.{Roomy, clock_after, trial_read, clock_read, size_read, trials_in}
use Rattle.figures.proofs.Tallying.{reads-one, reads_none}
use Rattle.figures.proofs.Laws.{figures-add, figures-length, figures-most}

-- a record is there as a whole
size-there : (l : List ℕ) → size_read (read_from l) ≤ length l
size-there l = go (read_from l) refl
  where
    go : (r : Reading) → read_from l ≡ r → size_read r ≤ length l
    go (Ok None) e = unfold size_read in omega arith
    go (Ok (Some (v, n))) e = let h = (taken-there l v n e).1 in unfold size_read in h
    go (Err d) e = unfold size_read in omega arith

-- one record adds no more than its start to a figure
one-most : (now : ℕ) (r : Reading) (answer start i : ℕ) → start ≤ 4294967295 → get_or (sheet_of 0 (trial_read now r answer start)) i 0 ≤ 4294967296
unfolding trial_read
one-most now (Ok None) answer start i h = omega (arith, figures-most 1 (omega arith) 0 [] (λ t q. absurd (nowhere q)) i)
one-most now (Err e) answer start i h = omega (arith, figures-most 1 (omega arith) 0 [] (λ t q. absurd (nowhere q)) i)
one-most now (Ok (Some (v, n))) answer start i h = omega (arith, figures-most 4294967295 (omega arith) 0 (t ∷ []) (λ u q. pick u (cases q)) i)
  where
    t : Trial
    t = record { now = now; event = v; answer = answer; start = start }

    pick : (u : Trial) → (u ≡ t) ⊎ (u ∈ []) → u.start ≤ 4294967295
    pick u (inl e) = omega (arith, ap (λ (x : Trial). x.start) e)
    pick u (inr m) = absurd (nowhere m)

-- after i lines
pub record Counted (count clock : ℕ) (numbers bytes figures : List ℕ) (then at i : ℕ) : Type 0 where
  pub done : List Trial
  pub whole : trials_in count clock numbers bytes ≡ done ++ trials_in (count - i) then (drop (i * 6) numbers) (drop at bytes)
  pub sums : figures ≡ sheet_of 0 done
  pub small : (j : ℕ) → get_or figures j 0 ≤ i * 4294967296
  pub upto : i ≤ count
  pub inside : at ≤ length bytes

pub rows-begin : (count clock : ℕ) (numbers bytes : List ℕ) {figures : List ℕ} → figures ≡ sheet_of 0 [] → Counted count clock numbers bytes figures clock 0 0
rows-begin count clock numbers bytes {figures} e = record {
  done = [];
  whole = ap (λ m. trials_in m clock numbers bytes) (let y : count ≡ count - 0 = omega arith in y);
  sums = e;
  small = λ j. omega (arith, ap (λ l. get_or l j 0) e, figures-most 1 (omega arith) 0 [] (λ t q. absurd (nowhere q)) j);
  upto = omega arith;
  inside = omega arith;
}

one-row : (count now : ℕ) (numbers bytes : List ℕ) → let next = read_from bytes in
    trials_in (suc count) now numbers bytes
    ≡ trial_read now next (get_or numbers 2 0) (get_or numbers 4 0) ++ trials_in count (clock_read now next (get_or numbers 2 0)) (drop 6 numbers) (drop (size_read next) bytes)
unfolding trials_in
one-row count now numbers bytes = refl

no_rows : (now : ℕ) (numbers bytes : List ℕ) → trials_in 0 now numbers bytes ≡ []
unfolding trials_in
no_rows now numbers bytes = refl

module _ {count clock : ℕ} {numbers bytes figures : List ℕ} {then at i : ℕ} (o : Counted count clock numbers bytes figures then at i) where
  pub rows-room : i < 1000000000 → Roomy 4611686018427387903 figures
  rows-room h = record { size = ap length o.sums ∙ figures-length 0 o.done; small = λ j. omega (arith, o.small j) }

  pub record-there : {size : ℕ} → size ≡ size_read (read_from (drop at bytes)) → at + size ≤ length bytes
  record-there z = omega (arith, z, size-there (drop at bytes), length-drop at bytes, o.inside)

  pub rows_more : i < count → {answer start size later : ℕ} {after : List ℕ} → answer ≡ get_or numbers (i * 6 + 2) 0 → start ≡ get_or numbers (i * 6 + 4) 0 → start ≤ 4294967295
      → let next = read_from (drop at bytes) in size ≡ size_read next → later ≡ clock_read then next answer
      → after ≡ plus figures (sheet_of 0 (trial_read then next answer start)) → Counted count clock numbers bytes after later (at + size) (i + 1)
  rows_more h {answer} {start} {size} {later} {after} a s f z l e = record {
    done = o.done ++ here;
    whole = o.whole ∙ ap (λ x. o.done ++ x) (ap (λ m. trials_in m then (drop (i * 6) numbers) (drop at bytes)) left ∙ one-row (count - (i + 1)) then (drop (i * 6) numbers) (drop at bytes)
        ∙ ap₂ (λ x y. x ++ y) same rest) ∙ sym (append_assoc o.done here _);
    sums = e ∙ ap (λ l. plus l (sheet_of 0 here)) o.sums ∙ figures-add 0 0 o.done here;
    small = λ j. omega (arith, ap (λ l. get_or l j 0) e, get_or-plus figures (sheet_of 0 here) j even, o.small j, one-most then next answer start j f);
    upto = omega arith;
    inside = record-there z;
  }
    where
      next : Reading
      next = read_from (drop at bytes)

      here : List Trial
      here = trial_read then next answer start

      even : length figures ≡ length (sheet_of 0 here)
      even = ap length o.sums ∙ figures-length 0 o.done ∙ sym (figures-length 0 here)

      left : count - i ≡ suc (count - (i + 1))
      left = omega arith

      answers : get_or (drop (i * 6) numbers) 2 0 ≡ answer
      answers = get_or-drop (i * 6) numbers 2 0 ∙ sym a

      same : trial_read then next (get_or (drop (i * 6) numbers) 2 0) (get_or (drop (i * 6) numbers) 4 0) ≡ here
      same = ap₂ (trial_read then next) answers (get_or-drop (i * 6) numbers 4 0 ∙ sym s)

      rest : trials_in (count - (i + 1)) (clock_read then next (get_or (drop (i * 6) numbers) 2 0)) (drop 6 (drop (i * 6) numbers)) (drop (size_read next) (drop at bytes))
          ≡ trials_in (count - (i + 1)) later (drop ((i + 1) * 6) numbers) (drop (at + size) bytes)
      rest =
          ap (λ t. trials_in (count - (i + 1)) t (drop 6 (drop (i * 6) numbers)) (drop (size_read next) (drop at bytes))) (ap (clock_read then next) answers ∙ sym l)
          ∙ ap₂ (trials_in (count - (i + 1)) later)
          (drop-drop 6 (i * 6) numbers ∙ ap (λ m. drop m numbers) (let y : i * 6 + 6 ≡ (i + 1) * 6 = omega arith in y))
          (drop-drop (size_read next) at bytes ∙ ap (λ m. drop (at + m) bytes) (sym z))

  -- AN EVENT MORE
  pub rows_event : i < count → {v : Event} {size later : ℕ} {after : List ℕ} → let answer = get_or numbers (i * 6 + 2) 0 in let start = get_or numbers (i * 6 + 4) 0 in
      start ≤ 4294967295 → read_from (drop at bytes) ≡ Ok (Some (v, size)) → later ≡ clock_after then v answer
      → after ≡ plus figures (sheet_with (verdict_of then v answer start) 1 0) → Counted count clock numbers bytes after later (at + size) (i + 1)
  unfolding size_read clock_read
  rows_event h {v} {size} f r l e =
      let answer = get_or numbers (i * 6 + 2) 0 in
      let start = get_or numbers (i * 6 + 4) 0 in
      rows_more h refl refl f (ap size_read (sym r)) (l ∙ ap (λ x. clock_read then x answer) (sym r))
      (reads-one figures then v size answer start e ∙ ap (λ x. plus figures (sheet_of 0 (trial_read then x answer start))) (sym r))

  -- a line without one
  pub rows_none : i < count → get_or numbers (i * 6 + 4) 0 ≤ 4294967295 → ((v : Event) (size : ℕ) → read_from (drop at bytes) ≡ Ok (Some (v, size)) → ⊥)
      → Counted count clock numbers bytes figures then at (i + 1)
  unfolding size_read clock_read trial_read
  rows_none h f n = go (read_from (drop at bytes)) refl
    where
      none : (r : Reading) → read_from (drop at bytes) ≡ r → 0 ≡ size_read r → then ≡ clock_read then r (get_or numbers (i * 6 + 2) 0)
          → trial_read then r (get_or numbers (i * 6 + 2) 0) (get_or numbers (i * 6 + 4) 0) ≡ [] → Counted count clock numbers bytes figures then at (i + 1)
      none r e z l t =
          let same : at + 0 ≡ at = omega arith in
          subst (λ a. Counted count clock numbers bytes figures then a (i + 1)) same
          (rows_more h refl refl f (z ∙ ap size_read (sym e)) (l ∙ ap (λ x. clock_read then x (get_or numbers (i * 6 + 2) 0)) (sym e))
          (reads_none figures (ap length o.sums ∙ figures-length 0 o.done)
          ∙ ap (λ x. plus figures (sheet_of 0 x)) (sym t ∙ ap (λ x. trial_read then x (get_or numbers (i * 6 + 2) 0) (get_or numbers (i * 6 + 4) 0)) (sym e))))

      go : (r : Reading) → read_from (drop at bytes) ≡ r → Counted count clock numbers bytes figures then at (i + 1)
      go (Ok None) e = none (Ok None) e refl refl refl
      go (Ok (Some (v, size))) e = absurd (n v size e)
      go (Err d) e = none (Err d) e refl refl refl

  pub rows_end : count ≤ i → figures ≡ sheet_of 0 (trials_in count clock numbers bytes)
  rows_end h = o.sums ∙ ap (sheet_of 0) (sym (o.whole ∙ ap (λ x. o.done ++ x) none_left ∙ append-nil o.done))
    where
      none_left : trials_in (count - i) then (drop (i * 6) numbers) (drop at bytes) ≡ []
      none_left =
          ap (λ m. trials_in m then (drop (i * 6) numbers) (drop at bytes)) (let y : count - i ≡ 0 = omega arith in y) ∙ no_rows then (drop (i * 6) numbers) (drop at bytes)
