-- Numbers read word by word, one for each limit: what is read so far, and what the rest then says. Assumes nothing.
use Prim.Native.Nat.{ℕ, zero, suc, ◌+◌, ◌≤◌, ◌<◌}
use mathlib.Core.Path.{◌≡◌, refl, sym, ap, ◌∙◌}
use mathlib.Core.Bool.{true, false}
use mathlib.Core.List.{List, [], ◌∷◌}
use native.Mathlib.Omega.{arith}
use native.Mathlib.Numerals.{add-one}
use lib.ListN.{length, drop, get_or, set, replicate, length-set, length-replicate, drop_of_length-le}
use lib.Seq.{drop-cons, drop-drop, get_or-drop}
use Rattle.lists.proofs.Append.{stored}
use Rattle.text.specs.Text.{value}
use Rattle.tokens.proofs.Judged.{fits-most}
use Rattle.tokens.specs.Tokens.{first_word, other_words, empty, fits, wrong, nth}
use Rattle.tokens.specs.Walks.{Numbers, FirstWrong}

-- the numbers of the first i words stand in the array, and the other words decide the rest
pub record Sofar (ws : List (List ℕ)) (mosts values : List ℕ) (rest : List (List ℕ)) (i : ℕ) : Type 0 where
  pub size : length mosts ≤ length values
  pub left : drop i ws ≡ rest
  pub judged : wrong 1 mosts ws ≡ wrong (i + 1) (drop i mosts) rest
  pub read : (k : ℕ) → k < i → get_or values k 0 ≡ nth k ws
  pub small : (k : ℕ) → k < length mosts → get_or values k 0 ≤ get_or mosts k 0

zeros-at : (n k : ℕ) → ◌≡◌ {A = ℕ} (get_or (replicate n 0) k 0) 0
zeros-at zero k = refl
zeros-at (suc n) zero = refl
zeros-at (suc n) (suc k) = zeros-at n k

-- nothing read yet
pub sofar-none : (ws : List (List ℕ)) (mosts : List ℕ) (n : ℕ) → length mosts ≤ n → Sofar ws mosts (replicate n 0) ws 0
sofar-none ws mosts n e =
    record {
      size = omega (arith, e, length-replicate {A = ℕ} n 0);
      left = refl;
      judged = refl;
      read = λ k b. absurd (omega arith);
      small = λ k b. rw (zeros-at n k) (omega arith);
    }

-- a first word that is a number is there
some-word : (m : ℕ) (ws : List (List ℕ)) → fits m (first_word ws) ≡ true → ws ≡ first_word ws ∷ other_words ws
unfolding fits empty first_word other_words
some-word m [] e = absurd (let z : ◌≡◌ {A = ℕ} 0 1 = cc in omega arith)
some-word m (w ∷ ws) e = refl

module _ {ws : List (List ℕ)} {mosts values : List ℕ} {rest : List (List ℕ)} {i : ℕ} (so : Sofar ws mosts values rest i) where
  -- ONE NUMBER MORE
  pub sofar-one : i < length mosts → fits (get_or mosts i 0) (first_word rest) ≡ true
      → {v : ℕ} → v ≡ value 0 (first_word rest) → Sofar ws mosts (set values i v) (other_words rest) (i + 1)
  unfolding wrong nth
  sofar-one h f {v} e =
      let room : i < length values = omega (arith, so.size) in
      let small : v ≤ get_or mosts i 0 = omega (arith, fits-most (get_or mosts i 0) (first_word rest) f) in
      let s : rest ≡ first_word rest ∷ other_words rest = some-word (get_or mosts i 0) rest f in
      let here : drop i ws ≡ first_word rest ∷ other_words rest = so.left ∙ s in
      let zero_more : i + 0 ≡ i = omega arith in
      record {
        size = omega (arith, so.size, length-set values i v);
        left = sym (drop-drop 1 i ws) ∙ ap (drop 1) here;
        judged = so.judged ∙ ap (λ t. wrong (i + 1) t rest) (drop-cons mosts i 0 h) ∙ ap (wrong (i + 1) (get_or mosts i 0 ∷ drop (suc i) mosts)) s ∙ rw (f, add-one i);
        read = λ n b.
            stored (λ x. x ≡ nth n ws) values i v n 0 room
            (λ same. e ∙ ap (value 0) (sym (ap (λ t. get_or t 0 []) here) ∙ get_or-drop i ws 0 [] ∙ ap (λ j. get_or ws j []) (zero_more ∙ sym same)))
            (λ other. so.read n (omega arith));
        small = λ n b. stored (λ x. x ≤ get_or mosts n 0) values i v n 0 room (λ same. rw same small) (λ other. so.small n b);
      }

  -- A WORD THAT IS NO SUCH NUMBER, or none at all
  pub stops-here : i < length mosts → fits (get_or mosts i 0) (first_word rest) ≡ false → FirstWrong ws mosts (i + 1)
  unfolding wrong first_word
  stops-here h f =
      record {
        told = sym (so.judged ∙ ap (λ t. wrong (i + 1) t rest) (drop-cons mosts i 0 h) ∙ go rest f);
        some = omega arith;
        few = omega arith;
      }
    where
      go : (ws : List (List ℕ)) → fits (get_or mosts i 0) (first_word ws) ≡ false → wrong (i + 1) (get_or mosts i 0 ∷ drop (suc i) mosts) ws ≡ i + 1
      go [] e = refl
      go (w ∷ ws) e = rw e

  -- ALL OF THEM, and no word more
  pub all_read : length mosts ≡ i → rest ≡ [] → Numbers ws mosts values
  unfolding wrong
  all_read h e =
      record {
        right = let past : length mosts ≤ i = omega arith in so.judged ∙ rw (drop_of_length-le mosts past, e);
        read = λ k c. so.read k (omega arith);
        small = so.small;
      }

  -- a word too many
  pub too_many : length mosts ≡ i → empty (first_word rest) ≡ false → FirstWrong ws mosts (i + 1)
  unfolding wrong empty first_word
  too_many h e =
      record {
        told = let past : length mosts ≤ i = omega arith in sym (so.judged ∙ rw (drop_of_length-le mosts past) (go rest e));
        some = omega arith;
        few = omega arith;
      }
    where
      go : (ws : List (List ℕ)) → empty (first_word ws) ≡ false → wrong (i + 1) [] ws ≡ i + 1
      go [] e = absurd (let z : ◌≡◌ {A = ℕ} 0 1 = cc in omega arith)
      go (w ∷ ws) e = refl
