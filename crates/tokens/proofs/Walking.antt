-- The words of a text one by one: blanks before a word say nothing, and a word ends at the first blank behind it. Assumes nothing.
use Prim.Native.Nat.{ℕ, ◌+◌}
use mathlib.Core.Path.{◌≡◌, refl, sym, ap, ◌∙◌}
use mathlib.Core.Bool.{Bool, true, false, cond, not}
use mathlib.Core.List.{List, [], ◌∷◌, ◌++◌, append-nil, append_assoc}
use native.Mathlib.Numerals.{add-one}
use lib.ListN.{take, drop}
use Rattle.std.proofs.lemmas.List.{take-append-drop}
use Rattle.lists.specs.Lists.{index_of}
use Rattle.tokens.specs.Tokens.{blank, ended, words_on, words, first_word, other_words}

-- where the first blank stands, and the first byte that is none
abbrev pub to_blank : List ℕ → ℕ
to_blank xs = index_of (λ b. blank b) xs

abbrev pub to_solid : List ℕ → ℕ
to_solid xs = index_of (λ b. not (blank b)) xs

-- blanks before a word
skipped : (xs : List ℕ) → words xs ≡ words (drop (to_solid xs) xs)
unfolding words words_on ended index_of
skipped [] = refl
skipped (x ∷ xs) = go (skipped xs) (blank x) refl
  where
    go : words xs ≡ words (drop (to_solid xs) xs) → (t : Bool) → blank x ≡ t
        → cond t (words_on [] xs) (words_on ([] ++ (x ∷ [])) xs) ≡ words_on [] (drop (cond (not t) 0 (to_solid xs + 1)) (x ∷ xs))
    go more true e = rw add-one more
    go more false e = rw e

-- a word that has begun ends at the first blank
begun : (w xs : List ℕ) → words_on w xs ≡ ended (w ++ take (to_blank xs) xs) (words (drop (to_blank xs) xs))
unfolding words words_on index_of
begun w [] = rw append-nil (unfold ended in refl)
begun w (x ∷ xs) = go (begun (w ++ (x ∷ [])) xs) (blank x) refl
  where
    go : words_on (w ++ (x ∷ [])) xs ≡ ended ((w ++ (x ∷ [])) ++ take (to_blank xs) xs) (words (drop (to_blank xs) xs)) → (t : Bool) → blank x ≡ t
        → cond t (ended w (words_on [] xs)) (words_on (w ++ (x ∷ [])) xs)
        ≡ ended (w ++ take (cond t 0 (to_blank xs + 1)) (x ∷ xs)) (words_on [] (drop (cond t 0 (to_blank xs + 1)) (x ∷ xs)))
    go more true e = rw (append-nil, e) (unfold ended in refl)
    go more false e = more ∙ rw (add-one, append_assoc)

-- where no byte is left before the first blank, there was none at all
none_left : (xs : List ℕ) → take (to_blank (drop (to_solid xs) xs)) (drop (to_solid xs) xs) ≡ [] → drop (to_solid xs) xs ≡ []
unfolding index_of
none_left [] = λ e. refl
none_left (x ∷ xs) = go (none_left xs) (blank x) refl
  where
    go : (take (to_blank (drop (to_solid xs) xs)) (drop (to_solid xs) xs) ≡ [] → drop (to_solid xs) xs ≡ []) → (t : Bool) → blank x ≡ t
        → take (to_blank (drop (cond (not t) 0 (to_solid xs + 1)) (x ∷ xs))) (drop (cond (not t) 0 (to_solid xs + 1)) (x ∷ xs)) ≡ []
        → drop (cond (not t) 0 (to_solid xs + 1)) (x ∷ xs) ≡ []
    go more true b = rw add-one more
    go more false b = λ e. absurd (let f = rw (b, add-one) at e in cc)

-- a word and what stands behind it: nothing where it has no byte
split_words : (w rest : List ℕ) → (w ≡ [] → rest ≡ []) → (first_word (ended w (words rest)) ≡ w) × (other_words (ended w (words rest)) ≡ words rest)
unfolding first_word other_words ended words words_on
split_words [] rest h = rw (h refl) (refl, refl)
split_words (b ∷ bs) rest h = (refl, refl)

-- what the code finds: where the first byte that is no blank stands, and how many bytes the word has
pub record Found (l word behind : List ℕ) : Type 0 where
  pub word-is : word ≡ take (to_blank (drop (to_solid l) l)) (drop (to_solid l) l)
  pub behind-is : behind ≡ drop (to_blank (drop (to_solid l) l)) (drop (to_solid l) l)

module _ {l word behind : List ℕ} (f : Found l word behind) where
  pub nothing-behind : word ≡ [] → behind ≡ []
  unfolding index_of
  nothing-behind e = let none : drop (to_solid l) l ≡ [] = none_left l (sym f.word-is ∙ e) in f.behind-is ∙ rw none refl

  parted : words l ≡ ended word (words behind)
  unfolding words
  parted = skipped l ∙ begun [] (drop (to_solid l) l) ∙ rw (f.word-is, f.behind-is) refl

  -- THE FIRST WORD, and the others
  pub is-first : word ≡ first_word (words l)
  is-first = sym (ap first_word parted ∙ (split_words word behind nothing-behind).0)

  pub are-others : words behind ≡ other_words (words l)
  are-others = sym (ap other_words parted ∙ (split_words word behind nothing-behind).1)

  pub all-parts : l ≡ take (to_solid l) l ++ (word ++ behind)
  all-parts =
      sym (ap (λ t. take (to_solid l) l ++ t) (rw (f.word-is, f.behind-is) (take-append-drop (to_blank (drop (to_solid l) l)) (drop (to_solid l) l))) ∙ take-append-drop (to_solid l) l)

the-found : (l : List ℕ) → Found l (take (to_blank (drop (to_solid l) l)) (drop (to_solid l) l)) (drop (to_blank (drop (to_solid l) l)) (drop (to_solid l) l))
the-found l = record { word-is = refl; behind-is = refl }

-- where the first word has no byte there is none
pub no_word : (l : List ℕ) → first_word (words l) ≡ [] → words l ≡ []
unfolding ended words words_on
no_word l e =
    let f = the-found l in
    let none = is-first f ∙ e in
    parted f ∙ rw (none, nothing-behind f none)
