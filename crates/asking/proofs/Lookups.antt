-- What the lookups of a board answer, as rows of text: the horizon, and the openings from a page on. Assumes nothing.
use Prim.Native.Nat.{ℕ, zero, suc, ◌-◌, ◌*◌, ◌/◌, ◌≤◌, min}
use mathlib.Core.Path.{◌≡◌, refl, sym, ap, ap₂, ◌∙◌}
use mathlib.Core.Bool.{false, not}
use mathlib.Core.List.{List, [], ◌∷◌, ◌++◌, map, append_assoc}
use native.Mathlib.Omega.{arith}
use borrow.Author.Tests.{le-ltb, ltb-false}
use lib.Dec.{ltb}
use lib.ListN.{length, take, drop, get_or, length-take, take-append-drop}
use lib.Seq.{drop-append-le}
use Rattle.std.proofs.Common.{Some}
use Rattle.lists.specs.Lists.{last_or, over_front}
use Rattle.planners.specs.Openings.{Place, pair_numbers}
use Rattle.lookups.specs.Lookups.{Strip, strip_numbers}
use Rattle.board.specs.declared.Board.{Board}
use Rattle.board.specs.declared.Listed.{Listed}
use Rattle.board.specs.declared.Opened.{Opened}
use Rattle.board.specs.Refusals.{sound_board, horizon_of, refused_horizon, refused_openings}
use Rattle.refusals.specs.Refusals.{horizon_tests}
use Rattle.refusals.proofs.First.{none-holds}
use Rattle.lists.proofs.Bools.{is_false}
use Rattle.board.specs.Calls.{or_refused, remaining, opened, opened_buffer, listed, listed_buffer}
use Rattle.text.specs.Text.{rows_text, rows_of}
use Rattle.questions.specs.declared.Question.TheVariants as Asked
use Rattle.asking.specs.declared.Page.{Page}
use Rattle.asking.specs.Asking.{strip_row, place_row, horizon_words, replied, answered}
use Rattle.asking.specs.Machine.{left_to, page_rows}
use Rattle.asking.proofs.Copies.{replied-same}

-- the rows of three words, and those of two
strip-rows : (ss : List Strip) (rest : List ℕ) → rows_of 3 (length ss) (strip_numbers ss ++ rest) ≡ map strip_row ss
unfolding rows_of strip_numbers
strip-rows [] rest = refl
strip-rows (s ∷ ss) rest = ap (λ rows. strip_row s ∷ rows) (strip-rows ss rest)

pub place-rows : (ps : List Place) (rest : List ℕ) → rows_of 2 (length ps) (pair_numbers ps ++ rest) ≡ map place_row ps
unfolding rows_of pair_numbers
place-rows [] rest = refl
place-rows (p ∷ ps) rest = ap (λ rows. place_row p ∷ rows) (place-rows ps rest)

-- the last of them
pub last-pair : (d : Place) (ps : List Place) (rest : List ℕ) (n : ℕ) → suc n ≡ length ps
    → (get_or (pair_numbers ps ++ rest) (2 * n) 0 ≡ (last_or d ps).start) × (get_or (pair_numbers ps ++ rest) (suc (2 * n)) 0 ≡ (last_or d ps).place)
unfolding pair_numbers last_or
last-pair d [] rest n h = absurd (omega arith)
last-pair d (p ∷ []) rest zero h = (refl, refl)
last-pair d (p ∷ []) rest (suc n) h = absurd (omega arith)
last-pair d (p ∷ q ∷ ps) rest zero h = absurd (omega arith)
last-pair d (p ∷ q ∷ ps) rest (suc n) h =
    let two : 2 * suc n ≡ suc (suc (2 * n)) = omega arith in
    let r = last-pair p (q ∷ ps) rest n (omega arith) in
    (ap (λ i. get_or (pair_numbers (p ∷ q ∷ ps) ++ rest) i 0) two ∙ r.0, ap (λ i. get_or (pair_numbers (p ∷ q ∷ ps) ++ rest) (suc i) 0) two ∙ r.1)

pub pairs-length : (ps : List Place) → length (pair_numbers ps) ≡ 2 * length ps
unfolding pair_numbers
pairs-length [] = refl
pairs-length (p ∷ ps) = let h = pairs-length ps in omega arith

-- THE HORIZON
listed-number : (b : Board) (words : ℕ) → (listed b words).number ≡ refused_horizon b words
unfolding listed or_refused
listed-number b words = go (refused_horizon b words)
  where
    go : (k : ℕ) → (or_refused {A = Listed} k (λ j. record { number = j; count = 0; board = b }) (record { number = 0; count = length (horizon_of b); board = b })).number ≡ k
    go zero = refl
    go (suc k) = refl

pub horizon-answers : (b : Board) (lent : List ℕ) {l : Listed} {words : List ℕ} → length lent ≡ horizon_words → l ≡ listed b (length lent) → words ≡ listed_buffer b lent
    → replied l.number (rows_text (rows_of 3 l.count words)) ≡ answered (Some Asked.Horizon) b
unfolding answered
horizon-answers b lent {l} {words} s e f =
    ap (λ n. replied n (rows_text (rows_of 3 l.count words))) (ap (λ x. x.number) same) ∙ replied-same (listed b horizon_words).number rows
  where
    same : l ≡ listed b horizon_words
    same = e ∙ ap (listed b) s

    rows : (listed b horizon_words).number ≡ 0 → rows_text (rows_of 3 l.count words) ≡ rows_text (map strip_row (horizon_of b))
    rows z = ap rows_text (ap₂ (rows_of 3) (ap (λ x. x.count) same ∙ count) (f ∙ buffer) ∙ strip-rows (horizon_of b) (drop (length (strip_numbers (horizon_of b))) lent))
      where
        done : refused_horizon b horizon_words ≡ 0
        done = sym (listed-number b horizon_words) ∙ z

        count : (listed b horizon_words).count ≡ length (horizon_of b)
        count = unfold listed or_refused in rw done

        buffer : listed_buffer b lent ≡ over_front (strip_numbers (horizon_of b)) lent
        buffer = unfold listed_buffer or_refused in rw (s, done)

-- three words a run
listed-fits : (b : Board) (words : ℕ) → (listed b words).count * 3 ≤ words
unfolding listed or_refused refused_horizon
listed-fits b words = go (refused_horizon b words) refl
  where
    answer : ℕ → Listed
    answer k = or_refused {A = Listed} k (λ j. record { number = j; count = 0; board = b }) (record { number = 0; count = length (horizon_of b); board = b })

    go : (k : ℕ) → refused_horizon b words ≡ k → (answer k).count * 3 ≤ words
    go zero e =
        let rest = (none-holds 1 (not (sound_board b)) (horizon_tests (length (horizon_of b)) words) (λ z. omega arith) e).1 in
        let fits = (none-holds 17 (ltb words (3 * length (horizon_of b))) [] (λ z. omega arith) rest).0 in
        omega (arith, ltb-false words (3 * length (horizon_of b)) (is_false (ltb words (3 * length (horizon_of b))) fits))
    go (suc k) e = omega arith

pub listed-within : {l : Listed} (b : Board) (words : ℕ) → l ≡ listed b words → l.count * 3 ≤ words
listed-within b words e = rw e (listed-fits b words)

-- THE OPENINGS from a page on
none_of_lem : (n : ℕ) → take {A = Place} n [] ≡ []
none_of_lem zero = refl
none_of_lem (suc n) = refl

module _ (b : Board) (p : Page) where
  pub opened-left : (words : ℕ) → opened b p.task p.start p.column words
      ≡ record { number = refused_openings b p.task; count = length (take (words / 2) (left_to b p)); more = ltb (words / 2) (length (left_to b p)); board = b }
  unfolding opened or_refused left_to
  opened-left words = go (refused_openings b p.task)
    where
      all : List Place
      all = remaining b p.task p.start p.column

      from : ℕ → List Place
      from k = or_refused {A = List Place} k (λ j. []) all

      go : (k : ℕ)
          → or_refused {A = Opened} k (λ j. record { number = j; count = 0; more = false; board = b })
          (record { number = 0; count = length (take (words / 2) all); more = ltb (words / 2) (length all); board = b })
          ≡ record { number = k; count = length (take (words / 2) (from k)); more = ltb (words / 2) (length (from k)); board = b }
      go zero = refl
      go (suc k) = rw (none_of_lem (words / 2), le-ltb (words / 2) 0 (omega arith))

  pub buffer-left : (buffer : List ℕ) → opened_buffer b p.task p.start p.column buffer ≡ over_front (pair_numbers (take (length buffer / 2) (left_to b p))) buffer
  unfolding opened_buffer or_refused left_to
  buffer-left buffer = go (refused_openings b p.task)
    where
      n : ℕ
      n = length buffer / 2

      all : List Place
      all = remaining b p.task p.start p.column

      go : (k : ℕ) → or_refused {A = List ℕ} k (λ j. buffer) (over_front (pair_numbers (take n all)) buffer)
          ≡ over_front (pair_numbers (take n (or_refused {A = List Place} k (λ j. []) all))) buffer
      go zero = refl
      go (suc k) = rw (none_of_lem n) (unfold pair_numbers in refl)

  -- ONE CALL with room for a page
  module _ (least : ℕ) (words : List ℕ) (k : least ≡ min p.left page_rows) (s : 5952 ≡ length words) where
    abbrev lent : List ℕ
    lent = take (2 * least - 0) words

    abbrev ps : List Place
    ps = take (min p.left page_rows) (left_to b p)

    lent_length : length lent ≡ 2 * min p.left page_rows
    lent_length = omega (arith, length-take (2 * least - 0) words)

    half : length lent / 2 ≡ min p.left page_rows
    half = omega (arith, lent_length)

    pub looks : {r : Opened} {part after : List ℕ} → r ≡ opened b p.task p.start p.column (length lent) → part ≡ opened_buffer b p.task p.start p.column lent
        → after ≡ part ++ drop (2 * least - 0) words
        → (r ≡ opened b p.task p.start p.column (2 * min p.left page_rows)) × (after ≡ over_front (pair_numbers ps) words)
    looks e f a = (
      e ∙ ap (opened b p.task p.start p.column) lent_length,
      a ∙ ap (λ x. x ++ drop (2 * least - 0) words) (f ∙ buffer-left lent ∙ ap (λ n. over_front (pair_numbers (take n (left_to b p))) lent) half) ∙ joined,
    )
      where
        fits : length (pair_numbers ps) ≤ length lent
        fits = omega (arith, pairs-length ps, length-take (min p.left page_rows) (left_to b p), lent_length)

        joined : over_front (pair_numbers ps) lent ++ drop (2 * least - 0) words ≡ over_front (pair_numbers ps) words
        joined = append_assoc (pair_numbers ps) (drop (length (pair_numbers ps)) lent) (drop (2 * least - 0) words)
            ∙ ap (λ x. pair_numbers ps ++ x)
            (sym (drop-append-le (length (pair_numbers ps)) lent (drop (2 * least - 0) words) fits) ∙ ap (drop (length (pair_numbers ps))) (take-append-drop (2 * least - 0) words))
