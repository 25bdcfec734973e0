-- THE NUMBERS OF A SUMMARY'S TEXT ARE ITS FIGURES, read byte by byte. Assumes nothing.
use Prim.Native.Nat.{ℕ, zero, suc, ◌+◌, ◌-◌, ◌*◌, ◌/◌, ◌%◌, ◌≤◌, ◌<◌}
use mathlib.Core.Path.{◌≡◌, refl, sym, ap, ◌∙◌}
use mathlib.Core.Bool.{Bool, true, false, not, ◌&&◌}
use mathlib.Core.List.{List, [], ◌∷◌, ◌++◌, map, append_assoc, append-nil}
use native.Mathlib.Omega.{arith}
use native.Mathlib.Numerals.{add-one}
use borrow.Author.Tests.{lt-ltb, le-leb, ne_eqb, not-true}
use lib.Dec.{ltb, eqb}
use lib.ListN.{length, get_or, set, take, drop}
use lib.Seq.{take-suc, drop-cons, set_at, length-take-le, take_all, get_or-take, get_or-drop}
use Rattle.lists.specs.Lists.{all?, each, range}
use Rattle.text.specs.Text.{ascii, value, decimal, line_text}
use Rattle.text.proofs.Meaning.{Digit, Digits, decimal-value, decimal-digits, decimal-zero}
use Rattle.tokens.specs.Tokens.{digit}
use Rattle.sheets.specs.Sheets.{planner_names, class_names, row_line, row_in, header_text, foot_text, sheet_text}
use Rattle.sheets.proofs.Laws.{fits-at}
use Rattle.adding.specs.Adding.{whole_text, Good, no_figures}
use Rattle.adding.specs.declared.Reading.{Reading}
use Rattle.adding.specs.declared.Reading.TheVariants.{Between, Inside, Behind}
use Rattle.adding.specs.Machine.{inside?, value_of, behind?, ends_number, read, figures_on, figures_in}
use Rattle.adding.proofs.Numbers.{both_l, both_r}

-- between numbers, in a number, behind a slash
abbrev idle : Reading
idle = Between

abbrev inside : ℕ → Reading
inside v = Inside v

abbrev over : Reading
over = Behind

-- A DIGIT
is_digit : {d : ℕ} → Digit d → digit d ≡ true
is_digit {d} h = rw (le-leb 48 d h.least, le-leb d 57 h.most) refl

module _ (figures : List ℕ) (n : ℕ) where
  digit-on : (r : Reading) (d : ℕ) (bs : List ℕ) → Digit d → behind? r ≡ false → value_of r * 10 + (d - 48) ≤ 18446744073709551615
      → figures_on figures n r (d ∷ bs) ≡ figures_on figures n (inside (value_of r * 10 + (d - 48))) bs
  unfolding figures_on read
  digit-on r d bs h k s =
      let none : (ends_number r d && ltb n 83) ≡ false = rw (is_digit h) (go (inside? r)) in
      rw (none, ne_eqb d 47 (λ e. omega (arith, h.least)), is_digit h, k, le-leb (value_of r * 10 + (d - 48)) 18446744073709551615 s) refl
    where
      go : (t : Bool) → (((t && false) && not (eqb d 47)) && ltb n 83) ≡ false
      go true = refl
      go false = refl

  digit-over : (d : ℕ) (bs : List ℕ) → Digit d → figures_on figures n over (d ∷ bs) ≡ figures_on figures n over bs
  unfolding figures_on read
  digit-over d bs h = rw (ne_eqb d 47 (λ e. omega (arith, h.least)), is_digit h) refl

grows : (v : ℕ) (ds : List ℕ) → v ≤ value v ds
unfolding value
grows v [] = omega arith
grows v (d ∷ ds) = let more : v * 10 + (d - 48) ≤ value (v * 10 + (d - 48)) ds = grows (v * 10 + (d - 48)) ds in omega arith

-- DIGITS, and a number's
module _ (figures : List ℕ) (n : ℕ) (bs : List ℕ) where
  digits_in : (v : ℕ) (ds : List ℕ) → Digits ds → value v ds ≤ 18446744073709551615
      → figures_on figures n (inside v) (ds ++ bs) ≡ figures_on figures n (inside (value v ds)) bs
  unfolding value Digits
  digits_in v [] h s = refl
  digits_in v (d ∷ ds) h s =
      digit-on figures n (inside v) d (ds ++ bs) h.0 refl (let g : v * 10 + (d - 48) ≤ value (v * 10 + (d - 48)) ds = grows (v * 10 + (d - 48)) ds in omega arith)
      ∙ digits_in (v * 10 + (d - 48)) ds h.1 s

  digits-over : (ds : List ℕ) → Digits ds → figures_on figures n over (ds ++ bs) ≡ figures_on figures n over bs
  unfolding Digits
  digits-over [] h = refl
  digits-over (d ∷ ds) h = digit-over figures n d (ds ++ bs) h.0 ∙ digits-over ds h.1

  digits-first : (ds : List ℕ) → Digits ds → 0 < length ds → value 0 ds ≤ 18446744073709551615 → figures_on figures n idle (ds ++ bs) ≡ figures_on figures n (inside (value 0 ds)) bs
  unfolding value Digits
  digits-first [] h l s = absurd (omega arith)
  digits-first (d ∷ ds) h l s =
      digit-on figures n idle d (ds ++ bs) h.0 refl (let g : 0 * 10 + (d - 48) ≤ value (0 * 10 + (d - 48)) ds = grows (0 * 10 + (d - 48)) ds in omega arith)
      ∙ digits_in (0 * 10 + (d - 48)) ds h.1 s

some-digit : (x : ℕ) → 0 < length (decimal x)
unfolding value
some-digit x = go (decimal x) refl
  where
    go : (ds : List ℕ) → decimal x ≡ ds → 0 < length ds
    go [] e =
        let zero : x ≡ 0 = sym (decimal-value x) ∙ ap (value 0) e in
        let two : ◌≡◌ {A = List ℕ} (48 ∷ []) [] = sym decimal-zero ∙ ap decimal (sym zero) ∙ e in
        absurd (omega (arith, ap length two))
    go (d ∷ ds) e = omega arith

pub number : (figures : List ℕ) (n x : ℕ) (bs : List ℕ) → x < 18446744073709551616 → figures_on figures n idle (decimal x ++ bs) ≡ figures_on figures n (inside x) bs
number figures n x bs h =
    digits-first figures n bs (decimal x) (decimal-digits x) (some-digit x) (omega (arith, decimal-value x)) ∙ ap (λ v. figures_on figures n (inside v) bs) (decimal-value x)

-- A BYTE THAT IS NO DIGIT AND NO SLASH: it ends a figure, or there is none
abbrev plain : ℕ → Bool
plain b = not (digit b) && not (eqb b 47)

module _ (b : ℕ) (h : plain b ≡ true) where
  no_digit : digit b ≡ false
  no_digit = not-true (digit b) (both_l (not (digit b)) (not (eqb b 47)) h)

  no_slash : eqb b 47 ≡ false
  no_slash = not-true (eqb b 47) (both_r (not (digit b)) (not (eqb b 47)) h)

  plain-idle : (figures : List ℕ) (n : ℕ) (bs : List ℕ) → figures_on figures n idle (b ∷ bs) ≡ figures_on figures n idle bs
  unfolding figures_on read
  plain-idle figures n bs = rw (no_slash, no_digit) refl

  plain_over : (figures : List ℕ) (n : ℕ) (bs : List ℕ) → figures_on figures n over (b ∷ bs) ≡ figures_on figures n idle bs
  unfolding figures_on read
  plain_over figures n bs = rw (no_slash, no_digit) refl

  plain-ends : (figures : List ℕ) (n x : ℕ) (bs : List ℕ) → n < 83 → figures_on figures n (inside x) (b ∷ bs) ≡ figures_on (set figures n x) (n + 1) idle bs
  unfolding figures_on read
  plain-ends figures n x bs k = rw (no_slash, no_digit, lt-ltb n 83 k) refl

nothing-more : (figures : List ℕ) (n : ℕ) → figures_on figures n idle [] ≡ figures
unfolding figures_on
nothing-more figures n = refl

words-read : (figures : List ℕ) (n : ℕ) (w bs : List ℕ) → all? plain w ≡ true → figures_on figures n idle (w ++ bs) ≡ figures_on figures n idle bs
unfolding all?
words-read figures n [] bs h = refl
words-read figures n (b ∷ w) bs h =
    plain-idle b (both_l (plain b) (all? plain w) h) figures n (w ++ bs) ∙ words-read figures n w bs (both_r (plain b) (all? plain w) h)

-- a word that ends a figure
word-ends : (b : ℕ) (w bs : List ℕ) → plain b ≡ true → all? plain w ≡ true → (figures : List ℕ) (n x : ℕ) → n < 83
    → figures_on figures n (inside x) ((b ∷ w) ++ bs) ≡ figures_on (set figures n x) (n + 1) idle bs
word-ends b w bs h k figures n x l = plain-ends b h figures n x (w ++ bs) l ∙ words-read (set figures n x) (n + 1) w bs k

-- a word in front of figures and a last word
pub line-cons : (v xs w : List ℕ) → line_text (v ∷ (map decimal xs ++ (w ∷ []))) ≡ v ++ (32 ∷ line_text (map decimal xs ++ (w ∷ [])))
unfolding line_text
line-cons v [] w = refl
line-cons v (x ∷ xs) w = refl

-- THE FIRST k FIGURES of a sheet, over none
abbrev first : List ℕ → ℕ → List ℕ
first ns k = take k ns ++ drop k no_figures

first_more : (ns : List ℕ) (k : ℕ) → length ns ≡ 83 → k < 83 → set (first ns k) k (get_or ns k 0) ≡ first ns (k + 1)
first_more ns k e h =
    ap (λ l. set (take k ns ++ l) k (get_or ns k 0)) (drop-cons no_figures k 0 h)
    ∙ set_at (take k ns) (get_or no_figures k 0) (drop (suc k) no_figures) (get_or ns k 0) k (length-take-le k ns (omega arith))
    ∙ sym (
    ap (first ns) (add-one k) ∙ ap (λ l. l ++ drop (suc k) no_figures) (take-suc ns k 0 (omega arith))
    ∙ append_assoc (take k ns) (get_or ns k 0 ∷ []) (drop (suc k) no_figures))

module _ (ns : List ℕ) (size : length ns ≡ 83) (small : (k : ℕ) → get_or ns k 0 < 18446744073709551616) where
  -- a figure, and bytes that end it and hold no other
  figure : (w bs : List ℕ) → ((figures : List ℕ) (n x : ℕ) → n < 83 → figures_on figures n (inside x) (w ++ bs) ≡ figures_on (set figures n x) (n + 1) idle bs)
      → (k : ℕ) → k < 83 → figures_on (first ns k) k idle (decimal (get_or ns k 0) ++ (w ++ bs)) ≡ figures_on (first ns (k + 1)) (k + 1) idle bs
  figure w bs ends k h =
      number (first ns k) k (get_or ns k 0) (w ++ bs) (small k) ∙ ends (first ns k) k (get_or ns k 0) h ∙ ap (λ l. figures_on l (k + 1) idle bs) (first_more ns k size h)

  -- FIGURES OF A LINE, and the word behind them
  figures-line : (j k : ℕ) (w bs : List ℕ) → k + j ≤ 83
      → figures_on (first ns k) k idle (line_text (map decimal (take j (drop k ns)) ++ (w ∷ [])) ++ bs) ≡ figures_on (first ns (k + j)) (k + j) idle (w ++ (10 ∷ bs))
  unfolding line_text all?
  figures-line zero k w bs h =
      ap (figures_on (first ns k) k idle) (append_assoc w (10 ∷ []) bs)
      ∙ ap (λ i. figures_on (first ns i) i idle (w ++ (10 ∷ bs))) (let z : k ≡ k + 0 = omega arith in z)
  figures-line (suc j) k w bs h =
      let x = get_or ns k 0 in
      let rest = take j (drop (suc k) ns) in
      let tail = line_text (map decimal rest ++ (w ∷ [])) in
      let next : k + 1 ≡ suc k = add-one k in
      ap (λ l. figures_on (first ns k) k idle (line_text (map decimal (take (suc j) l) ++ (w ∷ [])) ++ bs)) (drop-cons ns k 0 (omega arith))
      ∙ ap (λ t. figures_on (first ns k) k idle (t ++ bs)) (line-cons (decimal x) rest w)
      ∙ ap (figures_on (first ns k) k idle) (append_assoc (decimal x) (32 ∷ tail) bs)
      ∙ figure (32 ∷ []) (tail ++ bs) (word-ends 32 [] (tail ++ bs) refl refl) k (omega arith)
      ∙ ap (λ i. figures_on (first ns i) i idle (tail ++ bs)) next
      ∙ figures-line j (suc k) w bs (omega arith)
      ∙ ap (λ i. figures_on (first ns i) i idle (w ++ (10 ∷ bs))) (let z : suc k + j ≡ k + suc j = omega arith in z)

-- the ratio is passed over
ratio : (figures : List ℕ) (n t s : ℕ) (bs : List ℕ) → t < 18446744073709551616
    → figures_on figures n idle ((decimal t ++ (47 ∷ decimal s)) ++ (10 ∷ bs)) ≡ figures_on figures n idle bs
unfolding figures_on read
ratio figures n t s bs h =
    ap (figures_on figures n idle) (append_assoc (decimal t) (47 ∷ decimal s) (10 ∷ bs)) ∙ number figures n t (47 ∷ (decimal s ++ (10 ∷ bs))) h
    ∙ digits-over figures n (10 ∷ bs) (decimal s) (decimal-digits s)

slash : (figures : List ℕ) (n : ℕ) (bs : List ℕ) → figures_on figures n idle (47 ∷ bs) ≡ figures_on figures n over bs
unfolding figures_on read
slash figures n bs = refl

-- the first line holds no figure: it has a slash, but no digit
header_read : (figures : List ℕ) (n : ℕ) (bs : List ℕ) → figures_on figures n idle (header_text ++ bs) ≡ figures_on figures n idle bs
unfolding all?
header_read figures n bs =
    words-read figures n (ascii "planner class submitted taken rejected refused waited taken") (ascii "/submitted\n" ++ bs) refl
    ∙ slash figures n (ascii "submitted\n" ++ bs) ∙ plain_over 115 refl figures n (ascii "ubmitted\n" ++ bs) ∙ words-read figures n (ascii "ubmitted\n") bs refl

-- nor do names
planner-plain : (i : ℕ) → all? plain (get_or planner_names i []) ≡ true
unfolding all?
planner-plain zero = refl
planner-plain (suc zero) = refl
planner-plain (suc (suc zero)) = refl
planner-plain (suc (suc (suc zero))) = refl
planner-plain (suc (suc (suc (suc i)))) = refl

class-plain : (i : ℕ) → all? plain (get_or class_names i []) ≡ true
unfolding all?
class-plain zero = refl
class-plain (suc zero) = refl
class-plain (suc (suc zero)) = refl
class-plain (suc (suc (suc zero))) = refl
class-plain (suc (suc (suc (suc i)))) = refl

name-read : (figures : List ℕ) (n : ℕ) (w bs : List ℕ) → all? plain w ≡ true → figures_on figures n idle (w ++ (32 ∷ bs)) ≡ figures_on figures n idle bs
name-read figures n w bs h = words-read figures n w (32 ∷ bs) h ∙ plain-idle 32 refl figures n bs

module _ (ns : List ℕ) (size : length ns ≡ 83) (small : (k : ℕ) → get_or ns k 0 < 18446744073709551616) where
  -- A ROW, rows
  row_read : (r : ℕ) (bs : List ℕ) → r < 16 → figures_on (first ns (r * 5)) (r * 5) idle (row_in ns r ++ bs) ≡ figures_on (first ns (r * 5 + 5)) (r * 5 + 5) idle bs
  unfolding row_in row_line line_text
  row_read r bs h =
      let five = take 5 (drop (r * 5) ns) in
      let planner = get_or planner_names (r / 4) [] in
      let class = get_or class_names (r % 4) [] in
      let last = decimal (get_or five 1 0) ++ (47 ∷ decimal (get_or five 0 0)) in
      let tail = line_text (map decimal five ++ (last ∷ [])) in
      let at = figures_on (first ns (r * 5)) (r * 5) idle in
      let taken : get_or five 1 0 ≡ get_or ns (r * 5 + 1) 0 = get_or-take 5 (drop (r * 5) ns) 1 0 (omega arith) ∙ get_or-drop (r * 5) ns 1 0 in
      ap (λ t. at ((planner ++ (32 ∷ t)) ++ bs)) (line-cons class five last)
      ∙ ap at (append_assoc planner (32 ∷ (class ++ (32 ∷ tail))) bs)
      ∙ name-read (first ns (r * 5)) (r * 5) planner ((class ++ (32 ∷ tail)) ++ bs) (planner-plain (r / 4))
      ∙ ap at (append_assoc class (32 ∷ tail) bs)
      ∙ name-read (first ns (r * 5)) (r * 5) class (tail ++ bs) (class-plain (r % 4))
      ∙ figures-line ns size small 5 (r * 5) last bs (omega arith)
      ∙ ratio (first ns (r * 5 + 5)) (r * 5 + 5) (get_or five 1 0) (get_or five 0 0) bs (omega (arith, small (r * 5 + 1), taken))

  rows-read : (m r : ℕ) (bs : List ℕ) → r + m ≤ 16
      → figures_on (first ns (r * 5)) (r * 5) idle (each (range r m) (row_in ns) ++ bs) ≡ figures_on (first ns ((r + m) * 5)) ((r + m) * 5) idle bs
  unfolding each range
  rows-read zero r bs h = ap (λ i. figures_on (first ns (i * 5)) (i * 5) idle bs) (let z : r ≡ r + 0 = omega arith in z)
  rows-read (suc m) r bs h =
      ap (figures_on (first ns (r * 5)) (r * 5) idle) (append_assoc (row_in ns r) (each (range (suc r) m) (row_in ns)) bs)
      ∙ row_read r (each (range (suc r) m) (row_in ns) ++ bs) (omega arith)
      ∙ ap (λ i. figures_on (first ns i) i idle (each (range (suc r) m) (row_in ns) ++ bs)) (let z : r * 5 + 5 ≡ suc r * 5 = omega arith in z)
      ∙ rows-read m (suc r) bs (omega arith)
      ∙ ap (λ i. figures_on (first ns (i * 5)) (i * 5) idle bs) (let z : suc r + m ≡ r + suc m = omega arith in z)

  -- what stands below the rows, and the end
  foot-read : figures_on (first ns 80) 80 idle (foot_text ns ++ ascii "end\n") ≡ first ns 83
  unfolding foot_text all?
  foot-read =
      let c = decimal (get_or ns 80 0) in
      let e = decimal (get_or ns 81 0) in
      let f = decimal (get_or ns 82 0) in
      let files = ascii " files " ++ (f ++ ascii " stop ") in
      let events = ascii "\nevents " ++ (e ++ files) in
      words-read (first ns 80) 80 (ascii "refused without class ") ((c ++ events) ++ ascii "end\n") refl
      ∙ ap (figures_on (first ns 80) 80 idle) (append_assoc c events (ascii "end\n"))
      ∙ figure ns size small (ascii "\nevents ") ((e ++ files) ++ ascii "end\n") (word-ends 10 (ascii "events ") ((e ++ files) ++ ascii "end\n") refl refl) 80 (omega arith)
      ∙ ap (figures_on (first ns 81) 81 idle) (append_assoc e files (ascii "end\n"))
      ∙ figure ns size small (ascii " files ") ((f ++ ascii " stop ") ++ ascii "end\n") (word-ends 32 (ascii "files ") ((f ++ ascii " stop ") ++ ascii "end\n") refl refl) 81 (omega arith)
      ∙ ap (figures_on (first ns 82) 82 idle) (append_assoc f (ascii " stop ") (ascii "end\n"))
      ∙ figure ns size small (ascii " stop end\n") [] (word-ends 32 (ascii "stop end\n") [] refl refl) 82 (omega arith)
      ∙ nothing-more (first ns 83) 83

pub whole-read : (ns : List ℕ) → Good ns → figures_in (whole_text ns) ≡ ns
unfolding figures_in whole_text sheet_text
whole-read ns g =
    let small : (k : ℕ) → get_or ns k 0 < 18446744073709551616 = λ k. fits-at ns k g.small in
    let rows = each (range 0 16) (row_in ns) in
    ap (figures_on no_figures 0 idle) (append_assoc header_text (rows ++ foot_text ns) (ascii "end\n"))
    ∙ header_read no_figures 0 ((rows ++ foot_text ns) ++ ascii "end\n")
    ∙ ap (figures_on no_figures 0 idle) (append_assoc rows (foot_text ns) (ascii "end\n"))
    ∙ rows-read ns g.size small 16 0 (foot_text ns ++ ascii "end\n") (omega arith)
    ∙ foot-read ns g.size small
    ∙ ap (λ l. l ++ drop 83 no_figures) (take_all 83 ns (omega (arith, g.size))) ∙ append-nil ns
