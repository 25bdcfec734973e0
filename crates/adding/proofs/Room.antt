-- A SUMMARY HAS 19 LINES, and fewer than 4095 bytes. Assumes nothing.
use Prim.Native.Nat.{ℕ, zero, suc, ◌+◌, ◌*◌, ◌/◌, ◌%◌, ◌^◌, ◌≤◌, ◌<◌}
use mathlib.Core.Path.{◌≡◌, refl, sym, ap, ◌∙◌}
use mathlib.Core.Bool.{Bool, true, false, cond}
use mathlib.Core.List.{List, [], ◌∷◌, ◌++◌, map, append_assoc}
use native.Mathlib.Omega.{arith}
use native.Mathlib.Nat.{pow-suc}
use borrow.Author.Tests.{lt-ltb, ne_eqb}
use lib.Dec.{eqb, ltb}
use lib.ListN.{length, get_or, take, drop, length-append, length-take}
use lib.Seq.{get_or-drop}
use Rattle.lists.specs.Lists.{each, range}
use Rattle.text.specs.Text.{ascii, decimal_in, decimal, line_text}
use Rattle.text.proofs.Meaning.{Digits, decimal-digits}
use Rattle.sheets.specs.Sheets.{planner_names, class_names, row_line, row_in, header_text, foot_text, sheet_text}
use Rattle.sheets.proofs.Laws.{fits-at}
use Rattle.adding.specs.Adding.{whole_text, Good}
use Rattle.adding.proofs.Back.{line-cons}

unfoldable pub newlines : List ℕ → ℕ
newlines [] = 0
newlines (b ∷ bs) = cond (eqb b 10) 1 0 + newlines bs

-- a text of so many lines, and at most so many bytes
pub record Room (lines most : ℕ) (xs : List ℕ) : Type 0 where
  pub ends : newlines xs ≡ lines
  pub short : length xs ≤ most

newlines-append : (xs ys : List ℕ) → newlines (xs ++ ys) ≡ newlines xs + newlines ys
unfolding newlines
newlines-append [] ys = (let z : newlines ys ≡ 0 + newlines ys = omega arith in z)
newlines-append (x ∷ xs) ys =
    ap (λ n. cond (eqb x 10) 1 0 + n) (newlines-append xs ys)
    ∙ (let z : cond (eqb x 10) 1 0 + (newlines xs + newlines ys) ≡ cond (eqb x 10) 1 0 + newlines xs + newlines ys = omega arith in z)

room-append : {a b m n : ℕ} {xs ys : List ℕ} → Room a m xs → Room b n ys → Room (a + b) (m + n) (xs ++ ys)
room-append {xs = xs} {ys = ys} p q = record {
  ends = omega (arith, newlines-append xs ys, p.ends, q.ends);
  short = omega (arith, length-append xs ys, p.short, q.short);
}

room-more : {a m n : ℕ} {xs : List ℕ} → m ≤ n → Room a m xs → Room a n xs
room-more h p = record { ends = p.ends; short = omega (arith, p.short) }

-- A NUMBER of 64 bits
short-in : (most n x : ℕ) → x < 10 ^ suc n → length (decimal_in most x) ≤ suc n
unfolding decimal_in
short-in zero n x h = omega arith
short-in (suc most) zero x h = rw (lt-ltb x 10 h) (omega arith)
short-in (suc most) (suc n) x h = go (short-in most n (x / 10)) (ltb x 10) refl
  where
    go : (x / 10 < 10 ^ suc n → length (decimal_in most (x / 10)) ≤ suc n) → (t : Bool) → ltb x 10 ≡ t
        → length (cond t ((48 + x) ∷ []) (decimal_in most (x / 10) ++ ((48 + x % 10) ∷ []))) ≤ suc (suc n)
    go tenth true e = omega arith
    go tenth false e =
        let high : x < 10 ^ suc n * 10 = rw pow-suc at h in
        omega (arith, length-append (decimal_in most (x / 10)) ((48 + x % 10) ∷ []), tenth (omega arith))

digits-end : (ds : List ℕ) → Digits ds → newlines ds ≡ 0
unfolding newlines Digits
digits-end [] h = refl
digits-end (d ∷ ds) h =
    let rest = digits-end ds h.1 in
    rw (ne_eqb d 10 (λ e. omega (arith, h.0.least))) (let z : 0 + newlines ds ≡ 0 = omega arith in z)

room-number : (x : ℕ) → x < 18446744073709551616 → Room 0 20 (decimal x)
unfolding decimal
room-number x h = record { ends = digits-end (decimal_in (suc x) x) (decimal-digits x); short = short-in (suc x) 19 x (omega arith) }

-- A ROW: 9 bytes for a planner, 5 for a class, 20 for a figure
byte-room : (b : ℕ) {xs : List ℕ} {lines most : ℕ} → eqb b 10 ≡ false → Room lines most xs → Room lines (most + 1) (b ∷ xs)
unfolding newlines
byte-room b {xs} {lines} e p = record { ends = rw e (let z : 0 + newlines xs ≡ lines = omega (arith, p.ends) in z); short = omega (arith, p.short) }

planner-room : (i : ℕ) → Room 0 9 (get_or planner_names i [])
unfolding newlines
planner-room zero = record { ends = refl; short = omega arith }
planner-room (suc zero) = record { ends = refl; short = omega arith }
planner-room (suc (suc zero)) = record { ends = refl; short = omega arith }
planner-room (suc (suc (suc zero))) = record { ends = refl; short = omega arith }
planner-room (suc (suc (suc (suc i)))) = record { ends = refl; short = omega arith }

class-room : (i : ℕ) → Room 0 5 (get_or class_names i [])
unfolding newlines
class-room zero = record { ends = refl; short = omega arith }
class-room (suc zero) = record { ends = refl; short = omega arith }
class-room (suc (suc zero)) = record { ends = refl; short = omega arith }
class-room (suc (suc (suc zero))) = record { ends = refl; short = omega arith }
class-room (suc (suc (suc (suc i)))) = record { ends = refl; short = omega arith }

abbrev Small : List ℕ → Type 0
Small xs = (i : ℕ) → get_or xs i 0 < 18446744073709551616

small-take : (n : ℕ) (xs : List ℕ) → Small xs → Small (take n xs)
small-take zero xs h i = omega arith
small-take (suc n) [] h i = omega arith
small-take (suc n) (x ∷ xs) h zero = h zero
small-take (suc n) (x ∷ xs) h (suc i) = small-take n xs (λ j. h (suc j)) i

figures-room : (xs w : List ℕ) → Small xs → Room 0 41 w → Room 1 (length xs * 21 + 42) (line_text (map decimal xs ++ (w ∷ [])))
unfolding line_text newlines
figures-room [] w h r =
    let end : Room 1 1 (10 ∷ []) = record { ends = refl; short = omega arith } in
    room-more (omega arith) (room-append r end)
figures-room (x ∷ xs) w h r =
    let rest = byte-room 32 refl (figures-room xs w (λ i. h (suc i)) r) in
    rw (line-cons (decimal x) xs w) (room-more (omega arith) (room-append (room-number x (h zero)) rest))

module _ (ns : List ℕ) (small : Small ns) where
  row_room : (r : ℕ) → Room 1 163 (row_in ns r)
  unfolding row_in row_line line_text
  row_room r =
      let five = take 5 (drop (r * 5) ns) in
      let class = get_or class_names (r % 4) [] in
      let fives : Small five = small-take 5 (drop (r * 5) ns) (λ i. omega (arith, get_or-drop (r * 5) ns i 0, small (r * 5 + i))) in
      let last = decimal (get_or five 1 0) ++ (47 ∷ decimal (get_or five 0 0)) in
      let ratio = room-append (room-number (get_or five 1 0) (fives 1)) (byte-room 47 refl (room-number (get_or five 0 0) (fives 0))) in
      let line : Room 1 147 (line_text (map decimal five ++ (last ∷ []))) =
      room-more (omega (arith, length-take 5 (drop (r * 5) ns))) (figures-room five last fives ratio) in
      let words : Room 1 153 (line_text (class ∷ (map decimal five ++ (last ∷ [])))) = rw (line-cons class five last) (room-append (class-room (r % 4)) (byte-room 32 refl line)) in
      room-append (planner-room (r / 4)) (byte-room 32 refl words)

  rows-room : (m r : ℕ) → Room m (m * 163) (each (range r m) (row_in ns))
  unfolding each range newlines
  rows-room zero r = record { ends = refl; short = omega arith }
  rows-room (suc m) r =
      let all = room-append (row_room r) (rows-room m (suc r)) in
      record { ends = omega (arith, all.ends); short = omega (arith, all.short) }

  foot-room : Room 1 103 (foot_text ns)
  unfolding foot_text newlines
  foot-room =
      let f = room-append (room-number (get_or ns 82 0) (small 82)) (words (ascii " stop ") 0 refl) in
      let e = room-append (room-number (get_or ns 81 0) (small 81)) (room-append (words (ascii " files ") 0 refl) f) in
      let c = room-append (room-number (get_or ns 80 0) (small 80)) (room-append (words (ascii "\nevents ") 1 refl) e) in
      room-more (omega arith) (room-append (words (ascii "refused without class ") 0 refl) c)
    where
      words : (xs : List ℕ) (n : ℕ) → newlines xs ≡ n → Room n (length xs) xs
      words xs n e = record { ends = e; short = omega arith }

-- ALL BUT THE LAST BYTE of a summary
pub front : List ℕ → List ℕ
front ns = sheet_text ns ++ ascii "end"

pub front-end : (ns : List ℕ) → whole_text ns ≡ front ns ++ (10 ∷ [])
unfolding whole_text front
front-end ns = sym (append_assoc (sheet_text ns) (ascii "end") (10 ∷ []))

pub front-room : (ns : List ℕ) → Good ns → Room 18 4000 (front ns)
unfolding front sheet_text newlines
front-room ns g =
    let small : Small ns = λ i. fits-at ns i g.small in
    let header : Room 1 80 header_text = record { ends = refl; short = omega arith } in
    let end : Room 0 3 (ascii "end") = record { ends = refl; short = omega arith } in
    room-more (omega arith) (room-append (room-append header (room-append (rows-room ns small 16 0) (foot-room ns small))) end)
