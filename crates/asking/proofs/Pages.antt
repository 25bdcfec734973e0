-- A page of the openings: what `asking::turn` writes; and the pages one after the other are the one list. Assumes nothing.
use Prim.Native.Nat.{ℕ, zero, suc, ◌+◌, ◌-◌, ◌*◌, ◌/◌, ◌≤◌, ◌<◌, min}
use mathlib.Core.Path.{◌≡◌, refl, sym, ap, ap₂, ◌∙◌}
use mathlib.Core.Bool.{Bool, true, false, not, ◌||◌}
use mathlib.Core.List.{List, [], ◌∷◌, ◌++◌, append_assoc}
use native.Mathlib.Decide.{dec_le}
use native.Mathlib.Omega.{arith}
use borrow.Author.Tests.{lt-ltb, le-ltb, le-leb, lt-leb}
use lib.Dec.{ltb, leb}
use lib.ListN.{length, take, drop, get_or, length-take, length-drop, length-append, take-append-drop}
use lib.Seq.{take_all, take-append-add, length-take-le}
use Rattle.std.proofs.Common.{Some}
use Rattle.lists.specs.Lists.{last_or, over_front, each}
use Rattle.ways.specs.Ways.{pair}
use Rattle.planners.specs.Openings.{Place, pair_numbers}
use Rattle.planners.proofs.Openings.{after_last}
use Rattle.board.specs.declared.Board.{Board}
use Rattle.board.specs.declared.Opened.{Opened}
use Rattle.board.specs.Refusals.{live_of, refused_openings}
use Rattle.board.specs.Calls.{or_refused, remaining, opened}
use Rattle.text.specs.Text.{row_text, rows_text, rows_of}
use Rattle.text.specs.Digits.{Put}
use Rattle.text.proofs.Spelling.{put_both}
use Rattle.asking.specs.declared.Page.{Page}
use Rattle.asking.specs.declared.Part.{Part}
use Rattle.asking.specs.Asking.{place_row, places_text, last_row, openings_text}
use Rattle.asking.specs.Machine.{page_rows, left_to, last_page?, page_after, turned, whole_part, Said}
use Rattle.asking.proofs.Copies.{at_front, front-put, said-whole}
use Rattle.asking.proofs.Lookups.{place-rows, last-pair, opened-left}

-- what is left goes on a last page, or goes on past this one
pub data Fits (left : ℕ) (ps : List Place) : Type 0 where
  asked : left ≤ page_rows → Fits left ps
  few : page_rows < left → length ps ≤ page_rows → Fits left ps
  past : page_rows < left → page_rows < length ps → Fits left ps

pub fits : (left : ℕ) (ps : List Place) → Fits left ps
fits left ps = go (dec_le left page_rows) (dec_le (length ps) page_rows)
  where
    go : Dec (left ≤ page_rows) → Dec (length ps ≤ page_rows) → Fits left ps
    go (yes h) d = asked h
    go (no h) (yes k) = few (omega arith) k
    go (no h) (no k) = past (omega arith) (omega arith)

last-asked : (left : ℕ) (ps : List Place) → left ≤ page_rows → last_page? left ps ≡ true
last-asked left ps h = rw (le-leb left page_rows h)

last-few : (left : ℕ) (ps : List Place) → page_rows < left → length ps ≤ page_rows → last_page? left ps ≡ true
last-few left ps h k = rw (lt-leb left page_rows h, le-leb (length ps) page_rows k)

pub not_last : (left : ℕ) (ps : List Place) → page_rows < left → page_rows < length ps → last_page? left ps ≡ false
not_last left ps h k = rw (lt-leb left page_rows h, lt-leb (length ps) page_rows k)

last-short : (more : Bool) → length (last_row more) ≤ 5
unfolding last_row
last-short true = omega arith
last-short false = omega arith

-- A LAST PAGE has the rows and the last row of all
module _ (left : ℕ) (ps : List Place) where
  abbrev k : ℕ
  k = min left page_rows

  abbrev all : List ℕ
  all = places_text (take k ps) ++ last_row (ltb k (length ps))

  -- as code tests it, and what it then writes
  pub tested : (leb left page_rows || not (ltb k (length ps))) ≡ last_page? left ps
  tested = go (fits left ps)
    where
      go : Fits left ps → (leb left page_rows || not (ltb k (length ps))) ≡ last_page? left ps
      go (asked h) = rw (le-leb left page_rows h)
      go (few h m) = rw (lt-leb left page_rows h, le-leb (length ps) page_rows m, le-ltb k (length ps) (omega arith))
      go (past h m) = rw (lt-leb left page_rows h, lt-leb (length ps) page_rows m, lt-ltb k (length ps) (omega arith))

  pub last-text : last_page? left ps ≡ true → all ≡ openings_text left ps
  unfolding openings_text
  last-text t = go (fits left ps)
    where
      go : Fits left ps → all ≡ places_text (take left ps) ++ last_row (ltb left (length ps))
      go (asked h) = ap (λ n. places_text (take n ps) ++ last_row (ltb n (length ps))) (let z : k ≡ left = omega arith in z)
      go (few h m) =
          ap₂ (λ x y. places_text x ++ last_row y) (take_all k ps (omega arith) ∙ sym (take_all left ps (omega arith)))
          (le-ltb k (length ps) (omega arith) ∙ sym (le-ltb left (length ps) (omega arith)))
      go (past h m) = absurd (let z : true ≡ false = sym t ∙ not_last left ps h m in let y : ◌≡◌ {A = ℕ} 0 1 = cc in omega arith)

  pub past-both : last_page? left ps ≡ false → (page_rows < left) × (page_rows < length ps)
  past-both t = go (fits left ps)
    where
      go : Fits left ps → (page_rows < left) × (page_rows < length ps)
      go (asked h) = absurd (let z : true ≡ false = sym (last-asked left ps h) ∙ t in let y : ◌≡◌ {A = ℕ} 0 1 = cc in omega arith)
      go (few h m) = absurd (let z : true ≡ false = sym (last-few left ps h m) ∙ t in let y : ◌≡◌ {A = ℕ} 0 1 = cc in omega arith)
      go (past h m) = (h, m)

-- AFTER A CALL with room for a page
module _ (b : Board) (p : Page) (r : Opened) (words lent : List ℕ)
    (e : r ≡ opened b p.task p.start p.column (2 * min p.left page_rows))
    (w : words ≡ over_front (pair_numbers (take (min p.left page_rows) (left_to b p))) lent) where
  abbrev from : List Place
  from = left_to b p

  abbrev most : ℕ
  most = min p.left page_rows

  half : 2 * most / 2 ≡ most
  half = omega arith

  pub count-is : r.count ≡ length (take most from)
  count-is = ap (λ x. x.count) (e ∙ opened-left b p (2 * most)) ∙ ap (λ n. length (take n from)) half

  pub more-is : r.more ≡ ltb most (length from)
  more-is = ap (λ x. x.more) (e ∙ opened-left b p (2 * most)) ∙ ap (λ n. ltb n (length from)) half

  pub count-few : r.count ≤ page_rows
  count-few = omega (arith, count-is, length-take most from)

  rows_are : rows_text (rows_of 2 r.count words) ≡ places_text (take most from)
  unfolding places_text
  rows_are = ap rows_text (ap₂ (rows_of 2) count-is w ∙ place-rows (take most from) (drop (length (pair_numbers (take most from))) lent))

  -- the last page
  pub turns-last : (leb p.left page_rows || not r.more) ≡ true → {l m out : List ℕ} {n used : ℕ} {part : Part}
      → n ≡ length (rows_text (rows_of 2 r.count words)) → m ≡ over_front (rows_text (rows_of 2 r.count words)) l → n ≤ r.count * 22 → 65536 ≡ length l
      → Put m n (last_row r.more) out used → part ≡ whole_part used → Said (turned b p) part l out
  unfolding turned
  turns-last t {l} {m} {out} {n} {used} {part} h f g s q a =
      rw last (said-whole a (front.0 ∙ ap length text) (front.1 ∙ ap (λ x. over_front x l) text))
    where
      last : last_page? p.left from ≡ true
      last = sym (tested p.left from) ∙ ap (λ x. leb p.left page_rows || not x) (sym more-is) ∙ t

      rows : List ℕ
      rows = rows_text (rows_of 2 r.count words)

      text : rows ++ last_row r.more ≡ openings_text p.left from
      text = ap₂ (λ x y. x ++ last_row y) rows_are more-is ∙ last-text p.left from last

      front : (used ≡ length (rows ++ last_row r.more)) × (out ≡ over_front (rows ++ last_row r.more) l)
      front =
          let short = last-short r.more in
          at_front {l = l} (put_both {xs = rows} (front-put h f (omega (arith, count-few))) q) (omega (arith, count-few, length-append rows (last_row r.more)))

  -- a page that is not the last
  module _ (t : (leb p.left page_rows || not r.more) ≡ false) where
    pub goes-past : (page_rows < p.left) × (page_rows < length from)
    goes-past = past-both p.left from (sym (tested p.left from) ∙ ap (λ x. leb p.left page_rows || not x) (sym more-is) ∙ t)

    full : most ≡ page_rows
    full = omega (arith, goes-past.0)

    pub count-full : r.count ≡ page_rows
    count-full = omega (arith, count-is, length-take most from, goes-past.0, goes-past.1)

    pub turns-on : {l out : List ℕ} {n : ℕ} → n ≡ length (rows_text (rows_of 2 r.count words)) → out ≡ over_front (rows_text (rows_of 2 r.count words)) l
        → Said (turned b p)
        (record {
          used = n;
          page = Some (record { task = p.task; start = get_or words (2 * r.count - 2) 0; column = get_or words (2 * r.count - 1) 0; left = p.left - 2976 });
        }) l out
    unfolding turned
    turns-on {l} {out} {n} h f = rw (not_last p.left from goes-past.0 goes-past.1) record {
      answer = λ i. record {
        used = (h ∙ ap length text) i;
        page = Some (record { task = p.task; start = (at 5950 first ∙ last.0) i; column = (at 5951 second ∙ last.1) i; left = p.left - 2976 });
      };
      text = f ∙ ap (λ x. over_front x l) text;
    }
      where
        here : List Place
        here = take page_rows from

        text : rows_text (rows_of 2 r.count words) ≡ places_text here
        text = rows_are ∙ ap (λ n. places_text (take n from)) full

        filled : words ≡ pair_numbers here ++ drop (length (pair_numbers here)) lent
        filled = w ∙ ap (λ n. over_front (pair_numbers (take n from)) lent) full

        first : 2 * r.count - 2 ≡ 5950
        first = omega (arith, count-full)

        second : 2 * r.count - 1 ≡ 5951
        second = omega (arith, count-full)

        at : (n : ℕ) {i : ℕ} → i ≡ n → get_or words i 0 ≡ get_or (pair_numbers here ++ drop (length (pair_numbers here)) lent) n 0
        at n q = ap₂ (λ ws j. get_or ws j 0) filled q

        last : (get_or (pair_numbers here ++ drop (length (pair_numbers here)) lent) 5950 0 ≡ (last_or (pair p.start p.column) here).start)
            × (get_or (pair_numbers here ++ drop (length (pair_numbers here)) lent) 5951 0 ≡ (last_or (pair p.start p.column) here).place)
        last = last-pair (pair p.start p.column) here (drop (length (pair_numbers here)) lent) 2975 (omega (arith, length-take-le page_rows from (omega (arith, goes-past.1))))

-- where nothing is refused, they are what remains
pub left-whole : (b : Board) (p : Page) → refused_openings b p.task ≡ 0 → left_to b p ≡ remaining b p.task p.start p.column
unfolding left_to or_refused
left-whole b p e = rw e

-- WHAT A PAGE THAT IS NOT THE LAST leaves: the openings behind it
none_left : (n : ℕ) → drop {A = Place} n [] ≡ []
none_left zero = refl
none_left (suc n) = refl

pub left_after : (b : Board) (p : Page) (n : ℕ) → left_to b (page_after p (take n (left_to b p))) ≡ drop n (left_to b p)
unfolding left_to or_refused remaining
left_after b p n = go (refused_openings b p.task)
  where
    at : Place → List Place
    at q = remaining b p.task q.start q.place

    here : Place
    here = pair p.start p.column

    from : ℕ → Place → List Place
    from k q = or_refused {A = List Place} k (λ j. []) (at q)

    go : (k : ℕ) → from k (last_or here (take n (from k here))) ≡ drop n (from k here)
    go zero = after_last b.device.grid b.device.columns b.now (live_of b) p.task n here
    go (suc k) = sym (none_left n)

-- ROWS IN TWO PARTS
places-append : (ps qs : List Place) → places_text (ps ++ qs) ≡ places_text ps ++ places_text qs
unfolding places_text rows_text each
places-append [] qs = refl
places-append (p ∷ ps) qs = ap (λ t. row_text (place_row p) ++ t) (places-append ps qs) ∙ sym (append_assoc (row_text (place_row p)) (places_text ps) (places_text qs))

pub openings-split : (n most : ℕ) (ps : List Place) → n ≤ most → n ≤ length ps → places_text (take n ps) ++ openings_text (most - n) (drop n ps) ≡ openings_text most ps
unfolding openings_text
openings-split n most ps h k =
    sym (append_assoc (places_text (take n ps)) (places_text (take (most - n) (drop n ps))) (last_row (ltb (most - n) (length (drop n ps)))))
    ∙ ap₂ (λ x y. x ++ last_row y) (sym (places-append (take n ps) (take (most - n) (drop n ps))) ∙ ap places_text whole) (more (dec_le (length ps) most))
  where
    front : length (take n ps) ≡ n
    front = length-take-le n ps k

    whole : take n ps ++ take (most - n) (drop n ps) ≡ take most ps
    whole =
        sym (take-append-add (take n ps) (drop n ps) (most - n))
        ∙ ap₂ take (let z : length (take n ps) + (most - n) ≡ most = omega (arith, front) in z) (take-append-drop n ps)

    more : Dec (length ps ≤ most) → ltb (most - n) (length (drop n ps)) ≡ ltb most (length ps)
    more (yes l) = le-ltb (most - n) (length (drop n ps)) (omega (arith, length-drop n ps)) ∙ sym (le-ltb most (length ps) l)
    more (no l) = lt-ltb (most - n) (length (drop n ps)) (omega (arith, length-drop n ps)) ∙ sym (lt-ltb most (length ps) (omega arith))
