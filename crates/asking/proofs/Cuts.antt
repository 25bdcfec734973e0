-- FOR EVERY WAY TO CUT THE INPUT INTO PIECES: what close and every next write, one after the other, is what `ask` writes of the whole. Assumes nothing.
use Prim.Native.Nat.{ℕ, zero, suc, ◌+◌, ◌-◌, ◌≤◌, ◌<◌}
use mathlib.Core.Path.{◌≡◌, refl, sym, ap, ap₂, ◌∙◌}
use mathlib.Core.Bool.{Bool, true, false, cond}
use mathlib.Core.List.{List, [], ◌++◌, append-nil}
use native.Mathlib.Omega.{arith}
use borrow.Author.Tests.{eqb-true}
use lib.Dec.{eqb}
use lib.ListN.{length, take, drop, length-drop}
use Rattle.std.proofs.Common.{Option, Some, None}
use Rattle.std.specs.Bool.{then_some}
use Rattle.planners.specs.Openings.{Place}
use Rattle.board.specs.declared.Board.{Board}
use Rattle.board.specs.Refusals.{refused_openings}
use Rattle.board.specs.Calls.{remaining, opened}
use Rattle.events.specs.declared.Event.{Event}
use Rattle.session.specs.declared.Ending.{Ending}
use Rattle.session.specs.Recording.{Line, Story, story}
use Rattle.session.proofs.Recorded.{told}
use Rattle.text.specs.Output.{before}
use Rattle.questions.specs.declared.Question.{Question}
use Rattle.questions.specs.declared.Question.TheVariants as Asked
use Rattle.board_text.specs.BoardText.{answer_text}
use Rattle.reader.specs.Reader.{first_reader, fed, heard, end_of}
use Rattle.reader.proofs.Cuts as Reading
use Rattle.asking.specs.declared.Page.{Page}
use Rattle.asking.specs.declared.Asking.{Asking}
use Rattle.asking.specs.Asking.{places_text, openings_text, replied, answered, whole?, end_text, asked_output}
use Rattle.asking.specs.Machine.{Piece, alone, first_part, page_rows, left_to, last_page?, page_after, turned, begun, line_words, fed_with, next_event, closing_part, closing, closed, next_part, went}
use Rattle.asking.proofs.Lookups.{opened-left}
use Rattle.asking.proofs.Pages.{past-both, left-whole, left_after, openings-split}
use Rattle.asking.proofs.Steps.{closing-whole, closing-other, next-page}
use Rattle.asking.proofs.Counted.{reads-count, names-event}

-- the openings that the program has still to give
pub left_at : Board → Option Page → List Place
left_at b None = []
left_at b (Some p) = left_to b p

abbrev pub left_of : Asking → List Place
left_of a = left_at a.reader.state.board a.page

-- THE FURTHER PARTS, each from where the one before left the program, until none waits
pub data Parts : Asking → List ℕ → Type 0 where
  none : (a : Asking) → a.page ≡ None → Parts a []
  next : (a : Asking) {p : Page} {text : List ℕ} → a.page ≡ Some p → Parts (went a).asking text → Parts a ((next_part a).text ++ text)

no-page : {A : Type 0} {o : Option Page} {p : Page} → o ≡ None → o ≡ Some p → A
no-page {p = p} e f = absurd (let y : ◌≡◌ {A = Option Page} None (Some p) = sym e ∙ f in cc)

parts_none : {a : Asking} {text : List ℕ} → a.page ≡ None → Parts a text → text ≡ []
parts_none e (none a h) = refl
parts_none e (next a h p) = no-page e h

-- how many there are
pub count : {a : Asking} {text : List ℕ} → Parts a text → ℕ
count (none a e) = 0
count (next a e p) = suc (count p)

none_more : {a : Asking} {text : List ℕ} → a.page ≡ None → (p : Parts a text) → count p ≡ 0
unfolding count
none_more e (none a h) = refl
none_more e (next a h p) = no-page e h

-- a page, and where it leaves the program: the last one, or one that goes on
module _ (a : Asking) {p : Page} (m : a.page ≡ Some p) where
  abbrev from : List Place
  from = left_to a.reader.state.board p

  abbrev after : Page
  after = page_after p (take page_rows from)

  left-page : left_of a ≡ from
  unfolding left_at
  left-page = rw m

  last-page : last_page? p.left from ≡ true → next_part a ≡ alone (openings_text p.left from)
  unfolding turned
  last-page t = next-page a m ∙ rw t

  other-page : last_page? p.left from ≡ false → next_part a ≡ record { text = places_text (take page_rows from); page = Some after }
  unfolding turned
  other-page t = next-page a m ∙ rw t

  went-page : (went a).asking.page ≡ (next_part a).page
  unfolding went
  went-page = refl

  went-board : (went a).asking.reader.state.board ≡ a.reader.state.board
  unfolding went
  went-board = refl

  -- behind the last page none follows
  ends : last_page? p.left from ≡ true → (went a).asking.page ≡ None
  ends t = went-page ∙ ap (λ (x : Piece). x.page) (last-page t)

  -- what the page that goes on leaves
  module _ (t : last_page? p.left from ≡ false) where
    goes_on : (went a).asking.page ≡ Some after
    goes_on = went-page ∙ ap (λ (x : Piece). x.page) (other-page t)

    goes-from : left_to (went a).asking.reader.state.board after ≡ drop page_rows from
    goes-from = ap (λ b. left_to b after) went-board ∙ left_after a.reader.state.board p page_rows

    pub goes_left : left_of (went a).asking ≡ drop page_rows (left_of a)
    goes_left = left-after ∙ goes-from ∙ ap (drop page_rows) (sym left-page)
      where
        left-after : left_of (went a).asking ≡ left_to (went a).asking.reader.state.board after
        left-after = unfold left_at in rw goes_on

-- THE PAGES ONE AFTER THE OTHER ARE THE ONE LIST
pub parts_all : {a : Asking} {p : Page} {text : List ℕ} → a.page ≡ Some p → Parts a text → text ≡ openings_text p.left (left_to a.reader.state.board p)
parts_all m (none a h) = no-page h m
parts_all {p = p} m (next a {text = text} h r) = go (λ q e. parts_all {p = q} e r) (last_page? p.left (left_to a.reader.state.board p)) refl
  where
    go : ((q : Page) → (went a).asking.page ≡ Some q → text ≡ openings_text q.left (left_to (went a).asking.reader.state.board q))
        → (t : Bool) → last_page? p.left (left_to a.reader.state.board p) ≡ t → (next_part a).text ++ text ≡ openings_text p.left (left_to a.reader.state.board p)
    go below true t = ap₂ (λ (x : Piece) y. x.text ++ y) (last-page a m t) (parts_none (ends a m t) r) ∙ append-nil _
    go below false t =
        let b = past-both p.left (left_to a.reader.state.board p) t in
        ap₂ (λ (x : Piece) y. x.text ++ y) (other-page a m t) (below _ (goes_on a m t) ∙ ap (openings_text (p.left - page_rows)) (goes-from a m t))
        ∙ openings-split page_rows p.left (left_to a.reader.state.board p) (omega arith) (omega arith)

-- IT ENDS: a page behind which more waits has 2,976 rows, so there are fewer pages than openings
pub more-falls : (a : Asking) {p q : Page} → a.page ≡ Some p → (went a).asking.page ≡ Some q → length (left_of (went a).asking) + page_rows ≡ length (left_of a)
more-falls a {p} m h = go (last_page? p.left (left_to a.reader.state.board p)) refl
  where
    go : (t : Bool) → last_page? p.left (left_to a.reader.state.board p) ≡ t → length (left_of (went a).asking) + page_rows ≡ length (left_of a)
    go true t = no-page (ends a m t) h
    go false t =
        let b = past-both p.left (left_to a.reader.state.board p) t in
        omega (arith, ap length (left-page a m), ap length (goes_left a m t), length-drop page_rows (left_of a))

-- the further parts, where those behind the next one are at hand
by-more : (a : Asking) → ((p q : Page) → a.page ≡ Some p → (went a).asking.page ≡ Some q → (text : List ℕ) × Parts (went a).asking text) → (text : List ℕ) × Parts a text
by-more a below = go a.page refl (went a).asking.page refl
  where
    go : (o : Option Page) → a.page ≡ o → (u : Option Page) → (went a).asking.page ≡ u → (text : List ℕ) × Parts a text
    go None e u f = ([], none a e)
    go (Some p) e None f = ((next_part a).text ++ [], next a e (none (went a).asking f))
    go (Some p) e (Some q) f = let r = below p q e f in ((next_part a).text ++ r.0, next a e r.1)

parts_in : (n : ℕ) (a : Asking) → length (left_of a) ≤ n → (text : List ℕ) × Parts a text
parts_in zero a l = by-more a (λ p q e f. absurd (omega (arith, more-falls a e f)))
parts_in (suc n) a l = by-more a (λ p q e f. parts_in n (went a).asking (omega (arith, more-falls a e f)))

pub parts-end : (a : Asking) → (text : List ℕ) × Parts a text
parts-end a = parts_in (length (left_of a)) a (omega arith)

-- and that is a last one, and no more than openings before it
pub count-few : {a : Asking} {text : List ℕ} (p : Parts a text) → count p ≤ suc (length (left_of a))
unfolding count
count-few (none a e) = omega arith
count-few (next a e p) = go (count-few p) (went a).asking.page refl
  where
    go : count p ≤ suc (length (left_of (went a).asking)) → (u : Option Page) → (went a).asking.page ≡ u → suc (count p) ≤ suc (length (left_of a))
    go h (Some q) f = omega (arith, more-falls a e f)
    go h None f = omega (arith, none_more f p)

-- A WAY TO FEED: a piece of what is left, until no byte is left; and where the program then stands
pub data Feeds : Asking → List ℕ → Asking → Type 0 where
  done : (a : Asking) → Feeds a [] a
  feed : (a : Asking) (p more : List ℕ) {last : Asking} → Feeds (fed_with a p).asking (drop (fed_with a p).taken (p ++ more)) last → Feeds a (p ++ more) last

-- it is a way to read
pub record Read (a : Asking) (bytes : List ℕ) (last : Asking) : Type 0 where
  pub lines : List Line
  pub events : List Event
  pub reads : Reading.Reads a.reader bytes lines events last.reader
  pub question : last.question ≡ a.question

feeds-read : {a last : Asking} {bytes : List ℕ} → Feeds a bytes last → Read a bytes last
unfolding fed_with fed
feeds-read (done a) = record { lines = []; events = []; reads = Reading.done a.reader; question = refl }
feeds-read (feed a p more f) =
    let r = feeds-read f in
    record {
      lines = (heard a.reader p line_words).lines ++ r.lines;
      events = (heard a.reader p line_words).events ++ r.events;
      reads = Reading.feed a.reader p more line_words r.reads;
      question = r.question;
    }

-- THE FIRST PART AND THE FURTHER ONES are the answer
first-answers : (q : Option Question) (b : Board) (a : Asking) {text : List ℕ} → a.reader.state.board ≡ b → a.page ≡ (first_part q b).page → Parts a text
    → (first_part q b).text ++ text ≡ answered q b
unfolding first_part answered replied
first-answers None b a e f p = parts_none f p
first-answers (Some Asked.Horizon) b a e f p = ap (λ t. answered (Some Asked.Horizon) b ++ t) (parts_none f p) ∙ append-nil _
first-answers (Some (Asked.Busy i)) b a e f p = ap (λ t. answered (Some (Asked.Busy i)) b ++ t) (parts_none f p) ∙ append-nil _
first-answers (Some Asked.Board) b a e f p = ap (λ t. answered (Some Asked.Board) b ++ t) (parts_none f p) ∙ append-nil _
first-answers (Some (Asked.Stamp i)) b a e f p = ap (λ t. answered (Some (Asked.Stamp i)) b ++ t) (parts_none f p) ∙ append-nil _
first-answers (Some (Asked.Openings k s c most)) b a {text} e f p = ap (λ t. answer_text number ++ t) (go (eqb number 0) refl)
  where
    number : ℕ
    number = (opened b k s c 0).number

    first : Page
    first = record { task = k; start = s; column = c; left = most }

    rows : List ℕ
    rows = openings_text most (remaining b k s c)

    go : (t : Bool) → eqb number 0 ≡ t → text ≡ cond (eqb number 0) rows []
    go true t =
        let z : refused_openings b k ≡ 0 = ap (λ x. x.number) (sym (opened-left b first 0)) ∙ eqb-true number 0 t in
        parts_all {p = first} (f ∙ ap (λ u. then_some u first) t) p
        ∙ ap (λ y. openings_text most (left_to y first)) e ∙ ap (openings_text most) (left-whole b first z) ∙ sym (ap (λ u. cond u rows []) t)
    go false t = parts_none (f ∙ ap (λ u. then_some u first) t) p ∙ sym (ap (λ u. cond u rows []) t)

-- THE THEOREM: however the input is cut, what is written of it is what `ask` writes of the whole
pub asks-whole : (q : Option Question) {bytes : List ℕ} {last : Asking} {text : List ℕ} → Feeds (begun q) bytes last → Parts (closed last).asking text
    → before (closing last) (record { out = text; err = [] }) ≡ asked_output q bytes
unfolding asked_output closing
asks-whole q {bytes} {last} {text} f p = λ i. record { out = (out ∙ ap (λ (x : Story). cond (whole? x.end) (answered q x.state.board) []) (sym whole)) i; err = err i }
  where
    r : Read (begun q) bytes last
    r = feeds-read f

    reads : Reading.Reads first_reader bytes r.lines r.events last.reader
    reads = unfold begun in r.reads

    question : last.question ≡ q
    question = unfold begun in r.question

    whole : story bytes ≡ told r.lines r.events (Reading.closing last.reader)
    whole = Reading.reads_whole reads

    end : Ending
    end = end_of last.reader

    board : Board
    board = last.reader.state.board

    page-is : (closed last).asking.page ≡ (closing_part last end).page
    page-is = unfold closed in refl

    board-is : (closed last).asking.reader.state.board ≡ board
    board-is = unfold closed in refl

    out : (closing_part last end).text ++ text ≡ cond (whole? end) (answered q board) []
    out = go (whole? end) refl
      where
        go : (t : Bool) → whole? end ≡ t → (closing_part last end).text ++ text ≡ cond (whole? end) (answered q board) []
        go true t =
            let c = closing-whole last end t in
            ap (λ (x : Piece). x.text ++ text) c
            ∙ first-answers last.question board (closed last).asking board-is (page-is ∙ ap (λ (x : Piece). x.page) c) p
            ∙ ap (λ x. answered x board) question ∙ sym (ap (λ u. cond u (answered q board) []) t)
        go false t =
            let c = closing-other last end t in
            ap (λ (x : Piece). x.text ++ text) c ∙ parts_none (page-is ∙ ap (λ (x : Piece). x.page) c) p ∙ sym (ap (λ u. cond u (answered q board) []) t)

    number : last.reader.number ≡ length (story bytes).events
    number =
        let n = reads-count reads in
        let z : first_reader.number ≡ 0 = unfold first_reader in refl in
        omega (arith, ap (λ (x : Story). length x.events) whole, ap length (append-nil r.events))

    ends : end ≡ (story bytes).end
    ends = sym (ap (λ (x : Story). x.end) whole)

    err : end_text (next_event last.reader.number) end ++ [] ≡ end_text (suc (length (story bytes).events)) (story bytes).end
    err = append-nil _ ∙ names-event bytes number ends ∙ ap₂ (λ n e. end_text (suc n) e) number ends

-- AND IT COMES TO AN END: of a piece that has a byte something is taken
pub feed-takes : (q : Option Question) {bytes : List ℕ} {last : Asking} → Feeds (begun q) bytes last → (piece : List ℕ) → 0 < length piece → 0 < (fed_with last piece).taken
unfolding fed_with fed begun
feed-takes q f piece h = Reading.reads-takes (feeds-read f).reads piece line_words h (omega arith)
