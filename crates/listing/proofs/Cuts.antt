-- FOR EVERY WAY TO CUT A RECORDING INTO PIECES, and every room for the text: what `plan` writes is the text of the whole. Assumes nothing.
use Prim.Native.Nat.{ℕ, ◌+◌, ◌*◌, ◌≤◌, ◌<◌}
use mathlib.Core.Path.{◌≡◌, refl, sym, ap, ap₂, ◌∙◌}
use mathlib.Core.Bool.{Bool, true, false, cond}
use mathlib.Core.List.{List, [], ◌∷◌, ◌++◌, append-nil, append_assoc}
use native.Mathlib.Omega.{arith}
use lib.ListN.{length, drop}
use Rattle.lists.specs.Lists.{each}
use Rattle.text.specs.Output.{Output}
use Rattle.events.specs.declared.Event.{Event}
use Rattle.session.specs.Recording.{Line, Story, story}
use Rattle.session.proofs.Recorded.{told}
use Rattle.reader.specs.Reader.{first_reader, end_of, last_lines}
use Rattle.reader.proofs.Cuts.{Reads, done, feed, closing, reads_whole, Sane, heard-takes}
use Rattle.reader.proofs.Counts.{reads-number, first-number}
use Rattle.listing.specs.declared.Listing.{Listing}
use Rattle.listing.specs.Listing.{header_text, listing_text, end_text, plan_text, first_listing, lines_in, heard_in, listed, last_text, said_text}

-- A WAY TO LIST: a piece of what is left, with any room for text, until no byte is left; the text on the way, and the machine at its end
pub data Lists : Listing → List ℕ → List ℕ → Listing → Type 0 where
  none_left : (l : Listing) → Lists l [] [] l
  piece : (l : Listing) (p more : List ℕ) (room : ℕ) {text : List ℕ} {last : Listing}
      → Lists (listed l p room).listing (drop (listed l p room).taken (p ++ more)) text last
      → Lists l (p ++ more) (listing_text l.words (heard_in l p room).lines ++ text) last

each_append : {A : Type 0} (xs ys : List A) (f : A → List ℕ) → each (xs ++ ys) f ≡ each xs f ++ each ys f
unfolding each
each_append [] ys f = refl
each_append (x ∷ xs) ys f = ap (λ l. f x ++ l) (each_append xs ys f) ∙ sym (append_assoc (f x) (each xs f) (each ys f))

text-append : (w : Bool) (xs ys : List Line) → listing_text w (xs ++ ys) ≡ listing_text w xs ++ listing_text w ys
unfolding listing_text
text-append true xs ys = each_append xs ys _
text-append false xs ys = each_append xs ys _

text-none : (w : Bool) → listing_text w [] ≡ []
unfolding listing_text each
text-none true = refl
text-none false = refl

-- the lines that a listing has read
pub record Read (l : Listing) (bytes text : List ℕ) (last : Listing) : Type 0 where
  pub lines : List Line
  pub events : List Event
  pub reads : Reads l.reader bytes lines events last.reader
  pub written : text ≡ listing_text l.words lines
  pub words : last.words ≡ l.words

pub lists-read : {l last : Listing} {bytes text : List ℕ} → Lists l bytes text last → Read l bytes text last
unfolding listed
lists-read (none_left l) = record { lines = []; events = []; reads = done l.reader; written = sym (text-none l.words); words = refl }
lists-read (piece l p more room {text} {last} next) =
    let r = lists-read next in
    let h = heard_in l p room in
    record {
      lines = h.lines ++ r.lines;
      events = h.events ++ r.events;
      reads = feed l.reader p more (6 * lines_in l.words room) r.reads;
      written = ap (λ t. listing_text l.words h.lines ++ t) r.written ∙ sym (text-append l.words h.lines r.lines);
      words = r.words;
    }

-- what is written in all: the header, the text of the pieces, and what is left at the end
abbrev pub wrote : Bool → List ℕ → Listing → Output
wrote w text last = record { out = header_text w ++ (text ++ last_text last); err = said_text last }

-- THE THEOREM
pub lists-whole : (w : Bool) {bytes text : List ℕ} {last : Listing} → Lists (first_listing w) bytes text last → wrote w text last ≡ plan_text w bytes
unfolding first_listing plan_text
lists-whole w {bytes} {text} {last} way =
    let r = lists-read way in
    let e : story bytes ≡ told r.lines r.events (closing last.reader) = reads_whole r.reads in
    let n : last.reader.number ≡ length r.events = reads-number r.reads ∙ (let y : first_reader.number + length r.events ≡ length r.events = omega (arith, first-number) in y) in
    let all : text ++ last_text last ≡ listing_text w (story bytes).lines =
    ap₂ (λ t b. t ++ listing_text b (last_lines last.reader.number (end_of last.reader))) r.written r.words
    ∙ sym (text-append w r.lines (last_lines last.reader.number (end_of last.reader)))
    ∙ ap (λ (s : Story). listing_text w s.lines) (sym e) in
    let count : length (story bytes).events ≡ last.reader.number = ap (λ (s : Story). length s.events) e ∙ ap length (no_more r.events) ∙ sym n in
    let said : said_text last ≡ end_text (length (story bytes).events) (story bytes).end =
    ap₂ end_text (sym count) (ap (λ (s : Story). s.end) (sym e)) in
    λ i. record { out = header_text w ++ all i; err = said i }
  where
    no_more : (vs : List Event) → vs ++ [] ≡ vs
    no_more vs = append-nil vs

-- PROGRESS: with room for a line, something is taken of a piece that has a byte
pub listed-takes : (l : Listing) → Sane l.reader → (p : List ℕ) (room : ℕ) → 0 < length p → cond l.words 134 66 ≤ room → 0 < (listed l p room).taken
unfolding listed
listed-takes l s p room h q = heard-takes l.reader s p (6 * lines_in l.words room) h (enough l.words q)
  where
    enough : (b : Bool) → cond b 134 66 ≤ room → 6 ≤ 6 * lines_in b room
    enough true k = omega arith
    enough false k = omega arith
