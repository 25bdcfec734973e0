-- The program `ask` call by call: what each writes, and where it leaves the program standing. Assumes nothing.
use Rattle.std.specs.Prelude.{ℕ, suc, Option, Some, None, ◌-◌, min, ◌≡◌, Bool, cond, ◌||◌, List, [], leb, eqb, length, take}
use Rattle.std.specs.Bool.{then_some}
use Rattle.lists.specs.Lists.{last_or, over_front}
use Rattle.ways.specs.Ways.{pair}
use Rattle.planners.specs.Openings.{Place}
use Rattle.board.specs.declared.Board.{Board}
use Rattle.board.specs.Refusals.{refused_openings}
use Rattle.board.specs.Calls.{or_refused, remaining, opened}
use Rattle.session.specs.declared.Ending.{Ending}
use Rattle.session.specs.Recording.{most_events}
use Rattle.text.specs.Output.{Output}
use Rattle.questions.specs.declared.Question.{Question}
use Rattle.questions.specs.declared.Question.TheVariants as Asked
use Rattle.board_text.specs.BoardText.{answer_text}
use Rattle.reader.specs.Reader.{first_reader, fed, end_of}
use Rattle.asking.specs.declared.Page.{Page}
use Rattle.asking.specs.declared.Part.{Part}
use Rattle.asking.specs.declared.Asking.{Asking}
use Rattle.asking.specs.declared.Fed.{Fed}
use Rattle.asking.specs.declared.Closed.{Closed}
use Rattle.asking.specs.declared.Went.{Went}
use Rattle.asking.specs.Asking.{places_text, openings_text, answered, whole?, end_text}

-- a part of the answer: its text, and the page of openings that follows it, if one does
pub record Piece : Type 0 where
  pub text : List ℕ
  pub page : Option Page

-- nothing follows
abbrev pub alone : List ℕ → Piece
alone text = record { text = text; page = None }

-- THE FIRST PART: all of the answer; of openings the line `answer N`, and their pages follow if N is 0
unfoldable pub first_part : Option Question → Board → Piece
first_part None b = alone []
first_part (Some Asked.Horizon) b = alone (answered (Some Asked.Horizon) b)
first_part (Some (Asked.Busy i)) b = alone (answered (Some (Asked.Busy i)) b)
first_part (Some (Asked.Openings a s c most)) b =
    let number = (opened b a s c 0).number in
    record { text = answer_text number; page = then_some (eqb number 0) (record { task = a; start = s; column = c; left = most }) }
first_part (Some Asked.Board) b = alone (answered (Some Asked.Board) b)
first_part (Some (Asked.Stamp i)) b = alone (answered (Some (Asked.Stamp i)) b)

-- a page has at most so many rows
abbrev pub page_rows : ℕ
page_rows = 2976

-- the openings from a page on, none where the call refuses
unfoldable pub left_to : Board → Page → List Place
left_to b p = or_refused {A = List Place} (refused_openings b p.task) (λ k. []) (remaining b p.task p.start p.column)

-- all that may still be given stands on this page
abbrev pub last_page? : ℕ → List Place → Bool
last_page? left ps = leb left page_rows || leb (length ps) page_rows

-- the page that goes on from the last pair given
abbrev pub page_after : Page → List Place → Page
page_after p ps =
    let last = last_or (pair p.start p.column) ps in
    record { task = p.task; start = last.start; column = last.place; left = p.left - page_rows }

-- A PAGE of the openings
unfoldable pub turned : Board → Page → Piece
turned b p =
    let ps = left_to b p in
    cond (last_page? p.left ps) (alone (openings_text p.left ps))
    record { text = places_text (take page_rows ps); page = Some (page_after p (take page_rows ps)) }

-- the code answers with a part's length, and its text stands at the front of the lent buffer
abbrev pub as_part : Piece → Part
as_part p = record { used = length p.text; page = p.page }

-- the part of which nothing follows
abbrev pub whole_part : ℕ → Part
whole_part n = record { used = n; page = None }

pub record Said (p : Piece) (r : Part) (lent out : List ℕ) : Type 0 where
  pub answer : r ≡ as_part p
  pub text : out ≡ over_front p.text lent

-- BEGIN
unfoldable pub begun : Option Question → Asking
begun q = record { reader = first_reader; question = q; page = None }

-- room for the words of 992 lines, which nobody reads
abbrev pub line_words : ℕ
line_words = 5952

-- FEED: a piece of the recording, in silence
unfoldable pub fed_with : Asking → List ℕ → Fed
fed_with a piece =
    let f = fed a.reader piece line_words in
    record { asking = record { reader = f.reader; question = a.question; page = a.page }; taken = f.taken }

-- the number of the next event; there is none past the last that may be
abbrev pub next_event : ℕ → ℕ
next_event n = min (suc n) most_events

-- what follows the last piece of the recording: the first part of the answer, where the recording is whole
unfoldable pub closing_part : Asking → Ending → Piece
closing_part a end = cond (whole? end) (first_part a.question a.reader.state.board) (alone [])

-- CLOSE: what is written as the input ends, and what is answered
unfoldable pub closing : Asking → Output
closing a = record { out = (closing_part a (end_of a.reader)).text; err = end_text (next_event a.reader.number) (end_of a.reader) }

unfoldable pub closed : Asking → Closed
closed a =
    let p = closing_part a (end_of a.reader) in
    record {
      asking = record { reader = a.reader; question = a.question; page = p.page };
      used = length p.text;
      said = length (closing a).err;
    }

-- NEXT: a page more, where one follows
unfoldable pub paged : Board → Option Page → Piece
paged b None = alone []
paged b (Some p) = turned b p

unfoldable pub next_part : Asking → Piece
next_part a = paged a.reader.state.board a.page

unfoldable pub went : Asking → Went
went a =
    let p = next_part a in
    record { asking = record { reader = a.reader; question = a.question; page = p.page }; used = length p.text }
