-- WHAT THE PROGRAM `plan` WRITES, from the bytes of a recording to the bytes of its listing. Assumes nothing.
use Rattle.std.specs.Prelude.{ℕ, suc, ◌*◌, ◌/◌, min, Bool, cond, List, [], ◌++◌, length}
use Rattle.lists.specs.Lists.{each, over_front}
use Rattle.text.specs.Text.{ascii, decimal, row_text}
use Rattle.text.specs.Output.{Output}
use Rattle.worded.specs.Worded.{row_of, worded_text}
use Rattle.session.specs.declared.Ending.{Ending}
use Rattle.session.specs.declared.Ending.TheVariants.{NotYet, AtEnd, In15, In16, AtLast, PastLast}
use Rattle.session.specs.Recording.{Line, story}
use Rattle.reader.specs.declared.Closed.{Closed}
use Rattle.reader.specs.Reader.{Heard, first_reader, heard, end_of, last_lines}
use Rattle.listing.specs.declared.Listing.{Listing}
use Rattle.listing.specs.declared.Listed.{Listed}

-- "prints a header": `--words` adds the id and the answer in words
unfoldable pub header_text : Bool → List ℕ
header_text words = cond words (ascii "event kind answer column start finish id answer\n") (ascii "event kind answer column start finish\n")

-- "a line each"
unfoldable pub listing_text : Bool → List Line → List ℕ
listing_text words ls = cond words (each ls worded_text) (each ls (λ l. row_text (row_of l)))

-- a message names the event and its kind byte
unfoldable pub stop_text : ℕ → ℕ → List ℕ → List ℕ
stop_text n kind tail = ascii "plan: event " ++ (decimal (suc n) ++ (ascii " (kind " ++ (decimal kind ++ tail)))

-- "a message on standard error after 15, 16 and the billionth event"
unfoldable pub end_text : ℕ → Ending → List ℕ
end_text n NotYet = []
end_text n AtEnd = []
end_text n (In15 k) = stop_text n k (ascii ") is cut short (15): the recording is not whole\n")
end_text n (In16 k) = stop_text n k (ascii ") is of no known kind (16): the rest was not read\n")
end_text n AtLast = ascii "plan: stopped after 1000000000 events\n"
end_text n PastLast = ascii "plan: stopped after 1000000000 events\n"

-- THE TEXT OF `plan`: "prints a header, then a line each"
unfoldable pub plan_text : Bool → List ℕ → Output
plan_text words bytes =
    let s = story bytes in
    record { out = header_text words ++ listing_text words s.lines; err = end_text (length s.events) s.end }

-- the machine at its begin
unfoldable pub first_listing : Bool → Listing
first_listing words = record { reader = first_reader; words = words }

-- as many lines as there is room for and 992 at most: a line takes 66 bytes at most, and 134 with words
abbrev pub lines_in : Bool → ℕ → ℕ
lines_in words room = min 992 (room / cond words 134 66)

-- a piece, with so much room
abbrev pub heard_in : Listing → List ℕ → ℕ → Heard
heard_in l piece room = heard l.reader piece (6 * lines_in l.words room)

unfoldable pub listed : Listing → List ℕ → ℕ → Listed
listed l piece room =
    let h = heard_in l piece room in
    record { listing = record { reader = h.reader; words = l.words }; taken = h.taken; used = length (listing_text l.words h.lines) }

unfoldable pub listed_text : Listing → List ℕ → List ℕ → List ℕ
listed_text l piece out = over_front (listing_text l.words (heard_in l piece (length out)).lines) out

-- at the end of the input: the line of a 15, and the message
abbrev pub last_text : Listing → List ℕ
last_text l = listing_text l.words (last_lines l.reader.number (end_of l.reader))

abbrev pub said_text : Listing → List ℕ
said_text l = end_text l.reader.number (end_of l.reader)

unfoldable pub closed : Listing → Closed
closed l = record { used = length (last_text l); said = length (said_text l) }
