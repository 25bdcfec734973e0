-- The machine that adds summaries, byte by byte; proofs/Taken and proofs/Given say what it comes to in the words of `Adding`. Assumes nothing.
use Rattle.std.specs.Prelude.{ℕ, zero, suc, ◌+◌, ◌-◌, ◌*◌, Bool, true, false, cond, not, ◌&&◌, ◌||◌, List, [], ◌∷◌, ◌++◌, ltb, leb, eqb, get_or, set, take, Option, Some, None, is_none}
use Rattle.text.specs.Text.{ascii, decimal}
use Rattle.tokens.specs.Tokens.{digit, same}
use Rattle.sheets.specs.Sheets.{plus, fits?}
use Rattle.adding.specs.Adding.{whole_text, no_figures}
use Rattle.adding.specs.declared.Fault.{Fault}
use Rattle.adding.specs.declared.Fault.TheVariants.{Line, Sum}
use Rattle.adding.specs.declared.Reading.{Reading}
use Rattle.adding.specs.declared.Reading.TheVariants.{Between, Inside, Behind}
use Rattle.adding.specs.declared.Standing.{Standing}
use Rattle.adding.specs.declared.Adding.{Adding}

-- a number has begun; what it is as yet; a slash stands before
abbrev pub inside? : Reading → Bool
inside? Between = false
inside? (Inside v) = true
inside? Behind = false

abbrev pub value_of : Reading → ℕ
value_of Between = 0
value_of (Inside v) = v
value_of Behind = 0

abbrev pub behind? : Reading → Bool
behind? Between = false
behind? (Inside v) = false
behind? Behind = true

-- READING NUMBERS: a number ends before a byte that is no digit and no slash (47)
abbrev pub ends_number : Reading → ℕ → Bool
ends_number r b = (inside? r && not (digit b)) && not (eqb b 47)

-- one digit more, of what 64 bits hold
abbrev pub more_value : ℕ → ℕ → ℕ
more_value v b = cond (leb (v * 10 + (b - 48)) 18446744073709551615) (v * 10 + (b - 48)) 0

-- one byte more; the numbers of a ratio are passed over
unfoldable pub read : Reading → ℕ → Reading
read r b =
    cond (eqb b 47) Behind (cond (digit b) (cond (behind? r) r (Inside (more_value (value_of r) b))) Between)

-- the numbers of a text behind n others, over those of a sheet
unfoldable pub figures_on : List ℕ → ℕ → Reading → List ℕ → List ℕ
figures_on figures n r [] = figures
figures_on figures n r (b ∷ bs) =
    cond (ends_number r b && ltb n 83) (figures_on (set figures n (value_of r)) (n + 1) (read r b) bs) (figures_on figures n (read r b) bs)

unfoldable pub figures_in : List ℕ → List ℕ
figures_in text = figures_on no_figures 0 Between text

-- how many lines two texts share from their begin
unfoldable pub same_lines : List ℕ → List ℕ → ℕ
same_lines [] ys = 0
same_lines (x ∷ xs) [] = 0
same_lines (x ∷ xs) (y ∷ ys) = cond (eqb x y) (cond (eqb x 10) 1 0 + same_lines xs ys) 0

-- a later line's number, as far as 64 bits go
abbrev pub later : ℕ → ℕ → ℕ
later line n = cond (leb n (18446744073709551615 - line)) (line + n) 18446744073709551615

-- the first line of a text, which begins with a line, that is not as a summary of its numbers has it
unfoldable pub wrong_line : ℕ → List ℕ → ℕ
wrong_line line text = later line (same_lines text (whole_text (figures_in text)))

-- a row adds up
abbrev pub adds_up : List ℕ → ℕ → Bool
adds_up ns r = eqb (get_or ns (r * 5) 0) (get_or ns (r * 5 + 1) 0 + get_or ns (r * 5 + 2) 0 + get_or ns (r * 5 + 3) 0)

-- the first row from r on, of n more, that does not; the row behind them where each does
unfoldable pub bad_row : List ℕ → ℕ → ℕ → ℕ
bad_row ns r zero = r
bad_row ns r (suc n) = cond (adds_up ns r) (bad_row ns (r + 1) n) r

-- WHERE THE MACHINE STANDS: the sums so far, the bytes of a summary that has begun
pub record State : Type 0 where
  pub total : List ℕ
  pub begun : List ℕ
  pub at : Standing

-- nothing is held: a summary begins with a line, or the text was refused in it for a reason
abbrev pub nothing_held : ℕ → Bool → Option Fault → Standing
nothing_held line some fault = record { size = 0; lines = 0; line = line; some = some; fault = fault }

-- what comes of bytes that should be a summary: whether they are the text of their numbers, each row adds up, and the sums fit
abbrev pub verdict : List ℕ → ℕ → Bool → List ℕ → Bool → Bool → Bool → State
verdict total line some text like right fit =
    cond like
    (cond right
    (cond fit (record { total = plus total (figures_in text); begun = []; at = nothing_held (later line 19) true None }) (record { total = total; begun = []; at = nothing_held line some (Some Sum) }))
    (record { total = total; begun = []; at = nothing_held (later line (bad_row (figures_in text) 0 16 + 1)) some (Some Line) }))
    (record { total = total; begun = []; at = nothing_held (wrong_line line text) some (Some Line) })

unfoldable pub judged : List ℕ → ℕ → Bool → List ℕ → State
judged total line some text =
    verdict total line some text (same text (whole_text (figures_in text))) (eqb (bad_row (figures_in text) 0 16) 16) (fits? (plus total (figures_in text)))

-- a summary has 19 lines, and fewer than 4096 bytes
abbrev pub ends : ℕ → ℕ → ℕ → Bool
ends lines size b = (eqb b 10 && leb 18 lines) || leb 4095 size

-- the lines that are held with one byte more
abbrev pub counted : ℕ → ℕ → ℕ
counted lines b = cond (eqb b 10 && leb lines 17) (lines + 1) lines

-- a byte more is held
abbrev pub kept : State → ℕ → State
kept s b = record {
  total = s.total;
  begun = s.begun ++ (b ∷ []);
  at = record { size = s.at.size + 1; lines = counted s.at.lines b; line = s.at.line; some = s.at.some; fault = None };
}

-- what comes of a byte more: whether the machine goes on, its buffer is full, and the byte ends a summary
abbrev pub byte_as : State → ℕ → Bool → Bool → Bool → State
byte_as s b on full last =
    cond on
    (cond full (record { total = s.total; begun = []; at = nothing_held s.at.line s.at.some (Some Line) })
    (cond last (judged s.total s.at.line s.at.some (s.begun ++ (b ∷ []))) (kept s b)))
    s

unfoldable pub byte_on : State → ℕ → State
byte_on s b = byte_as s b (is_none s.at.fault) (leb 4096 s.at.size) (ends s.at.lines s.at.size b)

-- bytes, one after the other
unfoldable pub fed_on : State → List ℕ → State
fed_on s [] = s
fed_on s (b ∷ bs) = fed_on (byte_on s b) bs

-- a text begins; it ends: behind a summary, or it is refused
unfoldable pub text_begun : State → State
text_begun s = cond (is_none s.at.fault) (record { total = s.total; begun = []; at = nothing_held 1 false None }) s

abbrev pub end_as : State → Bool → Bool → State
end_as s on behind = cond on (cond behind s (record { total = s.total; begun = []; at = nothing_held (wrong_line s.at.line s.begun) s.at.some (Some Line) })) s

unfoldable pub text_ended : State → State
text_ended s = end_as s (is_none s.at.fault) (eqb s.at.size 0 && s.at.some)

-- a text from its begin to its end; texts, one after the other
unfoldable pub text_added : State → List ℕ → State
text_added s text = text_ended (fed_on (text_begun s) text)

unfoldable pub texts_added : State → List (List ℕ) → State
texts_added s [] = s
texts_added s (t ∷ ts) = texts_added (text_added s t) ts

-- a text in pieces
unfoldable pub pieces_fed : State → List (List ℕ) → State
pieces_fed s [] = s
pieces_fed s (p ∷ ps) = pieces_fed (fed_on s p) ps

-- what is held in code
abbrev pub state_of : List ℕ → List ℕ → Standing → State
state_of total held at = record { total = total; begun = take at.size held; at = at }

abbrev pub state_in : Adding → State
state_in a = state_of a.total a.held a.at

-- nothing is added yet
abbrev pub begun_state : State
begun_state = record { total = no_figures; begun = []; at = nothing_held 1 false None }

-- what is printed at the end: nothing where something was refused
unfoldable pub closing : State → List ℕ
closing s = cond (is_none s.at.fault) (whole_text s.total) []

-- a sum took more than 64 bits
abbrev pub past? : Option Fault → Bool
past? None = false
past? (Some Line) = false
past? (Some Sum) = true

-- why it was refused, behind the name of the program and that of the text
unfoldable pub refusal_text : Standing → List ℕ
refusal_text at =
    cond (past? at.fault) (ascii "the summary at line " ++ (decimal at.line ++ ascii " makes a sum of more than 64 bits\n"))
    (ascii "line " ++ (decimal at.line ++ ascii " is not what a summary that ends in 'stop end' has there\n"))
