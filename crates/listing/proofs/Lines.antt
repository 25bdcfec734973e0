-- The lines of a piece, from their numbers to their text. Assumes nothing.
use Prim.Native.Nat.{ℕ, zero, suc, ◌+◌, ◌-◌, ◌*◌, ◌≤◌, ◌<◌, min}
use mathlib.Core.Path.{◌≡◌, refl, sym, ap, ◌∙◌, subst}
use mathlib.Core.Bool.{Bool, true, false, cond}
use mathlib.Core.List.{List, [], ◌∷◌, ◌++◌, append-nil, append_assoc}
use borrow.Author.Tests.{eq-eqb, ne_eqb}
use lib.ListN.{length, take, drop}
use lib.Seq.{drop-drop}
use Rattle.lists.specs.Lists.{each}
use Rattle.text.specs.Text.{row_text, rows_text, rows_of}
use Rattle.events.specs.declared.Event.{Event}
use Rattle.std.specs.Prelude.{Ok, Err, Some, None}
use Rattle.events.specs.declared.ReadError.TheVariants.{CutShort, Unknown}
use Rattle.events.specs.Records.{Reading, read_from}
use Rattle.board.specs.Answers.{Told}
use Rattle.steps.specs.declared.State.{State}
use Rattle.session.specs.Recording.{Line, line_of, stop_line, outcome, Run, still, ran_from, room_for, line_numbers}
use Rattle.session.proofs.Running.{ran-got}
use Rattle.worded.specs.Worded.{row_of, worded_text}
use Rattle.worded.specs.Rows.{worded_row, id_read, size_read, worded_rows}
use Rattle.reader.specs.declared.Reader.{Reader}
use Rattle.reader.specs.Reader.{held_of, Heard, source_of, meets_stranger, heard_over, heard}
use Rattle.reader.proofs.Cases.{over_by, heard-by}
use Rattle.listing.specs.Listing.{listing_text}
use Rattle.listing.specs.Code.{text_of}

-- where nothing is held, a piece is read by itself
pub source-alone : (r : Reader) (p : List ℕ) → length (held_of r) ≡ 0 → source_of r p ≡ p
unfolding source_of
source-alone r p e = rw (eq-eqb (length (held_of r)) 0 e)

pub source-behind : (r : Reader) (p : List ℕ) → (length (held_of r) ≡ 0 → ⊥) → source_of r p ≡ take 18 (held_of r ++ p)
unfolding source_of
source-behind r p e = rw (ne_eqb (length (held_of r)) 0 e)

-- PLAIN LINES
plain : (ls : List Line) (rest : List ℕ) → rows_text (rows_of 6 (length ls) (line_numbers ls ++ rest)) ≡ each ls (λ l. row_text (row_of l))
unfolding rows_text rows_of each line_numbers
plain [] rest = refl
plain (l ∷ ls) rest = ap (λ x. row_text (row_of l) ++ x) (plain ls rest)

-- LINES IN WORDS: a line's own event stands at the front of the bytes
worded-one : (l : Line) (ls : List Line) (rest bytes : List ℕ) → l.id ≡ id_read (read_from bytes)
    → worded_rows (suc (length ls)) (line_numbers (l ∷ ls) ++ rest) bytes ≡ worded_text l ++ worded_rows (length ls) (line_numbers ls ++ rest) (drop (size_read (read_from bytes)) bytes)
unfolding worded_rows line_numbers worded_row worded_text
worded-one l ls rest bytes e = ap (λ d. worded_row (row_of l) l.answer d ++ worded_rows (length ls) (line_numbers ls ++ rest) (drop (size_read (read_from bytes)) bytes)) (sym e)

worded-none : (rest bytes : List ℕ) → worded_rows 0 rest bytes ≡ []
unfolding worded_rows
worded-none rest bytes = refl

line-id : (n : ℕ) (v : Event) (a : Told) (size : ℕ) → (line_of n v a).id ≡ id_read (Ok (Some (v, size)))
unfolding line_of id_read
line-id n v a size = refl

got-size : (v : Event) (size : ℕ) → size_read (Ok (Some (v, size))) ≡ size
unfolding size_read
got-size v size = refl

stop-id : (n k m : ℕ) → (stop_line n k m).id ≡ id_read (Err (Unknown k))
unfolding stop_line id_read
stop-id n k m = refl

-- the lines of a run, and those behind them
worded-run : (room : ℕ) (b : State) (n : ℕ) (bytes : List ℕ) (ls : List Line) (rest : List ℕ) → let run = ran_from room b n bytes in
    worded_rows (length (run.lines ++ ls)) (line_numbers (run.lines ++ ls) ++ rest) bytes
    ≡ each run.lines worded_text ++ worded_rows (length ls) (line_numbers ls ++ rest) (drop run.taken bytes)
unfolding ran_from each
worded-run zero b n bytes ls rest = refl
worded-run (suc room) b n bytes ls rest = go (λ c m ws. worded-run room c m ws ls rest) (read_from bytes) refl
  where
    Runs : Run → List ℕ → Type 0
    Runs run ws =
        worded_rows (length (run.lines ++ ls)) (line_numbers (run.lines ++ ls) ++ rest) ws
        ≡ each run.lines worded_text ++ worded_rows (length ls) (line_numbers ls ++ rest) (drop run.taken ws)

    stopped : ran_from (suc room) b n bytes ≡ still b → Runs (ran_from (suc room) b n bytes) bytes
    stopped e = subst (λ x. Runs x bytes) (sym e) refl

    go : ((c : State) (m : ℕ) (ws : List ℕ) → Runs (ran_from room c m ws) ws) → (r : Reading) → read_from bytes ≡ r → Runs (ran_from (suc room) b n bytes) bytes
    go next (Ok None) e = stopped (rw (e, ran_from))
    go next (Err (CutShort k)) e = stopped (rw (e, ran_from))
    go next (Err (Unknown k)) e = stopped (rw (e, ran_from))
    go next (Ok (Some (v, size))) e = subst (λ x. Runs x bytes) (sym (ran-got room b n bytes v size e)) one
      where
        later : Run
        later = ran_from room (outcome b v).state (suc n) (drop size bytes)

        line : Line
        line = line_of (suc n) v (outcome b v).answer

        its-id : line.id ≡ id_read (read_from bytes)
        its-id = line-id (suc n) v (outcome b v).answer size ∙ ap id_read (sym e)

        its-size : size_read (read_from bytes) ≡ size
        its-size = ap size_read e ∙ got-size v size

        one : Runs (record { lines = line ∷ later.lines; events = v ∷ later.events; state = later.state; taken = size + later.taken }) bytes
        one =
            worded-one line (later.lines ++ ls) rest bytes its-id
            ∙ ap (λ m. worded_text line ++ worded_rows (length (later.lines ++ ls)) (line_numbers (later.lines ++ ls) ++ rest) (drop m bytes)) its-size
            ∙ ap (λ x. worded_text line ++ x)
            (next (outcome b v).state (suc n) (drop size bytes)
            ∙ ap (λ ws. each later.lines worded_text ++ worded_rows (length ls) (line_numbers ls ++ rest) ws) (drop-drop later.taken size bytes))
            ∙ sym (append_assoc (worded_text line) (each later.lines worded_text) _)

each_append : (xs ys : List Line) (f : Line → List ℕ) → each (xs ++ ys) f ≡ each xs f ++ each ys f
unfolding each
each_append [] ys f = refl
each_append (x ∷ xs) ys f = ap (λ l. f x ++ l) (each_append xs ys f) ∙ sym (append_assoc (f x) (each xs f) (each ys f))

-- the lines of a piece say what their numbers and the bytes of their events say
abbrev Says : List ℕ → List ℕ → Heard → Type 0
Says bytes rest h = worded_rows (length h.lines) (line_numbers h.lines ++ rest) bytes ≡ each h.lines worded_text

each-one : (l : Line) → each (l ∷ []) worded_text ≡ worded_text l ++ []
unfolding each
each-one l = refl

no_lines : (rest bytes : List ℕ) → worded_rows 0 (line_numbers [] ++ rest) bytes ≡ each [] worded_text
unfolding worded_rows each
no_lines rest bytes = refl

worded-over : (r : Reader) (kept : ℕ) (bytes : List ℕ) (words : ℕ) (rest : List ℕ) → Says bytes rest (heard_over r kept bytes words)
worded-over r kept bytes words rest = over_by (Says bytes rest) r kept bytes words (λ q. only) strange (λ q f. only)
  where
    room : ℕ
    room = room_for words r.number

    run : Run
    run = ran_from room r.state r.number bytes

    left : List ℕ
    left = drop run.taken bytes

    -- the lines of the run alone
    only : worded_rows (length run.lines) (line_numbers run.lines ++ rest) bytes ≡ each run.lines worded_text
    only =
        ap (λ ls. worded_rows (length ls) (line_numbers ls ++ rest) bytes) (sym (append-nil run.lines))
        ∙ worded-run room r.state r.number bytes [] rest
        ∙ ap (λ x. each run.lines worded_text ++ x) (worded-none (line_numbers [] ++ rest) left) ∙ append-nil (each run.lines worded_text)

    -- and the line of a stranger behind them
    strange : length run.lines < room → (k : ℕ) → read_from left ≡ Err (Unknown k) → Says bytes rest (meets_stranger r run (length bytes - kept) k)
    strange q k e =
        worded-run room r.state r.number bytes (line ∷ []) rest ∙ ap (λ x. each run.lines worded_text ++ x) last
        ∙ sym (each_append run.lines (line ∷ []) worded_text)
      where
        line : Line
        line = stop_line (suc (r.number + length run.lines)) k 16

        last : worded_rows 1 (line_numbers (line ∷ []) ++ rest) left ≡ each (line ∷ []) worded_text
        last =
            worded-one line [] rest left (stop-id (suc (r.number + length run.lines)) k 16 ∙ ap id_read (sym e))
            ∙ ap (λ x. worded_text line ++ x) (worded-none (line_numbers [] ++ rest) (drop (size_read (read_from left)) left)) ∙ sym (each-one line)

worded-heard : (r : Reader) (p : List ℕ) (words : ℕ) (rest : List ℕ) → Says (source_of r p) rest (heard r p words)
worded-heard r p words rest =
    heard-by (Says (source_of r p) rest) r p words
    (λ o q. subst (λ l. Says l rest (heard_over r 0 p words)) (sym (source-alone r p q)) (worded-over r 0 p words rest))
    (λ o q.
    subst (λ l. Says l rest (heard_over r (length (held_of r)) (take 18 (held_of r ++ p)) (min words 6))) (sym (source-behind r p q))
    (worded-over r (length (held_of r)) (take 18 (held_of r ++ p)) (min words 6) rest))
    (λ c. no_lines rest (source_of r p))

-- THE TEXT OF A PIECE
pub told_text : (words : Bool) (r : Reader) (p : List ℕ) (w : ℕ) (rest : List ℕ) → let h = heard r p w in
    text_of words (length h.lines) (line_numbers h.lines ++ rest) (source_of r p) ≡ listing_text words h.lines
unfolding text_of listing_text
told_text true r p w rest = worded-heard r p w rest
told_text false r p w rest = plain (heard r p w).lines rest

-- the text of lines, with words and without
pub text-words : (w : Bool) (count : ℕ) (numbers bytes : List ℕ) → w ≡ true → text_of w count numbers bytes ≡ worded_rows count numbers bytes
unfolding text_of
text-words w count numbers bytes e = rw e

pub text-plain : (w : Bool) (count : ℕ) (numbers bytes : List ℕ) → w ≡ false → text_of w count numbers bytes ≡ rows_text (rows_of 6 count numbers)
unfolding text_of
text-plain w count numbers bytes e = rw e

-- the room that lines take, with words and without
pub room-words : (w : Bool) (count room : ℕ) → w ≡ true → count * cond w 134 66 ≤ room → count * 134 ≤ room
room-words w count room e h = subst (λ b. count * cond b 134 66 ≤ room) e h

pub room-plain : (w : Bool) (count room : ℕ) → w ≡ false → count * cond w 134 66 ≤ room → count * 66 ≤ room
room-plain w count room e h = subst (λ b. count * cond b 134 66 ≤ room) e h
