-- A run over the bytes that have come, and what its reader tells of it: the three ways in which `reader::hear` answers. Assumes nothing.
use Prim.Native.Nat.{ℕ, suc, ◌+◌, ◌-◌, ◌*◌, ◌≤◌, ◌<◌}
use mathlib.Core.Path.{◌≡◌, sym, ap, ap₂, ◌∙◌}
use mathlib.Core.Bool.{true, cond}
use mathlib.Core.List.{List, [], ◌∷◌, ◌++◌}
use native.Mathlib.Nat.{zero-add}
use native.Mathlib.Omega.{arith}
use borrow.Author.Tests.{lt-ltb, le-ltb}
use lib.Dec.{ltb, eqb}
use lib.ListN.{length, drop, length-append, length-drop}
use lib.Seq.{sets, sets-eq}
use Rattle.lists.specs.Lists.{over_front}
use Rattle.lists.proofs.Stores.{sets-append}
use Rattle.std.specs.Prelude.{Ok, Err, Some, None}
use Rattle.events.specs.Records.{Reading}
use Rattle.events.specs.declared.ReadError.TheVariants.{CutShort, Unknown}
use Rattle.events.specs.Records.{read_from}
use Rattle.events.proofs.Pieces.{Begun}
use Rattle.session.specs.declared.Ending.{Ending}
use Rattle.session.specs.declared.Ending.TheVariants.{NotYet, In16, AtLast}
use Rattle.session.specs.declared.Ran.{Ran}
use Rattle.session.specs.Recording.{Line, stop_line, Run, ran_from, room_for, line_numbers, most_events, ran, ran_buffer}
use Rattle.session.proofs.Running.{words_append, words-length}
use Rattle.session.proofs.Recorded.{run-few, run-stops}
use Rattle.reader.specs.declared.Reader.{Reader}
use Rattle.reader.specs.Reader.{stops_before, heard_over}
use Rattle.reader.specs.Told.{judged, Told}
use Rattle.reader.proofs.Cases.{stops-known}

-- known, or a stranger
pub judged-known : (x : Reading) → judged x ≡ None → (k : ℕ) → x ≡ Err (Unknown k) → ⊥
unfolding judged
judged-known x h k e = let q : None ≡ Some k = sym h ∙ ap judged e in let w : ◌≡◌ {A = ℕ} 0 1 = cc in omega arith

pub judged-strange : (x : Reading) {k : ℕ} → judged x ≡ Some k → x ≡ Err (Unknown k)
unfolding judged
judged-strange (Ok x) h = absurd (let w : ◌≡◌ {A = ℕ} 0 1 = cc in omega arith)
judged-strange (Err (CutShort j)) h = absurd (let w : ◌≡◌ {A = ℕ} 0 1 = cc in omega arith)
judged-strange (Err (Unknown j)) {k} h = let q : j ≡ k = cc in ap (λ y. Err (Unknown y)) q

-- a run, as the code has it
module _ (r : Reader) (kept : ℕ) (bytes lent : List ℕ) (x : Ran) (e : x ≡ ran r.state r.number bytes (length lent)) where
  abbrev room : ℕ
  room = room_for (length lent) r.number

  abbrev run : Run
  run = ran_from room r.state r.number bytes

  counted : x.count ≡ length run.lines
  counted = unfold ran in ap (λ y. y.count) e

  taken-bytes : x.taken ≡ run.taken
  taken-bytes = unfold ran in ap (λ y. y.taken) e

  follows : x.state ≡ run.state
  follows = unfold ran in ap (λ y. y.state) e

  pub few : x.count ≤ room
  few = let h = run-few room r.state r.number bytes in omega (arith, counted)

  pub fewer : {most : ℕ} → most ≡ room → (x.count ≡ most → ⊥) → x.count < room
  fewer m f = let h = few in let y : x.count ≡ room → ⊥ = λ q. f (q ∙ sym m) in omega arith

  -- THE ROOM IS FULL
  pub hear-full : x.count ≡ room → {answers : List ℕ} → answers ≡ ran_buffer r.state r.number bytes lent
      → {number size taken : ℕ} {end : Ending} → number ≡ r.number + x.count → size ≡ cond (eqb x.taken 0) r.size 0
      → taken ≡ x.taken - kept → end ≡ cond (ltb number most_events) NotYet AtLast
      → Told (heard_over r kept bytes (length lent))
      (record { reader = record { state = x.state; number = number; held = r.held; size = size; end = end }; taken = taken; count = x.count }) lent answers
  unfolding heard_over ran_buffer
  hear-full h b n s t q = rw (le-ltb (length run.lines) room (omega (arith, counted))) record {
    answer = λ i. record {
      reader = record {
        state = follows i;
        number = (n ∙ ap (λ c. r.number + c) counted) i;
        held = r.held;
        size = (s ∙ ap (λ c. cond (eqb c 0) r.size 0) taken-bytes) i;
        end = (q ∙ ap (λ c. cond (ltb c most_events) NotYet AtLast) (n ∙ ap (λ c. r.number + c) counted)) i;
      };
      taken = (t ∙ ap (λ c. c - kept) taken-bytes) i;
      count = counted i;
    };
    lines = b;
  }

  -- there is room for more
  module _ (h : x.count < room) where
    more : ltb (length run.lines) room ≡ true
    more = lt-ltb (length run.lines) room (omega (arith, counted))

    pub rest-is : drop x.taken bytes ≡ drop run.taken bytes
    rest-is = ap (λ c. drop c bytes) taken-bytes

    -- what is left begins a record
    pub rest-begun : ((k : ℕ) → read_from (drop x.taken bytes) ≡ Err (Unknown k) → ⊥) → Begun (drop x.taken bytes)
    rest-begun g = record {
      not-whole = λ v n q. run-stops room r.state r.number bytes (omega (arith, counted)) v n (sym (ap read_from rest-is) ∙ q);
      no-stranger = g;
    }

    -- AN UNKNOWN KIND gets its line
    pub hear-strange : {kind : ℕ} → read_from (drop x.taken bytes) ≡ Err (Unknown kind) → {before answers : List ℕ} → before ≡ ran_buffer r.state r.number bytes lent
        → {number taken count : ℕ} → number ≡ r.number + x.count → taken ≡ length bytes - kept → count ≡ x.count + 1
        → answers ≡ sets before (x.count * 6) ((number + 1) ∷ kind ∷ 16 ∷ 0 ∷ 0 ∷ 0 ∷ [])
        → Told (heard_over r kept bytes (length lent))
        (record { reader = record { state = x.state; number = number; held = r.held; size = 0; end = In16 kind }; taken = taken; count = count }) lent answers
    unfolding heard_over ran_buffer stops_before line_numbers stop_line
    hear-strange {kind} u {before} {answers} b {number} n t c a = rw (more, sym (ap read_from rest-is) ∙ u) record {
      answer = λ i. record {
        reader = record { state = follows i; number = place i; held = r.held; size = 0; end = In16 kind };
        taken = t i;
        count = (c ∙ one_more) i;
      };
      lines = a ∙ ap (λ y. sets y (x.count * 6) ((number + 1) ∷ kind ∷ 16 ∷ 0 ∷ 0 ∷ 0 ∷ [])) (b ∙ sym (over run.lines fits))
          ∙ ap₂ (λ at six. sets (sets lent 0 (line_numbers run.lines)) at six) behind six-is
          ∙ sets-append lent 0 (line_numbers run.lines) (line_numbers (line ∷ []))
          ∙ ap (sets lent 0) (sym (words_append run.lines (line ∷ [])))
          ∙ over (run.lines ++ (line ∷ [])) all_fit;
    }
      where
        line : Line
        line = stop_line (suc (r.number + length run.lines)) kind 16

        place : number ≡ r.number + length run.lines
        place = n ∙ ap (λ y. r.number + y) counted

        one_more : x.count + 1 ≡ length (run.lines ++ (line ∷ []))
        one_more = omega (arith, counted, length-append run.lines (line ∷ []))

        over : (ls : List Line) → length (line_numbers ls) ≤ length lent → sets lent 0 (line_numbers ls) ≡ over_front (line_numbers ls) lent
        over ls f = sets-eq (line_numbers ls) lent 0 (omega arith) ∙ rw zero-add

        fits : length (line_numbers run.lines) ≤ length lent
        fits = omega (arith, words-length run.lines, counted)

        all_fit : length (line_numbers (run.lines ++ (line ∷ []))) ≤ length lent
        all_fit = omega (arith, words-length (run.lines ++ (line ∷ [])), one_more)

        behind : x.count * 6 ≡ 0 + length (line_numbers run.lines)
        behind = omega (arith, words-length run.lines, counted)

        six-is : ((number + 1) ∷ kind ∷ 16 ∷ 0 ∷ 0 ∷ 0 ∷ []) ≡ line_numbers (line ∷ [])
        six-is = let y : number + 1 ≡ suc (r.number + length run.lines) = omega (arith, place) in λ i. y i ∷ kind ∷ 16 ∷ 0 ∷ 0 ∷ 0 ∷ []

    -- THE BEGIN OF A RECORD is held
    pub hear-held : ((k : ℕ) → read_from (drop x.taken bytes) ≡ Err (Unknown k) → ⊥) → {answers held : List ℕ} → answers ≡ ran_buffer r.state r.number bytes lent
        → held ≡ over_front (drop x.taken bytes) r.held
        → {number size taken : ℕ} → number ≡ r.number + x.count → size ≡ length bytes - x.taken → taken ≡ length bytes - kept
        → Told (heard_over r kept bytes (length lent))
        (record { reader = record { state = x.state; number = number; held = held; size = size; end = NotYet }; taken = taken; count = x.count }) lent answers
    unfolding heard_over ran_buffer
    hear-held g b q n s t =
        rw (more, stops-known r run (drop run.taken bytes) (length bytes - kept) (read_from (drop run.taken bytes)) known) record {
          answer = λ i. record {
            reader = record {
              state = follows i;
              number = (n ∙ ap (λ c. r.number + c) counted) i;
              held = (q ∙ ap (λ y. over_front y r.held) rest-is) i;
              size = (s ∙ (let y : length bytes - x.taken ≡ length (drop run.taken bytes) = omega (arith, length-drop run.taken bytes, taken-bytes) in y)) i;
              end = NotYet;
            };
            taken = t i;
            count = counted i;
          };
          lines = b;
        }
      where
        known : (k : ℕ) → read_from (drop run.taken bytes) ≡ Err (Unknown k) → ⊥
        known k u = g k (ap read_from rest-is ∙ u)
