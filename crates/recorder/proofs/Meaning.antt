-- What `record` writes, in plain cases: lines that say events give their records and no message; the first wrong line is the last that is read. Assumes nothing.
use Prim.Native.Nat.{ℕ, suc, ◌+◌, ◌-◌, ◌<◌}
use mathlib.Core.Path.{◌≡◌, refl, ap, ◌∙◌}
use mathlib.Core.List.{List, [], ◌∷◌}
use lib.ListN.{length, get_or}
use Rattle.lists.specs.Lists.{each}
use Rattle.events.specs.declared.Event.{Event}
use Rattle.events.specs.Records.{record_of}
use Rattle.text.specs.Output.{before}
use Rattle.tokens.specs.Tokens.{words}
use Rattle.std.proofs.Common.{Some, None, Ok}
use Rattle.lines.specs.declared.Kind.{Kind}
use Rattle.lines.specs.Lines.{Line, wrong_line, bare, says}
use Rattle.recorder.specs.Recorder.{unmarked, wrong_text, made_of, line_made, made, record_lines}
use Rattle.recorder.proofs.Joined.{made-right, lines-made}

made-says : (n records : ℕ) (l : List ℕ) (x : Line) → length l < 65536 → says (unmarked n l) ≡ x → made n records l ≡ made_of n records (unmarked n l) x
unfolding line_made
made-says n records l x h e = made-right n records l h ∙ ap (made_of n records (unmarked n l)) e

-- lines from line n on, none of them too long, that say these events, or nothing
pub data Tells : ℕ → List (List ℕ) → List Event → Type 0 where
  none : {n : ℕ} → Tells n [] []
  event : {n : ℕ} (l : List ℕ) (v : Event) {ls : List (List ℕ)} {vs : List Event} → length l < 65536 → says (unmarked n l) ≡ Ok (Some v)
      → Tells (suc n) ls vs → Tells n (l ∷ ls) (v ∷ vs)
  blank : {n : ℕ} (l : List ℕ) {ls : List (List ℕ)} {vs : List Event} → length l < 65536 → says (unmarked n l) ≡ Ok None → Tells (suc n) ls vs → Tells n (l ∷ ls) vs

-- THEIR RECORDS, one behind the other, and no message
pub told-records : {n : ℕ} {ls : List (List ℕ)} {vs : List Event} → Tells n ls vs → (records : ℕ) → record_lines n records ls ≡ record { out = each vs record_of; err = [] }
unfolding record_lines each made_of
told-records none records = refl
told-records (event {n} l v {ls} h e t) records =
    lines-made n records l ls (made_of n records (unmarked n l) (Ok (Some v))) (made-says n records l (Ok (Some v)) h e)
    ∙ ap (before (record { out = record_of v; err = [] })) (told-records t (records + 1))
told-records (blank {n} l {ls} h e t) records =
    lines-made n records l ls (made_of n records (unmarked n l) (Ok None)) (made-says n records l (Ok None) h e) ∙ told-records t (records + 0)

-- A WRONG LINE: its byte 0 and its message, whatever comes behind it
pub wrong-stops : (n records : ℕ) (l : List ℕ) (ls : List (List ℕ)) (kind : Kind) (word : ℕ) → length l < 65536 → says (unmarked n l) ≡ wrong_line kind word
    → record_lines n records (l ∷ ls) ≡ record { out = 0 ∷ []; err = wrong_text n records kind word (get_or (words (bare (unmarked n l))) (word - 1) []) }
unfolding made_of
wrong-stops n records l ls kind word h e = lines-made n records l ls (made_of n records (unmarked n l) (wrong_line kind word)) (made-says n records l (wrong_line kind word) h e)
