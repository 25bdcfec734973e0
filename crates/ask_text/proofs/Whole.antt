-- What `ask` writes for its arguments, however its recording is cut, is ask_text of both. Assumes nothing.
use Prim.Native.Nat.{ℕ, suc, ◌+◌, ◌≤◌}
use mathlib.Core.Path.{◌≡◌, refl, sym, ap, ◌∙◌, subst}
use mathlib.Core.Bool.{Bool, true, false, cond}
use mathlib.Core.List.{List, [], ◌∷◌, ◌++◌}
use native.Mathlib.Omega.{arith}
use native.Mathlib.Decide.{dec_le}
use lib.Dec.{leb, ltb}
use borrow.Author.Tests.{le-leb, lt-leb}
use lib.ListN.{length, take, drop, length-append, length-map}
use lib.Seq.{sets, sets-eq, length-sets, take-append_seam}
use Rattle.text.specs.Output.{before}
use Rattle.questions.specs.Questions.{asks}
use Rattle.arguments.specs.declared.Asked.{Asked}
use Rattle.arguments.specs.Arguments.{guarded, argument_text, joined_text}
use Rattle.arguments.specs.Asked.{no_asked, refused_asked, asks_help, asks_from, takes_asked, text_asked}
use Rattle.asking.specs.declared.Asking.{Asking}
use Rattle.asking.specs.Asking.{asked_output}
use Rattle.asking.specs.Machine.{begun, closing, closed}
use Rattle.asking.proofs.Cuts.{Feeds, Parts, asks-whole}
use Rattle.ask_text.specs.AskText.{Command, most_bytes, words_with, command_with, command_from, command_of, question_in, shows_manual, manual_output, ask_text}

-- the calls `arguments::{take, refuse}` for the arguments from the i-th on: what they have told, and the text that is lent to them
pub data Tells : ℕ → Asked → List ℕ → List (List ℕ) → Asked → List ℕ → Type 0 where
  none : {i : ℕ} {a : Asked} {text : List ℕ} → Tells i a text [] a text
  taken : {i : ℕ} {a b : Asked} {text after : List ℕ} {argument : List ℕ} {more : List (List ℕ)} → length argument ≤ most_bytes
      → Tells (suc i) (takes_asked a i argument (length text)) (text_asked a argument text) more b after → Tells i a text (argument ∷ more) b after
  refused : {i : ℕ} {a b : Asked} {text after : List ℕ} {argument : List ℕ} {more : List (List ℕ)} → suc most_bytes ≤ length argument
      → Tells (suc i) (refused_asked a) text more b after → Tells i a text (argument ∷ more) b after

-- the words stand at the front of the text
record Holds (a : Asked) (words text : List ℕ) : Type 0 where
  size : a.size ≡ length words
  inside : length words ≤ most_bytes
  lent : length text ≡ most_bytes
  front : take (length words) text ≡ words

-- an argument takes at most a byte more than it has, and a space
argument-size : (argument : List ℕ) → length (argument_text argument) ≤ suc (length argument)
unfolding argument_text
argument-size [] = omega arith
argument-size (b ∷ bs) = omega (arith, length-map bs guarded)

joined-size : (at : ℕ) (argument : List ℕ) → length (joined_text at argument) ≤ length argument + 2
unfolding joined_text
joined-size at argument = go (ltb 0 at)
  where
    go : (b : Bool) → length (cond b (32 ∷ argument_text argument) (argument_text argument)) ≤ length argument + 2
    go true = omega (arith, argument-size argument)
    go false = omega (arith, argument-size argument)

-- a word put behind the others
front-more : (text words more : List ℕ) → length words + length more ≤ length text → take (length words) text ≡ words
    → take (length (words ++ more)) (sets text (length words) more) ≡ words ++ more
front-more text words more h e =
    let rest = drop (length words + length more) text in
    ap (take (length (words ++ more))) (sets-eq more text (length words) h ∙ ap (λ l. (l ++ more) ++ rest) e)
    ∙ take-append_seam (words ++ more) rest

-- ONE ARGUMENT MORE
module _ (a : Asked) (i : ℕ) (argument words text : List ℕ) (h : Holds a words text) where
  abbrev More : Type 0
  More = Holds (takes_asked a i argument most_bytes) (words_with a argument words) (text_asked a argument text)

  holds_more : More
  unfolding takes_asked text_asked
  holds_more = by_name a.named refl
    where
      by-room : a.named ≡ false → asks_help a argument ≡ false → asks_from a argument ≡ false → Dec (a.size + length argument + 2 ≤ most_bytes) → More
      by-room e f g (yes q) =
          let room : leb (a.size + length argument + 2) most_bytes ≡ true = le-leb (a.size + length argument + 2) most_bytes q in
          let room-lent : leb (a.size + length argument + 2) (length text) ≡ true = ap (leb (a.size + length argument + 2)) h.lent ∙ room in
          rw (e, f, g, room, room-lent) (with-word (joined_text a.size argument) (joined-size a.size argument))
        where
          with-word : (word : List ℕ) → length word ≤ length argument + 2
              → Holds (record { help = a.help; wrong = a.wrong; named = false; file = a.file; size = a.size + length word }) (words ++ word) (sets text a.size word)
          with-word word few =
              let fits : length words + length word ≤ length text = omega (arith, h.size, h.lent) in
              record {
                size = ap (λ n. n + length word) h.size ∙ sym (length-append words word);
                inside = omega (arith, h.size, length-append words word);
                lent = length-sets text a.size word ∙ h.lent;
                front = ap (λ n. take (length (words ++ word)) (sets text n word)) h.size ∙ front-more text words word fits h.front;
              }
      by-room e f g (no q) =
          let room : leb (a.size + length argument + 2) most_bytes ≡ false = lt-leb (a.size + length argument + 2) most_bytes (omega arith) in
          let room-lent : leb (a.size + length argument + 2) (length text) ≡ false = ap (leb (a.size + length argument + 2)) h.lent ∙ room in
          rw (e, f, g, room, room-lent) (record { size = h.size; inside = h.inside; lent = h.lent; front = h.front })

      by-from : a.named ≡ false → asks_help a argument ≡ false → (b : Bool) → asks_from a argument ≡ b → More
      by-from e f true g = rw (e, f, g) (record { size = h.size; inside = h.inside; lent = h.lent; front = h.front })
      by-from e f false g = by-room e f g (dec_le (a.size + length argument + 2) most_bytes)

      by-help : a.named ≡ false → (b : Bool) → asks_help a argument ≡ b → More
      by-help e true f = rw (e, f) (record { size = h.size; inside = h.inside; lent = h.lent; front = h.front })
      by-help e false f = by-from e f (asks_from a argument) refl

      by_name : (b : Bool) → a.named ≡ b → More
      by_name true e = rw e (record { size = h.size; inside = h.inside; lent = h.lent; front = h.front })
      by_name false e = by-help e (asks_help a argument) refl

command-taken : (c : Command) (i : ℕ) (x : List ℕ) → length x ≤ most_bytes
    → command_with c i x ≡ record { asked = takes_asked c.asked i x most_bytes; words = words_with c.asked x c.words }
unfolding command_with
command-taken c i x few = rw (le-leb (length x) most_bytes few)

command-refused : (c : Command) (i : ℕ) (x : List ℕ) → suc most_bytes ≤ length x → command_with c i x ≡ record { asked = refused_asked c.asked; words = c.words }
unfolding command_with
command-refused c i x many = rw (lt-leb (length x) most_bytes many)

-- ALL ARGUMENTS: what is told at their end is the command, and the text that was lent has its words in front
abbrev Ends : Asked → List ℕ → Command → Type 0
Ends b after c = (b ≡ c.asked) × Holds b c.words after

tells-command : {i : ℕ} {a b : Asked} {text after : List ℕ} {arguments : List (List ℕ)} (words : List ℕ) → Tells i a text arguments b after → Holds a words text
    → Ends b after (command_from (record { asked = a; words = words }) i arguments)
unfolding command_from
tells-command words none h = (refl, h)
tells-command {i} {a} {b} {text} {after} words (taken {argument = x} {more = more} few t) h =
    let next : ℕ → Command = λ room. record { asked = takes_asked a i x room; words = words_with a x words } in
    subst (λ c. Ends b after (command_from c (suc i) more)) (ap next h.lent ∙ sym (command-taken (record { asked = a; words = words }) i x few))
    (tells-command (words_with a x words) t (subst (λ room. Holds (next room).asked (words_with a x words) (text_asked a x text)) (sym h.lent) (holds_more a i x words text h)))
tells-command {i} {a} {b} {text} {after} words (refused {argument = x} {more = more} many t) h =
    subst (λ c. Ends b after (command_from c (suc i) more)) (sym (command-refused (record { asked = a; words = words }) i x many))
    (tells-command words t (record { size = h.size; inside = h.inside; lent = h.lent; front = h.front }))

module _ (arguments : List (List ℕ)) {lent : List ℕ} {a : Asked} {text : List ℕ} (room : length lent ≡ most_bytes) (t : Tells 1 no_asked lent arguments a text) where
  abbrev command : Command
  command = command_of arguments

  told : (a ≡ command.asked) × Holds a command.words text
  unfolding command_of no_asked
  told = tells-command [] t (record { size = refl; inside = omega arith; lent = room; front = refl })

  question-told : question_in text a.size ≡ asks command.words
  unfolding question_in
  question-told =
      let h = told.1 in
      rw (le-leb a.size (length text) (omega (arith, h.size, h.inside, h.lent))) (ap asks (ap (λ n. take n text) h.size ∙ h.front))

  -- whether the manual is shown is what the definition says
  shown : shows_manual a (question_in text a.size) ≡ shows_manual command.asked (asks command.words)
  shown = ap (λ x. shows_manual x (question_in text a.size)) told.0 ∙ ap (shows_manual command.asked) question-told

  -- THE MANUAL, where the code shows it
  pub shows-all : shows_manual a (question_in text a.size) ≡ true → (recording : List ℕ) → manual_output a.help ≡ ask_text arguments recording
  unfolding ask_text
  shows-all e recording = rw (sym shown ∙ e) (ap (λ (x : Asked). manual_output x.help) told.0)

  -- THE ANSWER, where it does not: however the recording is cut, all that is written is ask_text
  pub asks-all : shows_manual a (question_in text a.size) ≡ false → {recording : List ℕ} {last : Asking} {out : List ℕ}
      → Feeds (begun (question_in text a.size)) recording last → Parts (closed last).asking out
      → before (closing last) (record { out = out; err = [] }) ≡ ask_text arguments recording
  unfolding ask_text
  asks-all e {recording} f p = rw (sym shown ∙ e) (asks-whole (question_in text a.size) f p ∙ ap (λ q. asked_output q recording) question-told)
