-- WHAT `ask` WRITES, from its arguments and the bytes of the recording. Assumes nothing.
use Rattle.std.specs.Prelude.{ℕ, suc, Option, Some, None, Bool, true, false, cond, ◌||◌, List, [], ◌∷◌, ◌++◌, leb, length, take}
use Rattle.text.specs.Output.{Output}
use Rattle.questions.specs.declared.Question.{Question}
use Rattle.questions.specs.Questions.{asks}
use Rattle.arguments.specs.declared.Asked.{Asked}
use Rattle.arguments.specs.Arguments.{joined_text}
use Rattle.arguments.specs.Asked.{no_asked, refused_asked, asks_help, asks_from, fits_in, takes_asked}
use Rattle.manuals.specs.Manuals.{ask_manual}
use Rattle.asking.specs.Asking.{asked_output}

-- an argument, and the words of a question, have at most so many bytes
abbrev pub most_bytes : ℕ
most_bytes = 4096

-- what the arguments have told, and the words of the question as one text
pub record Command : Type 0 where
  pub asked : Asked
  pub words : List ℕ

-- the words with one argument more: neither an option nor the name of a file is one
abbrev pub words_with : Asked → List ℕ → List ℕ → List ℕ
words_with a argument words =
    cond a.named words
    (cond (asks_help a argument) words
    (cond (asks_from a argument) words
    (cond (fits_in a argument most_bytes) (words ++ joined_text a.size argument) words)))

-- ONE ARGUMENT MORE, the i-th; one that is too long to be anything is wrong
unfoldable pub command_with : Command → ℕ → List ℕ → Command
command_with c i argument =
    cond (leb (length argument) most_bytes)
    (record { asked = takes_asked c.asked i argument most_bytes; words = words_with c.asked argument c.words })
    (record { asked = refused_asked c.asked; words = c.words })

-- all arguments from the i-th on, and all there are
unfoldable pub command_from : Command → ℕ → List (List ℕ) → Command
command_from c i [] = c
command_from c i (argument ∷ more) = command_from (command_with c i argument) (suc i) more

unfoldable pub command_of : List (List ℕ) → Command
command_of arguments = command_from (record { asked = no_asked; words = [] }) 1 arguments

-- no question
abbrev pub wrong? : Option Question → Bool
wrong? None = true
wrong? (Some q) = false

-- the question at the front of a text
unfoldable pub question_in : List ℕ → ℕ → Option Question
question_in text size = cond (leb size (length text)) (asks (take size text)) None

-- help was asked for, an argument is wrong, the name of the file is missing, or the question is none
unfoldable pub shows_manual : Asked → Option Question → Bool
shows_manual a q = a.help || (a.wrong || (a.named || wrong? q))

-- "`--help` for each", on standard output; "a stray argument is refused with the usage", on standard error
unfoldable pub manual_output : Bool → Output
manual_output help = cond help (record { out = ask_manual true; err = [] }) (record { out = []; err = ask_manual false })

-- WHAT `ask` WRITES: its manual, or the answer to its question about the recording in the file that its arguments name
unfoldable pub ask_text : List (List ℕ) → List ℕ → Output
ask_text arguments recording =
    let c = command_of arguments in
    cond (shows_manual c.asked (asks c.words)) (manual_output c.asked.help) (asked_output (asks c.words) recording)
