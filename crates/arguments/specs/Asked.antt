-- What `ask` is told by its arguments: `--help`, `--from FILE`, and the words of its question. Assumes nothing.
use Rattle.std.specs.Prelude.{ℕ, ◌+◌, Bool, true, false, cond, ◌&&◌, List, eqb, leb, length}
use Rattle.std.proofs.lemmas.List.Edits.{sets}
use Rattle.text.specs.Text.{ascii}
use Rattle.tokens.specs.Tokens.{same}
use Rattle.arguments.specs.Arguments.{joined_text}
use Rattle.arguments.specs.declared.Asked.{Asked}

-- no argument: no help, nothing wrong, standard input (file 0), no word of a question
unfoldable pub no_asked : Asked
no_asked = record { help = false; wrong = false; named = false; file = 0; size = 0 }

-- an argument is wrong
abbrev pub refused_asked : Asked → Asked
refused_asked a = record { help = a.help; wrong = true; named = false; file = a.file; size = a.size }

-- before the question: `--help`, and `--from` once
abbrev pub asks_help : Asked → List ℕ → Bool
asks_help a argument = eqb a.size 0 && same argument (ascii "--help")

abbrev pub asks_from : Asked → List ℕ → Bool
asks_from a argument = eqb a.size 0 && (eqb a.file 0 && same argument (ascii "--from"))

-- there is room for a word more
abbrev pub fits_in : Asked → List ℕ → ℕ → Bool
fits_in a argument room = leb (a.size + length argument + 2) room

-- the i-th argument: the name of the file behind `--from`; an option; or a word of the question
unfoldable pub takes_asked : Asked → ℕ → List ℕ → ℕ → Asked
takes_asked a i argument room =
    cond a.named (record { help = a.help; wrong = a.wrong; named = false; file = i; size = a.size })
    (cond (asks_help a argument) (record { help = true; wrong = a.wrong; named = false; file = a.file; size = a.size })
    (cond (asks_from a argument) (record { help = a.help; wrong = a.wrong; named = true; file = a.file; size = a.size })
    (cond (fits_in a argument room) (record { help = a.help; wrong = a.wrong; named = false; file = a.file; size = a.size + length (joined_text a.size argument) })
    (refused_asked a))))

-- and the text of the question: a word more behind those before it
unfoldable pub text_asked : Asked → List ℕ → List ℕ → List ℕ
text_asked a argument text =
    cond a.named text
    (cond (asks_help a argument) text
    (cond (asks_from a argument) text
    (cond (fits_in a argument (length text)) (sets text a.size (joined_text a.size argument)) text)))
