-- What `plan` and `record` are told by their arguments: `--help`, `--words`, FILE. Assumes nothing.
use Rattle.std.specs.Prelude.{ℕ, suc, Bool, true, false, cond, not, ◌&&◌, ◌||◌, List, [], ◌∷◌, eqb}
use Rattle.text.specs.Text.{ascii}
use Rattle.tokens.specs.Tokens.{same}
use Rattle.orders.specs.declared.Order.{Order}

-- no argument: no help, no words, nothing wrong, standard input (file 0)
unfoldable pub no_order : Order
no_order = record { help = false; words = false; wrong = false; file = 0 }

-- an argument is wrong
abbrev pub refused : Order → Order
refused o = record { help = o.help; words = o.words; wrong = true; file = o.file }

-- an argument that can be no file's name: an empty one, and what begins with -
unfoldable pub option : List ℕ → Bool
option [] = true
option (b ∷ bs) = eqb b 45

-- the i-th argument: `--help`; `--words`, where the program knows it; the name of a file, once. "a stray argument is refused"
unfoldable pub takes : Bool → Order → ℕ → List ℕ → Order
takes wordy o i argument =
    cond (same argument (ascii "--help")) (record { help = true; words = o.words; wrong = o.wrong; file = o.file })
    (cond (wordy && same argument (ascii "--words")) (record { help = o.help; words = true; wrong = o.wrong; file = o.file })
    (cond (option argument || not (eqb o.file 0)) (refused o)
    (record { help = o.help; words = o.words; wrong = o.wrong; file = i })))

-- ALL ARGUMENTS, from the i-th on
unfoldable pub orders_from : Bool → Order → ℕ → List (List ℕ) → Order
orders_from wordy o i [] = o
orders_from wordy o i (a ∷ more) = orders_from wordy (takes wordy o i a) (suc i) more
