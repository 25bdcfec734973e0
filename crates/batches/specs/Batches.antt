-- What `summary` is told by its arguments: `--help`, `--add`, FILE .. Assumes nothing.
use Rattle.std.specs.Prelude.{ℕ, true, false, cond, List, take}
use Rattle.text.specs.Text.{ascii}
use Rattle.tokens.specs.Tokens.{same}
use Rattle.orders.specs.Orders.{option}
use Rattle.batches.specs.declared.Batch.{Batch}
use Rattle.batches.specs.declared.Name.{Name}

-- the bytes of a file's name
abbrev pub name_of : Name → List ℕ
name_of n = take n.size n.bytes

-- no argument: standard input
abbrev pub no_batch : Batch
no_batch = record { help = false; add = false; wrong = false; named = false }

-- an argument is wrong
abbrev pub spoilt : Batch → Batch
spoilt b = record { help = b.help; add = b.add; wrong = true; named = b.named }

-- one argument more: `--help`; `--add`; the name of a file. "a stray argument is refused"
abbrev pub includes : Batch → List ℕ → Batch
includes b argument =
    cond (same argument (ascii "--help")) (record { help = true; add = b.add; wrong = b.wrong; named = b.named })
    (cond (same argument (ascii "--add")) (record { help = b.help; add = true; wrong = b.wrong; named = b.named })
    (cond (option argument) (spoilt b)
    (record { help = b.help; add = b.add; wrong = b.wrong; named = true })))
