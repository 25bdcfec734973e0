-- What a reader and a writer answer fixes the number and the values that are told. Assumes nothing.
use mathlib.Core.Path.{◌≡◌, ap}
use Rattle.events.specs.Records.{Reading, Written}
use Rattle.events.specs.Records.{told_read, told_written}

pub read_told : {r q : Reading} → r ≡ q → (r ≡ q) × (told_read r ≡ told_read q)
read_told e = (e, ap told_read e)

pub written-told : {r q : Written} → r ≡ q → told_written r ≡ told_written q
written-told e = ap told_written e
