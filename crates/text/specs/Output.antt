-- What a program writes. Assumes nothing.
use Rattle.std.specs.Prelude.{List, [], ◌++◌, ℕ}

-- the bytes for standard output, and those for standard error
pub record Output : Type 0 where
  pub out : List ℕ
  pub err : List ℕ

abbrev pub nothing : Output
nothing = record { out = []; err = [] }

-- one output after the other
abbrev pub before : Output → Output → Output
before a b = record { out = a.out ++ b.out; err = a.err ++ b.err }
