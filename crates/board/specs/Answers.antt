-- Document 01's number and values for each answer to a submission. Assumes nothing.
use Rattle.std.specs.Prelude.{ℕ}
use Rattle.board.specs.declared.Answer.{Answer}
use Rattle.board.specs.declared.Answer.TheVariants.{Rejected, Placed, Refused}

-- an answer number with "Column, start and finish"
pub record Told : Type 0 where
  pub number : ℕ
  pub column : ℕ
  pub start : ℕ
  pub finish : ℕ

-- "Column, start and finish are 0 unless the answer is 0"
abbrev pub bare : ℕ → Told
bare n = record { number = n; column = 0; start = 0; finish = 0 }

-- "0 done", "10 rejection", and a refusal's own number
unfoldable pub told : Answer → Told
told Rejected = bare 10
told (Placed c s f) = record { number = 0; column = c; start = s; finish = f }
told (Refused n) = bare n
