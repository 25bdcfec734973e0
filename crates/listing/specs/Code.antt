-- Lines that stand as numbers, as code puts them: code-level definitions; no promise of a public call cites them. Assumes nothing.
use Rattle.std.specs.Prelude.{ℕ, Bool, cond, List}
use Rattle.text.specs.Text.{rows_text, rows_of}
use Rattle.worded.specs.Rows.{worded_rows}

-- so many lines of six numbers, and the bytes of their events
unfoldable pub text_of : Bool → ℕ → List ℕ → List ℕ → List ℕ
text_of words count numbers bytes = cond words (worded_rows count numbers bytes) (rows_text (rows_of 6 count numbers))
