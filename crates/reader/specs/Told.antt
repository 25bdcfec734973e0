-- What the code of this crate finds on its way: a code-level record; no promise of a public call cites it. Assumes nothing.
use Rattle.std.specs.Prelude.{ℕ, ◌≡◌, List, Option, Some, None, Ok, Err}
use Rattle.lists.specs.Lists.{over_front}
use Rattle.events.specs.declared.ReadError.TheVariants.{CutShort, Unknown}
use Rattle.events.specs.Records.{Reading}
use Rattle.session.specs.Recording.{line_numbers}
use Rattle.reader.specs.declared.Fed.{Fed}
use Rattle.reader.specs.Reader.{Heard, as_fed}

-- the kind that is not known, if there is one
unfoldable pub judged : Reading → Option ℕ
judged (Ok x) = None
judged (Err (CutShort k)) = None
judged (Err (Unknown k)) = Some k

-- what was heard is what the code answers and what its lent buffer holds
pub record Told (h : Heard) (f : Fed) (lent answers : List ℕ) : Type 0 where
  pub answer : f ≡ as_fed h
  pub lines : answers ≡ over_front (line_numbers h.lines) lent
