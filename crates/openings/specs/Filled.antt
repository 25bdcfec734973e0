-- What the list of openings answers: code-level definitions; no promise of a public call cites them. Assumes nothing.
use Rattle.std.specs.Prelude.{ℕ, ◌/◌, List, ltb, length, take}
use Rattle.planners.specs.Openings.{Place}
use Rattle.openings.specs.declared.Filled.{Filled}

-- "returns how many, and whether a further one remains": of the openings ps, two words each
unfoldable pub filled_of : ℕ → List Place → Filled
filled_of words ps = record { count = length (take (words / 2) ps); more = ltb (words / 2) (length ps) }
