-- A line that says an event: what the theorem of `proofs/Lines` speaks of. Assumes nothing.
use Rattle.std.specs.Prelude.{ℕ, ◌<◌, List, [], ◌∷◌, ◌++◌}
use Rattle.events.specs.declared.Event.{Event}
use Rattle.events.specs.declared.Event.TheVariants.{NewBoard, Submit, Clock, Withdraw, GridBoard}
use Rattle.text.specs.Text.{ascii, decimal}

-- words with one space between two
unfoldable pub joined : List (List ℕ) → List ℕ
joined [] = []
joined (w ∷ []) = w
joined (w ∷ v ∷ ws) = w ++ (32 ∷ joined (v ∷ ws))

-- "board W H [G]", "submit PLANNER ID W H E D", "clock T", "withdraw ID", the numbers in decimal
unfoldable pub words_of : Event → List (List ℕ)
words_of (NewBoard W H) = (ascii "board") ∷ decimal W ∷ decimal H ∷ []
words_of (Submit n a) = (ascii "submit") ∷ decimal n ∷ decimal a.id ∷ decimal a.w ∷ decimal a.h ∷ decimal a.e ∷ decimal a.d ∷ []
words_of (Clock i) = (ascii "clock") ∷ decimal i ∷ []
words_of (Withdraw n) = (ascii "withdraw") ∷ decimal n ∷ []
words_of (GridBoard W H g) = (ascii "board") ∷ decimal W ∷ decimal H ∷ decimal g ∷ []

-- "an event's fields have the record's widths"
unfoldable pub Wide : Event → Type 0
Wide (NewBoard W H) = (W < 65536) × (H < 65536)
Wide (Submit n a) = (n < 256) × (a.id < 4294967296) × (a.w < 65536) × (a.h < 65536) × (a.e < 4294967296) × (a.d < 4294967296)
Wide (Clock i) = i < 4294967296
Wide (Withdraw n) = n < 4294967296
Wide (GridBoard W H g) = (W < 65536) × (H < 65536) × (g < 256)
