-- The picture that the demonstration draws: columns across, time down. Assumes nothing.
use Rattle.std.specs.Prelude.{ℕ, ◌+◌, cond, List, map, ltb}
use Rattle.lists.specs.Lists.{index_of, range}
use Rattle.tasks.specs.declared.Task.{Task}
use Rattle.tasks.specs.Tasks.{holds}

-- the mark of a task's place in the list: its number from 1, in ASCII; a dot behind the last of seven
abbrev pub mark : ℕ → ℕ
mark place = cond (ltb place 7) (49 + place) 46

-- the columns 1 to 10 at a tick: which task holds each
abbrev pub across : List Task → ℕ → List ℕ
across ts tick = map (λ c. mark (index_of (holds tick c) ts)) (range 1 10)
