-- `soundness::ids_differ` meets its contract: what is left of the pairs decides. Assumes nothing.
use Prim.Native.Nat.{ℕ, ◌-◌}
use mathlib.Core.Path.{◌≡◌}
use mathlib.Core.Bool.{Bool, not}
use mathlib.Core.List.{List}
use lib.Dec.{eqb}
use Rattle.lists.specs.Lists.{pairwise?, range}
use Rattle.live.specs.Live.{id_at}
use Rattle.soundness.proofs.ids_differ.Given as goal

-- no two from i on have one id
abbrev pub apart? : List ℕ → ℕ → ℕ → Bool
apart? live i n = pairwise? (λ a b. not (eqb (id_at live a) (id_at live b))) (range i (n - i))

abbrev pub invariant-loop-i : goal.invariant-loop-i
invariant-loop-i l = (apart? l.live 0 l.n ≡ apart? l.live l.i l.n)
