-- `soundness::ids_differ` meets its contract: what is left of the pairs decides. Assumes nothing.
use Prim.Native.Nat.{ℕ, ◌-◌}
use mathlib.Core.Path.{◌≡◌, sym, ◌∙◌}
use mathlib.Core.Bool.{not}
use mathlib.Core.List.{List}
use native.Mathlib.Omega.{arith}
use lib.Dec.{eqb}
use Rattle.lists.specs.Lists.{pairwise?, range}
use Rattle.live.specs.Live.{id_at}
use Rattle.soundness.proofs.Pairs.{pairs-on, pairs-off, pairs_end}
use Rattle.soundness.proofs.ids_differ.Invariants.{apart?}
use Rattle.soundness.proofs.ids_differ.Goals as goal

whole : (live : List ℕ) (n : ℕ) → apart? live 0 n ≡ pairwise? (λ a b. not (eqb (id_at live a) (id_at live b))) (range 0 n)
whole live n = let z : n - 0 ≡ n = omega arith in rw z

pub returns-then-same_ids-gt0 : goal.returns-then-same_ids-gt0
returns-then-same_ids-gt0 c =
    sym (sym (whole c.args.live.now c.args.n) ∙ c.loop-i.invariant ∙ pairs-off _ c.loop-i.i _ _ (omega arith) c.same_ids.ensures c.if-same_ids-gt0.true)

pub loop-i-preserved : goal.loop-i-preserved
loop-i-preserved c =
    c.loop-i.invariant ∙ pairs-on _ c.loop-i.i _ c.same_ids.result (omega arith) c.same_ids.ensures (omega arith)

pub returns : goal.returns
returns c =
    sym (sym (whole c.args.live.now c.args.n) ∙ c.loop-i.invariant ∙ pairs_end _ c.loop-i.i _ (omega arith))
