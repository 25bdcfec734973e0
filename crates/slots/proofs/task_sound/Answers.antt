-- `slots::task_sound` meets its contract: it tests the clauses in the definition's order. Assumes nothing.
use mathlib.Core.Path.{◌≡◌, refl}
use mathlib.Core.Bool.{Bool, true, false, ◌&&◌}
use Prim.Native.Nat.{suc, ◌+◌}
use native.Mathlib.Numerals.{add-one}
use lib.Dec.{leb}
use Rattle.tasks.specs.Numbers.{largest_id, within, multiple, may_begin, time_fits}
use Rattle.slots.specs.Slots.{task_sound}
use Rattle.slots.proofs.task_sound.Goals as goal

-- the steps are asked of width and column together, behind the ranges
stepped : (i s m t c l b : Bool) → ((((((i && s) && t) && c) && l) && (m && b)) ≡ (((((i && (s && m)) && t) && c) && l) && b))
stepped false s m t c l b = refl
stepped true false m t c l b = refl
stepped true true true t c l b = refl
stepped true true false false c l b = refl
stepped true true false true false l b = refl
stepped true true false true true false b = refl
stepped true true false true true true b = refl

pub returns : goal.returns
unfolding task_sound
returns c =
    let a = c.args in
    let k = a.k in
    let on = a.on in
    let same =
    stepped (within 1 largest_id k.id) (within 1 on.columns k.w && within 1 on.rows k.h) (multiple on.grid k.w) (time_fits k.e k.d) (leb 1 k.column)
    (leb (k.column + k.w) (suc on.columns)) (may_begin on.grid k.column) in
    cc (add-one on.columns, c.in_phase-phase.ensures, c.in_steps-on_grid.ensures, c.time_fits-time.ensures, c.size_in_range-size.ensures, same)
