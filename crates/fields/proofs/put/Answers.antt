-- `fields::put` meets its contract: what is copied into the part stands in the whole. Assumes nothing.
use Prim.Native.Nat.{◌+◌, ◌-◌}
use mathlib.Core.Path.{◌≡◌, sym, ◌∙◌}
use mathlib.Core.List.{append_assoc}
use native.Mathlib.Omega.{arith}
use lib.ListN.{length, take, drop}
use lib.Seq.{sets-eq, drop-drop}
use Rattle.fields.proofs.put.Goals as goal

pub returns : goal.returns
returns c =
    let a = c.args in
    let l = a.buffer.now in
    let bs = a.bytes.now in
    let k : a.at + length bs - a.at ≡ length bs = omega arith in
    rw (k, c.copy_from_slice.ensures.after, drop-drop (length bs) a.at l)
    (sym (sets-eq bs l a.at c.requires ∙ append_assoc (take a.at l) bs (drop (a.at + length bs) l)))
