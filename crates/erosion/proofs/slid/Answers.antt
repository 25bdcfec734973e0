-- `erosion::slid` meets its contract: the digits of a word from s on, and those of the next. Assumes nothing.
use native.Mathlib.Omega.{arith}
use mir.Syntax.{w64}
use mir.Val.{Fits}
use Rattle.erosion.proofs.Shifts.{slid-word}
use borrow.Author.Rules.{rules}
use Rattle.erosion.proofs.slid.Goals as goal

pub returns : goal.returns
returns c =
    let a = c.args in
    let f : Fits w64 a.x = search rules in
    slid-word a.x a.next a.s f.fits (omega arith) (omega arith)
