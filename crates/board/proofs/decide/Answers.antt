-- `board::decide` meets its contract: refusals first, then the planner. Assumes nothing.
use mathlib.Core.Path.{refl, sym, ap}
use native.Mathlib.Omega.{arith}
use Rattle.refusals.proofs.First.{is_told}
use Rattle.board.specs.Standing.{board_of}
use Rattle.board.proofs.Submit.{refused-same, may-ask, rejected, settled}
use Rattle.board.proofs.decide.Goals as goal

pub returns-in-Err : goal.returns-in-Err
returns-in-Err c = λ ks o l.
    let a = c.args in
    rw c.from.ensures
    (ap (λ y. y.answer) (sym (refused-same (board_of ks a.clock a.on) a.planner a.a _ _ _ o l c.among-known.ensures c.in-Err.ensures (is_told _))))

pub find-found-requires : goal.find-found-requires
find-found-requires c =
    let a = c.args in
    rw c.window_of.ensures
    (may-ask (board_of c.requires.slots a.clock a.on) a.planner a.a _ _ _ c.requires.kept c.requires.lowest c.among-known.ensures
    c.in_default.ensures refl c.requires.masked)

pub overflow_add-result : goal.overflow_add-result
overflow_add-result c =
    let a = c.args in
    let o = settled (board_of c.requires.slots a.clock a.on) a.planner a.a _ _ _ c.requires.kept c.requires.lowest
    c.among-known.ensures c.in_default.ensures refl (rw c.window_of.ensures at c.find-found.ensures) c.in-Some.is in
    omega (arith, o.fits)

pub returns-in-None : goal.returns-in-None
returns-in-None c = λ ks o l.
    let a = c.args in
    rejected (board_of ks a.clock a.on) a.planner a.a _ _ _ o l c.among-known.ensures c.in_default.ensures
    refl (rw c.window_of.ensures at c.find-found.ensures) c.in-None.is

pub returns-in-Some : goal.returns-in-Some
returns-in-Some c = λ ks o l.
    let a = c.args in
    (settled (board_of ks a.clock a.on) a.planner a.a _ _ _ o l c.among-known.ensures c.in_default.ensures
    refl (rw c.window_of.ensures at c.find-found.ensures) c.in-Some.is).same
