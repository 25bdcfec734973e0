-- `summing::count_lines` meets its contract. Assumes nothing.
use Prim.Native.Nat.{min}
use mathlib.Core.Path.{◌≡◌, sym, ap, ◌∙◌}
use native.Mathlib.Omega.{arith}
use lib.ListN.{length, length-take}
use Rattle.reader.specs.Reader.{held_of}
use Rattle.figures.specs.Figures.{sheet_of}
use Rattle.figures.specs.Rows.{trials_in}
use Rattle.summing.proofs.Trials.{source-alone, source-behind}
use borrow.Author.Rules.{rules}
use Rattle.summing.proofs.count_lines.Goals as goal

pub returns-then-r-eq0 : goal.returns-then-r-eq0
returns-then-r-eq0 c =
    let a = c.args in
    let nothing : length (held_of a.r) ≡ 0 = omega (arith, c.if-r-eq0.true, length-take a.r.size a.r.held) in
    c.count_rows.ensures ∙ ap (λ bytes. sheet_of 0 (trials_in a.count a.r.state.board.now a.numbers.now bytes)) (sym (source-alone a.r a.piece.now nothing))

pub returns : goal.returns
returns c =
    let held-size : length c.args.r.held ≡ 18 = search rules in
    let a = c.args in
    let more : length (held_of a.r) ≡ min a.r.size 18 = omega (arith, length-take a.r.size a.r.held, held-size) in
    let bytes = c.window-joined.ensures.1 ∙ sym (source-behind a.r a.piece.now (λ q. c.if-r-eq0.false (omega (arith, q, more)))) in
    c.count_rows-2.ensures ∙ ap (λ x. sheet_of 0 (trials_in a.count a.r.state.board.now a.numbers.now x)) bytes
