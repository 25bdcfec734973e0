-- `sheets::put_figures` meets its contract: one figure more each turn. Assumes nothing.
use Rattle.std.proofs.Common.{refl, arith}
use Rattle.text.proofs.Rows.{words-none, words_more, words-all}
use Rattle.sheets.proofs.put_figures.Goals as goal

pub loop-figure-init : goal.loop-figure-init
loop-figure-init c = (omega arith, words-none _ c.args.figures.now _)

pub loop-figure-preserved : goal.loop-figure-preserved
loop-figure-preserved c =
    let l = c.loop-figure in
    (omega arith, words_more c.args.figures.now l.figure-index (omega arith) refl l.invariant.1 c.put_ended-place.ensures.put)

pub returns : goal.returns
returns c =
    let l = c.loop-figure in
    record {
      put = words-all c.args.figures.now c.loop-figure-test.false l.invariant.1;
      upper_bound = omega arith;
    }
