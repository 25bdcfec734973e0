-- `text::put_spaced` meets its contract: one number more each turn. Assumes nothing.
use native.Mathlib.Omega.{arith}
use Rattle.text.proofs.Rows.{words-none, words_more, words-all}
use Rattle.text.proofs.put_spaced.Goals as goal

pub loop-word-init : goal.loop-word-init
loop-word-init c = (omega arith, words-none _ c.args.words.now _)

pub loop-word-preserved : goal.loop-word-preserved
loop-word-preserved c =
    let l = c.loop-word in
    (omega arith, words_more c.args.words.now l.word-index (omega arith) c.from.ensures l.invariant.1 c.put_ended-place.ensures.put)

pub returns : goal.returns
returns c =
    let l = c.loop-word in
    record {
      put = words-all c.args.words.now c.loop-word-test.false l.invariant.1;
      upper_bound = omega arith;
    }
