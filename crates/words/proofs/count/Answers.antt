-- `words::count` meets its contract: the ones of the four words are the set columns. Assumes nothing.
use Rattle.std.proofs.Common.{◌≡◌, ℕ, length, get_or, Fits, w64, arith, rules, ◌∙◌, ◌<◌}
use Rattle.std.specs.List.{sum_by}
use lib.Count.{ones}
use Rattle.words.proofs.Columns.{tally-sum}
use Rattle.words.proofs.count.Goals as goal

pub sum-requires-clause-fits : goal.sum-requires-clause-fits
sum-requires-clause-fits c =
    let word : (k : ℕ) → Fits w64 (get_or c.args.words k 0) = λ k. search rules in
    let four : length c.args.words ≡ 4 = search rules in
    let few : sum_by ones c.args.words < 4294967296 = omega (arith, (tally-sum c.args.words four (λ k. (word k).fits)).1) in
    search rules

pub returns : goal.returns
returns c =
    let word : (k : ℕ) → Fits w64 (get_or c.args.words k 0) = λ k. search rules in
    let four : length c.args.words ≡ 4 = search rules in
    let same : c.sum.result ≡ sum_by ones c.args.words = search rules in
    same ∙ (tally-sum c.args.words four (λ k. (word k).fits)).0
