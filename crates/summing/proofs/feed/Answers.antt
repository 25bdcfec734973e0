-- `summing::feed` meets its contract. Assumes nothing.
use mathlib.Core.Path.{refl}
use lib.ListN.{length}
use borrow.Author.Rules.{rules}
use Rattle.summing.proofs.Feeding.{feeds, counts-few}
use Rattle.summing.proofs.feed.Goals as goal

pub count_lines-more-requires : goal.count_lines-more-requires
count_lines-more-requires c =
    let a = c.args in
    (counts-few a.s.reader a.piece.now (length a.numbers.now) c.feed-fed.result c.feed-fed.ensures.value, search rules)

pub returns : goal.returns
returns c =
    let a = c.args in record {
      value = feeds a.s a.piece.now a.numbers.now (length a.numbers.now) refl c.feed-fed.result c.feed-fed.ensures.value c.feed-fed.ensures.answers_after c.count_lines-more.ensures c.add-sums.result
          c.add-sums.ensures;
      numbers_after = c.feed-fed.ensures.answers_after;
      taken_in_bounds = c.feed-fed.ensures.count_in_bounds.1;
    }
