-- `live::put_columns` meets its contract: each word has its share of the columns. Assumes nothing.
use Rattle.live.proofs.Putting.{words-put}
use borrow.Author.Rules.{rules}
use Rattle.live.proofs.put_columns.Goals as goal

pub returns : goal.returns
returns c =
    words-put _ _ _ _ _ _ _ _ _ (search rules) (search rules) c.put_words.ensures
    c.share.ensures c.share-2.ensures c.share-3.ensures c.share-4.ensures
