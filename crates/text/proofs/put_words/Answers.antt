-- `text::put_words` meets its contract: the last number has a newline behind it. Assumes nothing.
use Rattle.text.proofs.Rows.{words_last}
use Rattle.text.proofs.put_words.Goals as goal

pub returns-clause-put : goal.returns-clause-put
returns-clause-put c = words_last c.args.words.now c.requires.0 c.from.ensures c.put_spaced-place.ensures.put c.put_ended.ensures.put
