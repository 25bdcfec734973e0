-- `worded::put_row` meets its contract: the numbers, the id, the answer, its words and the end of the line. Assumes nothing.
use lib.ListN.{get_or}
use Rattle.worded.proofs.Rows.{row_put}
use Rattle.worded.proofs.put_row.Goals as goal

pub returns-clause-put : goal.returns-clause-put
returns-clause-put c =
    let a = c.args in
    row_put a.row.now (get_or a.row.now 2 0) a.name.id c.put_spaced-id_at.ensures.put c.put_name-answer_at.ensures.put
    (rw c.from.ensures at c.put_ended-words_at.ensures.put) c.put_answer-end.ensures.put c.put_bytes.ensures.put
