-- `board_text::put_task` meets its contract: eight numbers, the finish and the phase are the row. Assumes nothing.
use mathlib.Core.List.{[], ◌∷◌}
use Rattle.tasks.specs.Tasks.{finish}
use Rattle.text.specs.Text.{decimal}
use Rattle.text.proofs.Spelling.{line-more, line-end}
use Rattle.text.proofs.Rows.{line-rest}
use Rattle.board_text.specs.BoardText.{phase_word, task_text}
use Rattle.board_text.proofs.put_task.Goals as goal

pub returns-clause-put : goal.returns-clause-put
unfolding task_text
returns-clause-put c =
    let k = c.args.k in
    let numbers = rw (c.from.ensures, c.from-2.ensures, c.from-3.ensures) at c.put_spaced-finish_at.ensures.put in
    let ends = rw (c.from-4.ensures, c.from-5.ensures) at c.put_ended-phase_at.ensures.put in
    let word = line-end (phase_word k.phase) (rw c.phase_line.ensures.line at c.put_bytes.ensures.put) in
    let rest = line-more (decimal (finish k)) (phase_word k.phase) [] ends word in
    let front = c.args.slot ∷ k.id ∷ k.w ∷ k.h ∷ k.e ∷ k.d ∷ k.column ∷ k.start ∷ [] in
    line-rest front (decimal (finish k)) (phase_word k.phase ∷ []) numbers rest
