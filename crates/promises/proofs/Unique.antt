-- Any two results that a public call's promise allows are equal: the result with its board, and every lent buffer. Assumes nothing.
-- `X.Post` is the promise of X as it stands in the code: lifetimes, arguments, result, and what is lent as it is afterwards. A lent
-- argument is found by its place: `s.0` is the first one, `s.1.0` the second, and so on.
use Prim.Native.Nat.{ℕ}
use mathlib.Core.Path.{◌≡◌, sym, ◌∙◌}
use mathlib.Core.List.{List}
use Rattle.tasks.specs.declared.Task.{Task}
use Rattle.tasks.specs.Tasks.{stamped_all}
use Rattle.board.proofs.Board.new.Reads as new
use Rattle.board.proofs.Board.with_grid.Reads as with-grid
use Rattle.board.proofs.Board.is_sound.Reads as is-sound
use Rattle.board.proofs.Board.submit.Reads as submit
use Rattle.board.proofs.Board.clock.Reads as clock
use Rattle.board.proofs.Board.withdraw.Reads as withdraw
use Rattle.board.proofs.Board.openings.Reads as openings
use Rattle.board.proofs.Board.horizon.Reads as horizon
use Rattle.board.proofs.Board.busy.Reads as busy
use Rattle.tasks.proofs.stamp.Reads as stamp
use Rattle.events.proofs.read.Reads as read
use Rattle.events.proofs.read_at.Reads as read_at
use Rattle.events.proofs.write.Reads as write
use Rattle.session.proofs.run.Reads as run
use Rattle.table1.proofs.rows.Reads as rows
use Rattle.lines.proofs.read.Reads as line
use Rattle.questions.proofs.read.Reads as question
use Rattle.board_text.proofs.put_answer.Reads as put-answer
use Rattle.board_text.proofs.put_board.Reads as put-board
use Rattle.board_text.proofs.put_halt.Reads as put-halt
use Rattle.board_text.proofs.put_stamped.Reads as put-stamped

-- two things that are the same third
one : {A : Type 0} {x y z : A} → x ≡ z → y ≡ z → x ≡ y
one e f = e ∙ sym f

pub new-unique : (κs : _) (a : _) (r q : _) (s t : _) → new.Post κs a r s → new.Post κs a q t → r ≡ q
new-unique κs a r q s t e f = one e f

pub with-grid-unique : (κs : _) (a : _) (r q : _) (s t : _) → with-grid.Post κs a r s → with-grid.Post κs a q t → r ≡ q
with-grid-unique κs a r q s t e f = one e f

pub is-sound-unique : (κs : _) (a : _) (r q : _) (s t : _) → is-sound.Post κs a r s → is-sound.Post κs a q t → r ≡ q
is-sound-unique κs a r q s t e f = one e f

pub submit-unique : (κs : _) (a : _) (r q : _) (s t : _) → submit.Post κs a r s → submit.Post κs a q t → r ≡ q
submit-unique κs a r q s t e f = one e.0 f.0

pub clock-unique : (κs : _) (a : _) (r q : _) (s t : _) → clock.Post κs a r s → clock.Post κs a q t → r ≡ q
clock-unique κs a r q s t e f = one e f

pub withdraw-unique : (κs : _) (a : _) (r q : _) (s t : _) → withdraw.Post κs a r s → withdraw.Post κs a q t → r ≡ q
withdraw-unique κs a r q s t e f = one e f

pub openings-unique : (κs : _) (a : _) (r q : _) (s t : _) → openings.Post κs a r s → openings.Post κs a q t → (r ≡ q) × (s.1.1.1.1.0.now ≡ t.1.1.1.1.0.now)
openings-unique κs a r q s t e f = (one e.0 f.0, one e.1 f.1)

pub horizon-unique : (κs : _) (a : _) (r q : _) (s t : _) → horizon.Post κs a r s → horizon.Post κs a q t → (r ≡ q) × (s.1.0.now ≡ t.1.0.now)
horizon-unique κs a r q s t e f = (one e.0 f.0, one e.1 f.1)

pub busy-unique : (κs : _) (a : _) (r q : _) (s t : _) → busy.Post κs a r s → busy.Post κs a q t → r ≡ q
busy-unique κs a r q s t e f = one e f

pub stamp-unique : (κs : _) (a : _) (r q : _) (s t : _) → stamp.Post κs a r s → stamp.Post κs a q t → r ≡ q
stamp-unique κs a r q s t e f = one e f

-- of `stamping::stamp_all` and `stamp_slots` no `Post` is read (the older kit had none): this is their promise as it is written there
pub stamp-all-unique : (i : ℕ) (records after other : List Task) → after ≡ stamped_all i records → other ≡ stamped_all i records → after ≡ other
stamp-all-unique i records after other e f = one e f

pub read-unique : (κs : _) (a : _) (r q : _) (s t : _) → read.Post κs a r s → read.Post κs a q t → r ≡ q
read-unique κs a r q s t e f = one e.0 f.0

pub read-at-unique : (κs : _) (a : _) (r q : _) (s t : _) → read_at.Post κs a r s → read_at.Post κs a q t → r ≡ q
read-at-unique κs a r q s t e f = one e.0 f.0

pub write-unique : (κs : _) (a : _) (r q : _) (s t : _) → write.Post κs a r s → write.Post κs a q t → (r ≡ q) × (s.0.now ≡ t.0.now)
write-unique κs a r q s t e f = (one e.0 f.0, one e.1.0 f.1.0)

pub run-unique : (κs : _) (a : _) (r q : _) (s t : _) → run.Post κs a r s → run.Post κs a q t → (r ≡ q) × (s.1.1.1.0.now ≡ t.1.1.1.0.now)
run-unique κs a r q s t e f = (one e.0 f.0, one e.1.0 f.1.0)

pub rows-unique : (κs : _) (a : _) (r q : _) (s t : _) → rows.Post κs a r s → rows.Post κs a q t → r ≡ q
rows-unique κs a r q s t e f = one e f

-- what the programs `record` and `ask` read
pub line-unique : (κs : _) (a : _) (r q : _) (s t : _) → line.Post κs a r s → line.Post κs a q t → r ≡ q
line-unique κs a r q s t e f = one e f

pub question-unique : (κs : _) (a : _) (r q : _) (s t : _) → question.Post κs a r s → question.Post κs a q t → r ≡ q
question-unique κs a r q s t e f = one e f

-- what `ask` prints of a board
pub put-answer-unique : (κs : _) (a : _) (r q : _) (s t : _) → put-answer.Post κs a r s → put-answer.Post κs a q t → (r ≡ q) × (s.0.now ≡ t.0.now)
put-answer-unique κs a r q s t e f = (one e.0 f.0, one e.1.0 f.1.0)

pub put-halt-unique : (κs : _) (a : _) (r q : _) (s t : _) → put-halt.Post κs a r s → put-halt.Post κs a q t → (r ≡ q) × (s.0.now ≡ t.0.now)
put-halt-unique κs a r q s t e f = (one e.0 f.0, one e.1.0 f.1.0)

pub put-board-unique : (κs : _) (a : _) (r q : _) (s t : _) → put-board.Post κs a r s → put-board.Post κs a q t → (r ≡ q) × (s.0.now ≡ t.0.now)
put-board-unique κs a r q s t e f = (one e.0 f.0, one e.1.0 f.1.0)

pub put-stamped-unique : (κs : _) (a : _) (r q : _) (s t : _) → put-stamped.Post κs a r s → put-stamped.Post κs a q t → (r ≡ q) × (s.0.now ≡ t.0.now)
put-stamped-unique κs a r q s t e f = (one e.0 f.0, one e.1.0 f.1.0)
