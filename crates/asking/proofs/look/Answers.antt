-- `asking::look` meets its contract: the words of a page are lent. Assumes nothing.
use mathlib.Core.Path.{◌≡◌, refl}
use lib.ListN.{length}
use Rattle.asking.proofs.Lookups.{looks}
use borrow.Author.Rules.{rules}
use Rattle.asking.proofs.look.Goals as goal

pub returns : goal.returns
returns c =
    let room : 5952 ≡ length c.args.words.now = search rules in
    let all = looks c.args.board c.args.page c.min.result c.args.words.now c.min.ensures room c.openings.ensures.value c.openings.ensures.buffer_after refl in
    record { value = all.0; words_after = all.1 }
