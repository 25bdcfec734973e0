-- `tokens::find` meets its contract. Assumes nothing.
use Prim.Native.Nat.{ℕ, ◌<◌, ◌≤◌}
use mathlib.Core.Bool.{true, false}
use mathlib.Core.Path.{◌≡◌}
use lib.ListN.{length, get_or}
use borrow.Author.Rules.{rules}
use Rattle.lists.proofs.Append.{index_is}
use Rattle.tokens.specs.Tokens.{stops_at}
use Rattle.tokens.proofs.find.Goals as goal

pub returns-clause-value : goal.returns-clause-value
returns-clause-value c =
    let text = c.args.text.now in
    let stop = stops_at c.args.sort in
    let at = c.unwrap_or.result in
    let within : at ≤ length text = search rules in
    let before : (k : ℕ) → k < at → stop (get_or text k 0) ≡ false = search rules in
    let here : at < length text → stop (get_or text at 0) ≡ true = search rules in
    index_is stop text 0 at within before here
