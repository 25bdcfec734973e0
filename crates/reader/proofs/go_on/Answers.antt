-- `reader::go_on` meets its contract. Assumes nothing.
use mathlib.Core.Path.{◌≡◌, refl, sym, ap, ◌∙◌}
use mathlib.Core.List.{◌++◌}
use borrow.Author.Rules.{rules}
use lib.ListN.{length, take}
use Rattle.reader.specs.Reader.{held_of}
use Rattle.reader.proofs.Held.{kept-is, kept-length}
use Rattle.reader.proofs.Going.{goes-alone, goes-behind}
use Rattle.reader.proofs.go_on.Goals as goal

pub returns-then-kept-eq0 : goal.returns-then-kept-eq0
returns-then-kept-eq0 c =
    let a = c.args in
    let held-size : length a.r.held ≡ 18 = search rules in
    let held-length : c.min-kept.result ≡ length (held_of a.r) = kept-length a.r.size a.r.held c.min-kept.result held-size c.min-kept.ensures in
    goes-alone a.r a.piece.now a.answers.now (sym held-length ∙ c.if-kept-eq0.true) c.hear.ensures

pub returns : goal.returns
returns c =
    let a = c.args in
    let held-size : length a.r.held ≡ 18 = search rules in
    let held-length : c.min-kept.result ≡ length (held_of a.r) = kept-length a.r.size a.r.held c.min-kept.result held-size c.min-kept.ensures in
    let window = c.join-joined.ensures.1
    ∙ ap (λ x. take 18 (x ++ a.piece.now)) (kept-is a.r.size a.r.held c.min-kept.result held-size c.min-kept.ensures) in
    let lent-room : length c.hear-2.new.answers ≡ length (take c.min-words.result a.answers.now) = search rules in
    goes-behind a.r a.piece.now a.answers.now held-length c.if-kept-eq0.false window c.min-words.ensures
    lent-room c.hear-2.ensures refl
