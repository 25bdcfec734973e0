-- `listing::feed` meets its contract. Assumes nothing.
use Prim.Native.Nat.{◌-◌, ◌*◌, ◌≤◌}
use mathlib.Core.Path.{◌≡◌, sym, ap, ◌∙◌}
use mathlib.Core.List.{◌++◌}
use native.Mathlib.Omega.{arith}
use lib.ListN.{length, take, drop, length-take}
use Rattle.listing.specs.Listing.{lines_in}
use Rattle.listing.proofs.Feeding.{whole-size, lines_fit, feeds}
use borrow.Author.Rules.{rules}
use Rattle.listing.proofs.feed.Goals as goal

pub slice_bounds-put_lines-end : goal.slice_bounds-put_lines-end
slice_bounds-put_lines-end c =
    let lent-size : let most = 6 * c.lines_in-most.result in
    length c.feed-fed.new.answers ≡ length (take (most - 0) c.no_numbers-numbers.result) = search rules in
    let all-size : let most = 6 * c.lines_in-most.result in
    length (c.feed-fed.new.answers ++ drop (most - 0) c.no_numbers-numbers.result) ≡ 5952 = let most = 6 * c.lines_in-most.result in
    whole-size c.feed-fed.new.answers c.no_numbers-numbers.result (most - 0) lent-size ∙ sym c.no_numbers-numbers.ensures in
    sym all-size

pub put_lines-used-requires : goal.put_lines-used-requires
put_lines-used-requires c =
    let lent-size : let most = 6 * c.lines_in-most.result in
    length c.feed-fed.new.answers ≡ length (take (most - 0) c.no_numbers-numbers.result) = search rules in
    let all-size : let most = 6 * c.lines_in-most.result in
    length (c.feed-fed.new.answers ++ drop (most - 0) c.no_numbers-numbers.result) ≡ 5952 = let most = 6 * c.lines_in-most.result in
    whole-size c.feed-fed.new.answers c.no_numbers-numbers.result (most - 0) lent-size ∙ sym c.no_numbers-numbers.ensures in
    let few-lines : let a = c.args in c.feed-fed.result.count ≤ lines_in a.l.words (length a.out.now) = let most = 6 * c.lines_in-most.result in
    omega (arith, c.feed-fed.ensures.count_in_bounds.0, length-take (most - 0) c.no_numbers-numbers.result, c.lines_in-most.ensures) in
    let a = c.args in
    (lines_fit a.l.words c.feed-fed.result.count _ few-lines, omega (arith, few-lines, all-size))

pub returns : goal.returns
returns c =
    let a = c.args in
    let n = c.no_numbers-numbers in
    let x = feeds a.l a.piece.now a.out.now n.result (6 * c.lines_in-most.result) (ap (λ k. 6 * k) c.lines_in-most.ensures) (sym n.ensures)
    c.feed-fed.result c.feed-fed.ensures.value c.feed-fed.ensures.answers_after c.put_lines-used.ensures.value c.put_lines-used.ensures.out_after in
    record {
      value = x.0;
      out_after = x.1;
      taken_in_bounds = (c.feed-fed.ensures.count_in_bounds.1, c.put_lines-used.ensures.upper_bound);
    }
