-- `asking::turn` meets its contract: the last page, or one that goes on from its last pair. Assumes nothing.
use Prim.Native.Nat.{◌≤◌, ◌<◌}
use mathlib.Core.Path.{◌≡◌, sym}
use native.Mathlib.Omega.{arith}
use lib.ListN.{length}
use Rattle.asking.specs.Machine.{page_rows}
use Rattle.asking.proofs.Pages.{count-few, count-full, goes-past, turns-last, turns-on}
use borrow.Author.Rules.{rules}
use Rattle.asking.proofs.turn.Goals as goal

pub put_table-n-requires : goal.put_table-n-requires
put_table-n-requires c =
    let size : 5952 ≡ length c.look-r.new.words = search rules in
    let few : c.look-r.result.count ≤ page_rows = count-few c.args.board c.args.page c.look-r.result c.look-r.new.words _ c.look-r.ensures.value c.look-r.ensures.words_after in
    let f = few in
    (omega arith, omega (arith, f, c.put_table-arg-1.given.0.1), omega (arith, f, size))

pub put_last-used-requires : goal.put_last-used-requires
put_last-used-requires c =
    let few : c.look-r.result.count ≤ page_rows = count-few c.args.board c.args.page c.look-r.result c.look-r.new.words _ c.look-r.ensures.value c.look-r.ensures.words_after in
    omega (arith, few, c.put_table-n.ensures.upper_bound, c.put_last-arg-1.given.0.1)

pub returns-then-page-r : goal.returns-then-page-r
returns-then-page-r c =
    turns-last c.args.board c.args.page c.look-r.result c.look-r.new.words _ c.look-r.ensures.value c.look-r.ensures.words_after c.if-page-r.true
    c.put_table-n.ensures.value c.put_table-n.ensures.out_after c.put_table-n.ensures.upper_bound (sym c.put_table-arg-1.given.0.1) c.put_last-used.ensures c.whole.ensures

pub overflow_mul-result : goal.overflow_mul-result
overflow_mul-result c =
    let full : c.look-r.result.count ≡ page_rows = count-full c.args.board c.args.page c.look-r.result c.look-r.new.words _ c.look-r.ensures.value c.look-r.ensures.words_after c.if-page-r.false in
    let f = full in omega arith

pub overflow_sub-result : goal.overflow_sub-result
overflow_sub-result c =
    let full : c.look-r.result.count ≡ page_rows = count-full c.args.board c.args.page c.look-r.result c.look-r.new.words _ c.look-r.ensures.value c.look-r.ensures.words_after c.if-page-r.false in
    let f = full in omega arith

pub offset_bounds-words-count : goal.offset_bounds-words-count
offset_bounds-words-count c =
    let full : c.look-r.result.count ≡ page_rows = count-full c.args.board c.args.page c.look-r.result c.look-r.new.words _ c.look-r.ensures.value c.look-r.ensures.words_after c.if-page-r.false in
    let f = full in omega arith

pub bounds-words-count : goal.bounds-words-count
bounds-words-count c =
    let full : c.look-r.result.count ≡ page_rows = count-full c.args.board c.args.page c.look-r.result c.look-r.new.words _ c.look-r.ensures.value c.look-r.ensures.words_after c.if-page-r.false in
    let f = full in omega arith

pub overflow_mul-result-2 : goal.overflow_mul-result-2
overflow_mul-result-2 c =
    let full : c.look-r.result.count ≡ page_rows = count-full c.args.board c.args.page c.look-r.result c.look-r.new.words _ c.look-r.ensures.value c.look-r.ensures.words_after c.if-page-r.false in
    let f = full in omega arith

pub overflow_sub-result-2 : goal.overflow_sub-result-2
overflow_sub-result-2 c =
    let full : c.look-r.result.count ≡ page_rows = count-full c.args.board c.args.page c.look-r.result c.look-r.new.words _ c.look-r.ensures.value c.look-r.ensures.words_after c.if-page-r.false in
    let f = full in omega arith

pub offset_bounds-words-count-2 : goal.offset_bounds-words-count-2
offset_bounds-words-count-2 c =
    let full : c.look-r.result.count ≡ page_rows = count-full c.args.board c.args.page c.look-r.result c.look-r.new.words _ c.look-r.ensures.value c.look-r.ensures.words_after c.if-page-r.false in
    let f = full in omega arith

pub bounds-words-count-2 : goal.bounds-words-count-2
bounds-words-count-2 c =
    let full : c.look-r.result.count ≡ page_rows = count-full c.args.board c.args.page c.look-r.result c.look-r.new.words _ c.look-r.ensures.value c.look-r.ensures.words_after c.if-page-r.false in
    let f = full in omega arith

pub overflow_sub-result-3 : goal.overflow_sub-result-3
overflow_sub-result-3 c =
    let past : page_rows < c.args.page.left = (goes-past c.args.board c.args.page c.look-r.result c.look-r.new.words _ c.look-r.ensures.value c.look-r.ensures.words_after c.if-page-r.false).0 in
    let p = past in omega arith

pub returns : goal.returns
returns c =
    turns-on c.args.board c.args.page c.look-r.result c.look-r.new.words _ c.look-r.ensures.value c.look-r.ensures.words_after c.if-page-r.false
    c.put_table-n.ensures.value c.put_table-n.ensures.out_after
