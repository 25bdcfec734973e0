-- `recorder::feed` meets its contract: each turn takes a part of the piece. Assumes nothing.
use Prim.Native.Nat.{◌+◌, ◌-◌, ◌≤◌, ◌<◌}
use mathlib.Core.Path.{◌≡◌, refl, sym, ap, ◌∙◌}
use mathlib.Core.Bool.{true, false}
use native.Mathlib.Omega.{arith}
use lib.ListN.{length, length-drop}
use Rattle.recorder.proofs.Reading.{onward}
use Rattle.recorder.proofs.Going.{turns, going-none, same-room, some_left, room-left, going_more, goes_further, going_done}
use borrow.Author.Rules.{rules}
use mir.Syntax.{w64}
use mir.Val.{Fits}
use Rattle.recorder.proofs.feed.Goals as goal

pub loop-said-init : goal.loop-said-init
loop-said-init c = going-none _ _ _ _ _ (omega arith)

pub overflow_sub-piece : goal.overflow_sub-piece
overflow_sub-piece c = let g = c.loop-said.invariant in omega (arith, g.place)

pub overflow_sub-out : goal.overflow_sub-out
overflow_sub-out c = let g = c.loop-said.invariant in omega (arith, g.fits, same-room g)

pub slice_bounds-find-count : goal.slice_bounds-find-count
slice_bounds-find-count c =
    let go : turns c.loop-said.r (length c.args.piece.now - c.loop-said.at) (length c.loop-said.out - c.loop-said.used) ≡ true = sym c.goes_on.ensures ∙ c.loop-said-test.true in
    let left : c.loop-said.at < length c.args.piece.now = some_left c.loop-said.invariant go in
    omega (arith, left)

pub slice_bounds-find-start : goal.slice_bounds-find-start
slice_bounds-find-start c =
    let go : turns c.loop-said.r (length c.args.piece.now - c.loop-said.at) (length c.loop-said.out - c.loop-said.used) ≡ true = sym c.goes_on.ensures ∙ c.loop-said-test.true in
    let left : c.loop-said.at < length c.args.piece.now = some_left c.loop-said.invariant go in
    omega (arith, left)

pub overflow_add-end : goal.overflow_add-end
overflow_add-end c =
    let go : turns c.loop-said.r (length c.args.piece.now - c.loop-said.at) (length c.loop-said.out - c.loop-said.used) ≡ true = sym c.goes_on.ensures ∙ c.loop-said-test.true in
    let left : c.loop-said.at < length c.args.piece.now = some_left c.loop-said.invariant go in
    let most : c.loop-said.at + c.find.result ≤ length c.args.piece.now = let piece = c.args.piece.now in
    omega (arith, c.find.ensures.upper_bound, ap length (onward piece c.loop-said.at), length-drop c.loop-said.at piece, left) in
    omega (arith, most)

pub slice_bounds-feed_part-count : goal.slice_bounds-feed_part-count
slice_bounds-feed_part-count c = omega arith

pub slice_bounds-feed_part-start : goal.slice_bounds-feed_part-start
slice_bounds-feed_part-start c =
    let go : turns c.loop-said.r (length c.args.piece.now - c.loop-said.at) (length c.loop-said.out - c.loop-said.used) ≡ true = sym c.goes_on.ensures ∙ c.loop-said-test.true in
    let left : c.loop-said.at < length c.args.piece.now = some_left c.loop-said.invariant go in
    let most : c.loop-said.at + c.find.result ≤ length c.args.piece.now = let piece = c.args.piece.now in
    omega (arith, c.find.ensures.upper_bound, ap length (onward piece c.loop-said.at), length-drop c.loop-said.at piece, left) in
    omega (arith, most)

pub slice_bounds-feed_part-end : goal.slice_bounds-feed_part-end
slice_bounds-feed_part-end c =
    let go : turns c.loop-said.r (length c.args.piece.now - c.loop-said.at) (length c.loop-said.out - c.loop-said.used) ≡ true = sym c.goes_on.ensures ∙ c.loop-said-test.true in
    let left : c.loop-said.at < length c.args.piece.now = some_left c.loop-said.invariant go in
    let most : c.loop-said.at + c.find.result ≤ length c.args.piece.now = let piece = c.args.piece.now in
    omega (arith, c.find.ensures.upper_bound, ap length (onward piece c.loop-said.at), length-drop c.loop-said.at piece, left) in
    omega (arith, most)

pub feed_part-p-requires : goal.feed_part-p-requires
feed_part-p-requires c =
    let go : turns c.loop-said.r (length c.args.piece.now - c.loop-said.at) (length c.loop-said.out - c.loop-said.used) ≡ true = sym c.goes_on.ensures ∙ c.loop-said-test.true in
    room-left c.loop-said.invariant go

pub overflow_add-at : goal.overflow_add-at
overflow_add-at c =
    let go : turns c.loop-said.r (length c.args.piece.now - c.loop-said.at) (length c.loop-said.out - c.loop-said.used) ≡ true = sym c.goes_on.ensures ∙ c.loop-said-test.true in
    let left : c.loop-said.at < length c.args.piece.now = some_left c.loop-said.invariant go in
    let most : c.loop-said.at + c.find.result ≤ length c.args.piece.now = let piece = c.args.piece.now in
    omega (arith, c.find.ensures.upper_bound, ap length (onward piece c.loop-said.at), length-drop c.loop-said.at piece, left) in
    let further : let q = c.feed_part-p.result in
    (0 < q.taken) × (c.loop-said.at + q.taken ≤ length c.args.piece.now) × (c.loop-said.used + q.used ≤ length c.args.out.now) =
    goes_further c.loop-said.invariant go _ (ap (λ k. c.loop-said.at + k) c.find.ensures.value) most c.feed_part-p.ensures.value in
    let fit : Fits w64 (length c.args.piece.now) × Fits w64 (length c.args.out.now) = (search rules, search rules) in
    omega (arith, further.1, fit.0.fits)

pub overflow_add-used : goal.overflow_add-used
overflow_add-used c =
    let go : turns c.loop-said.r (length c.args.piece.now - c.loop-said.at) (length c.loop-said.out - c.loop-said.used) ≡ true = sym c.goes_on.ensures ∙ c.loop-said-test.true in
    let left : c.loop-said.at < length c.args.piece.now = some_left c.loop-said.invariant go in
    let most : c.loop-said.at + c.find.result ≤ length c.args.piece.now = let piece = c.args.piece.now in
    omega (arith, c.find.ensures.upper_bound, ap length (onward piece c.loop-said.at), length-drop c.loop-said.at piece, left) in
    let further : let q = c.feed_part-p.result in
    (0 < q.taken) × (c.loop-said.at + q.taken ≤ length c.args.piece.now) × (c.loop-said.used + q.used ≤ length c.args.out.now) =
    goes_further c.loop-said.invariant go _ (ap (λ k. c.loop-said.at + k) c.find.ensures.value) most c.feed_part-p.ensures.value in
    let fit : Fits w64 (length c.args.piece.now) × Fits w64 (length c.args.out.now) = (search rules, search rules) in
    omega (arith, further.2, fit.1.fits)

pub loop-said-smaller : goal.loop-said-smaller
loop-said-smaller c =
    let go : turns c.loop-said.r (length c.args.piece.now - c.loop-said.at) (length c.loop-said.out - c.loop-said.used) ≡ true = sym c.goes_on.ensures ∙ c.loop-said-test.true in
    let left : c.loop-said.at < length c.args.piece.now = some_left c.loop-said.invariant go in
    let most : c.loop-said.at + c.find.result ≤ length c.args.piece.now = let piece = c.args.piece.now in
    omega (arith, c.find.ensures.upper_bound, ap length (onward piece c.loop-said.at), length-drop c.loop-said.at piece, left) in
    let further : let q = c.feed_part-p.result in
    (0 < q.taken) × (c.loop-said.at + q.taken ≤ length c.args.piece.now) × (c.loop-said.used + q.used ≤ length c.args.out.now) =
    goes_further c.loop-said.invariant go _ (ap (λ k. c.loop-said.at + k) c.find.ensures.value) most c.feed_part-p.ensures.value in
    omega (arith, further.0, further.1)

pub loop-said-preserved : goal.loop-said-preserved
loop-said-preserved c =
    let go : turns c.loop-said.r (length c.args.piece.now - c.loop-said.at) (length c.loop-said.out - c.loop-said.used) ≡ true = sym c.goes_on.ensures ∙ c.loop-said-test.true in
    let left : c.loop-said.at < length c.args.piece.now = some_left c.loop-said.invariant go in
    let most : c.loop-said.at + c.find.result ≤ length c.args.piece.now = let piece = c.args.piece.now in
    omega (arith, c.find.ensures.upper_bound, ap length (onward piece c.loop-said.at), length-drop c.loop-said.at piece, left) in
    let p = c.feed_part-p.ensures in
    going_more c.loop-said.invariant go _ (ap (λ k. c.loop-said.at + k) c.find.ensures.value) most (p.value, (p.held_after, (p.out_after, p.err_after)))

pub shape_of-out-then-r : goal.shape_of-out-then-r
shape_of-out-then-r c = same-room c.loop-said.invariant

pub returns-then-r : goal.returns-then-r
returns-then-r c =
    let stop : turns c.loop-said.r (length c.args.piece.now - c.loop-said.at) (length c.loop-said.out - c.loop-said.used) ≡ false = sym c.goes_on.ensures ∙ c.loop-said-test.false in
    let all = going_done c.loop-said.invariant stop (rw c.if-r.true refl) in
    record { value = all.0; held_after = all.1.0; out_after = all.1.1.0; err_after = all.1.1.1.0; taken_in_bounds = all.1.1.1.1 }

pub shape_of-out-else-r : goal.shape_of-out-else-r
shape_of-out-else-r c = same-room c.loop-said.invariant

pub returns-else-r : goal.returns-else-r
returns-else-r c =
    let stop : turns c.loop-said.r (length c.args.piece.now - c.loop-said.at) (length c.loop-said.out - c.loop-said.used) ≡ false = sym c.goes_on.ensures ∙ c.loop-said-test.false in
    let all = going_done c.loop-said.invariant stop (rw c.if-r.false refl) in
    record { value = all.0; held_after = all.1.0; out_after = all.1.1.0; err_after = all.1.1.1.0; taken_in_bounds = all.1.1.1.1 }
