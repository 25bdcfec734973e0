-- `figures::count` meets its contract. Assumes nothing.
use Prim.Native.Nat.{◌+◌, ◌*◌, ◌≤◌, ◌<◌}
use mathlib.Core.Path.{ap, ◌∙◌}
use native.Mathlib.Omega.{arith}
use lib.ListN.{get_or}
use Rattle.figures.specs.Figures.{place_of}
use Rattle.figures.proofs.Counting.{bumped-most, count-classless, count_none, count-in}
use Rattle.figures.proofs.Tallying.{classless-last, fate-classed}
use Rattle.figures.proofs.count.Goals as goal

pub bump-requires : goal.bump-requires
bump-requires c = (omega arith, omega (arith, c.requires.1.small 80))

pub returns-in-Classless : goal.returns-in-Classless
returns-in-Classless c =
    c.bump.ensures ∙ count-classless c.args.figures.now c.requires.1.size c.args.v (ap place_of c.in-Classless.is ∙ classless-last)

pub returns-then-v-gt3 : goal.returns-then-v-gt3
returns-then-v-gt3 c =
    count_none c.args.figures.now c.requires.1.size c.args.v (fate-classed c.args.v.fate c.in_default.not-Classless) c.if-v-gt3.true

pub bump-requires-2 : goal.bump-requires-2
bump-requires-2 c =
    let v = c.args.v in
    let at = c.from.result * 20 + c.from-2.result * 5 in
    let inside : at + 5 ≤ 80 = omega (arith, c.from.ensures, c.from-2.ensures, c.if-v-gt3.false, c.requires.0) in
    (omega (arith, inside), omega (arith, c.requires.1.small at))

pub overflow_add-at-3 : goal.overflow_add-at-3
overflow_add-at-3 c =
    let v = c.args.v in
    let at = c.from.result * 20 + c.from-2.result * 5 in
    let inside : at + 5 ≤ 80 = omega (arith, c.from.ensures, c.from-2.ensures, c.if-v-gt3.false, c.requires.0) in
    let few : c.place_of.result < 3 = omega (arith, c.place_of.ensures, fate-classed v.fate c.in_default.not-Classless) in
    omega (arith, inside, few)

pub bump-requires-3 : goal.bump-requires-3
bump-requires-3 c =
    let v = c.args.v in
    let at = c.from.result * 20 + c.from-2.result * 5 in
    let inside : at + 5 ≤ 80 = omega (arith, c.from.ensures, c.from-2.ensures, c.if-v-gt3.false, c.requires.0) in
    let few : c.place_of.result < 3 = omega (arith, c.place_of.ensures, fate-classed v.fate c.in_default.not-Classless) in
    let line = at + 1 + c.place_of.result in
    let less = bumped-most c.args.figures.now at 1 line (omega (arith, inside, c.requires.1.size)) in
    (omega (arith, inside, few), omega (arith, less, c.requires.1.small line, ap (λ l. get_or l line 0) c.bump-2.ensures))

pub bump-requires-4 : goal.bump-requires-4
bump-requires-4 c =
    let v = c.args.v in
    let at = c.from.result * 20 + c.from-2.result * 5 in
    let inside : at + 5 ≤ 80 = omega (arith, c.from.ensures, c.from-2.ensures, c.if-v-gt3.false, c.requires.0) in
    let few : c.place_of.result < 3 = omega (arith, c.place_of.ensures, fate-classed v.fate c.in_default.not-Classless) in
    let line = at + 1 + c.place_of.result in
    let once = bumped-most c.args.figures.now at 1 (at + 4) (omega (arith, inside, c.requires.1.size)) in
    let one = ap (λ l. get_or l (at + 4) 0) c.bump-2.ensures in
    let twice = bumped-most c.bump-2.new.figures line 1 (at + 4) (omega (arith, inside, few, c.bump-2.array_long)) in
    let two = ap (λ l. get_or l (at + 4) 0) c.bump-3.ensures in
    (omega (arith, inside), omega (arith, once, one, twice, two, c.requires.1.small (at + 4)))

pub returns : goal.returns
returns c =
    let v = c.args.v in
    rw (c.bump-4.ensures, c.bump-3.ensures, c.bump-2.ensures, c.from.ensures, c.from-2.ensures, c.place_of.ensures)
    (count-in c.args.figures.now c.requires.1.size v (fate-classed v.fate c.in_default.not-Classless) (omega (arith, c.if-v-gt3.false)) c.requires.0)
