-- `listing::put_lines` meets its contract: plain lines, and lines in words by the bytes of their events. Assumes nothing.
use Prim.Native.Nat.{min}
use mathlib.Core.Path.{◌≡◌, sym, ap, ◌∙◌}
use mathlib.Core.Bool.{true, false}
use native.Mathlib.Omega.{arith}
use borrow.Author.Tests.{not-true, not-false}
use lib.ListN.{length, length-take}
use Rattle.lists.specs.Lists.{over_front}
use Rattle.worded.specs.Rows.{worded_rows}
use Rattle.reader.specs.Reader.{held_of}
use Rattle.listing.proofs.Lines.{text-words, text-plain, room-words, room-plain, source-alone, source-behind}
use borrow.Author.Rules.{rules}
use mathlib.Core.Bool.{not}
use Rattle.listing.proofs.put_lines.Goals as goal

pub put_table-requires : goal.put_table-requires
put_table-requires c =
    let is_plain : c.args.words ≡ false = not-true _ (ap not c.if-not-words.true) in
    (omega arith, room-plain c.args.words c.args.count _ is_plain c.requires.0, c.requires.1)

pub returns-then-not-words : goal.returns-then-not-words
returns-then-not-words c =
    let is_plain : c.args.words ≡ false = not-true _ (ap not c.if-not-words.true) in
    let table-room : length c.put_table.new.out ≡ length c.args.out.now = search rules in
    let a = c.args in
    let e = sym (text-plain a.words a.count a.numbers.now _ is_plain) in
    let p = c.put_table.ensures in
    let room = room-plain a.words a.count _ is_plain c.requires.0 in
    record {
      value = p.value ∙ ap length e;
      out_after = p.out_after ∙ ap (λ x. over_front x a.out.now) e;
      upper_bound = omega (arith, p.upper_bound, room, table-room);
    }

pub put_rows-requires : goal.put_rows-requires
put_rows-requires c =
    let in_words : c.args.words ≡ true = not-false _ (ap not c.if-not-words.false) in
    (room-words c.args.words c.args.count _ in_words c.requires.0, c.requires.1)

pub returns-then-r-eq0 : goal.returns-then-r-eq0
returns-then-r-eq0 c =
    let in_words : c.args.words ≡ true = not-false _ (ap not c.if-not-words.false) in
    let rows-room : length c.put_rows.new.out ≡ length c.args.out.now = search rules in
    let a = c.args in
    let nothing : length (held_of a.r) ≡ 0 = omega (arith, c.if-r-eq0.true, length-take a.r.size a.r.held) in
    let e = sym (text-words a.words a.count a.numbers.now _ in_words ∙ ap (worded_rows a.count a.numbers.now) (source-alone a.r a.piece.now nothing)) in
    let p = c.put_rows.ensures in
    let room = room-words a.words a.count _ in_words c.requires.0 in
    record {
      value = p.value ∙ ap length e;
      out_after = p.out_after ∙ ap (λ x. over_front x a.out.now) e;
      upper_bound = omega (arith, p.upper_bound, room, rows-room);
    }

pub slice_bounds-put_rows-end : goal.slice_bounds-put_rows-end
slice_bounds-put_rows-end c =
    let window-size : length c.window-joined.result.bytes ≡ 18 = search rules in
    omega (arith, window-size, c.window-joined.ensures.0)

pub put_rows-requires-2 : goal.put_rows-requires-2
put_rows-requires-2 c =
    let in_words : c.args.words ≡ true = not-false _ (ap not c.if-not-words.false) in
    (room-words c.args.words c.args.count _ in_words c.requires.0, c.requires.1)

pub returns : goal.returns
returns c =
    let in_words : c.args.words ≡ true = not-false _ (ap not c.if-not-words.false) in
    let held-size : length c.args.r.held ≡ 18 = search rules in
    let rows-room-2 : length c.put_rows-2.new.out ≡ length c.args.out.now = search rules in
    let a = c.args in
    let more : length (held_of a.r) ≡ min a.r.size 18 = omega (arith, length-take a.r.size a.r.held, held-size) in
    let bytes = c.window-joined.ensures.1 ∙ sym (source-behind a.r a.piece.now (λ q. c.if-r-eq0.false (omega (arith, q, more)))) in
    let e = ap (worded_rows a.count a.numbers.now) bytes ∙ sym (text-words a.words a.count a.numbers.now _ in_words) in
    let p = c.put_rows-2.ensures in
    let room = room-words a.words a.count _ in_words c.requires.0 in
    record {
      value = p.value ∙ ap length e;
      out_after = p.out_after ∙ ap (λ x. over_front x a.out.now) e;
      upper_bound = omega (arith, p.upper_bound, room, rows-room-2);
    }
