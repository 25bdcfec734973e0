-- `asking::answer_horizon` meets its contract: there is room for every run that was listed. Assumes nothing.
use Prim.Native.Nat.{◌-◌, ◌*◌, ◌≤◌}
use mathlib.Core.Path.{refl, ap, ◌∙◌}
use native.Mathlib.Omega.{arith}
use lib.ListN.{length-take}
use Rattle.text.specs.Text.{rows_text, rows_of}
use Rattle.asking.specs.Asking.{replied}
use Rattle.asking.proofs.Copies.{lent-text, said-as}
use Rattle.asking.proofs.Lookups.{listed-within, horizon-answers}
use Rattle.asking.proofs.answer_horizon.Goals as goal

pub put_table-n-requires : goal.put_table-n-requires
put_table-n-requires c =
    let fits : c.horizon-r.result.count * 3 ≤ 768 = listed-within c.args.board 768 c.horizon-r.ensures.value in
    let f = fits in
    (omega arith, omega (arith, f), omega (arith, f))

pub reply-requires : goal.reply-requires
reply-requires c =
    let fits : c.horizon-r.result.count * 3 ≤ 768 = listed-within c.args.board 768 c.horizon-r.ensures.value in
    omega (arith, fits, c.put_table-n.ensures.upper_bound, c.reply-arg-1.given.0.1, length-take (c.put_table-n.result - 0) c.put_table-n.new.out)

pub returns : goal.returns
returns c =
    let rows = rows_text (rows_of 3 c.horizon-r.result.count c.horizon-r.new.buffer) in
    let all = said-as c.args.out.now
    (ap (replied c.horizon-r.result.number) (lent-text rows _ c.put_table-n.ensures.value c.put_table-n.ensures.out_after)
    ∙ horizon-answers c.args.board _ refl c.horizon-r.ensures.value c.horizon-r.ensures.buffer_after)
    (c.reply.ensures.value, c.reply.ensures.out_after) in
    record { value = all.0; out_after = all.1 }
