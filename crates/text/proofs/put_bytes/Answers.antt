-- `text::put_bytes` meets its contract. Assumes nothing.
use mathlib.Core.Path.{refl}
use Rattle.text.proofs.Spelling.{bytes-put}
use Rattle.text.proofs.put_bytes.Goals as goal

pub returns : goal.returns
returns c =
    let all = bytes-put c.args.out.now c.args.bytes.now _ c.args.at c.requires c.copy_from_slice.ensures.after in
    record { put = all; value = refl; out_after = all.stored }
