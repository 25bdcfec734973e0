-- `recorder::put_record` meets its contract. Assumes nothing.
use mathlib.Core.Path.{◌≡◌, sym, ◌∙◌}
use lib.ListN.{length}
use Rattle.std.specs.Prelude.{Ok}
use Rattle.events.specs.Records.{Written, record_of}
use Rattle.recorder.proofs.Recording.{put-length, put-stored}
use Rattle.recorder.proofs.put_record.Goals as goal

pub unwrap-requires : goal.unwrap-requires
unwrap-requires c = let a = c.args in rw (put-length a.event a.out.now a.used c.requires c.write.ensures.value)

pub returns : goal.returns
returns c =
    let a = c.args in
    let e : ◌≡◌ {A = Written} (Ok c.unwrap.result) (Ok (length (record_of a.event))) =
    sym c.unwrap.ensures ∙ put-length a.event a.out.now a.used c.requires c.write.ensures.value in
    record {
      value = cc;
      out_after = put-stored a.event a.out.now a.used c.requires c.write.ensures.buffer_after;
    }
