use Rattle.proto_writer.proofs.Runs.{put-none, text-none, text-some}
use Rattle.proto_writer.proofs.fields.put_text.Goals as goal

pub returns-then-bytes-eq0 : goal.returns-then-bytes-eq0
returns-then-bytes-eq0 c =
    put-none c.args.out.now c.args.at (text-none c.args.field c.args.bytes.now c.if-bytes-eq0.true)

pub put_part-requires : goal.put_part-requires
put_part-requires c =
    rw (text-some c.args.field c.args.bytes.now c.if-bytes-eq0.false) c.requires

pub returns : goal.returns
returns c =
    rw (← text-some c.args.field c.args.bytes.now c.if-bytes-eq0.false) c.put_part.ensures
