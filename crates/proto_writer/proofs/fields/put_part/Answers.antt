use native.Mathlib.Omega.{arith}
use lib.ListN.{length}
use Rattle.proto_writer.specs.Writer.{head_bytes}
use mathlib.Core.Path.{refl}
use Rattle.proto_writer.proofs.Runs.{put_then, joined_length, part-is}
use Rattle.proto_writer.proofs.fields.put_part.Goals as goal

pub put_head-start-requires : goal.put_head-start-requires
put_head-start-requires c =
    let s = c.args.bytes.now in
    omega (arith, c.requires, joined_length (head_bytes c.args.field (length s)) s (part-is c.args.field s))

pub copy-requires : goal.copy-requires
copy-requires c =
    let s = c.args.bytes.now in
    omega (arith, c.requires, joined_length (head_bytes c.args.field (length s)) s (part-is c.args.field s), c.put_head-start.ensures.place, c.put_head-start.auto.out)

pub overflow_add-result : goal.overflow_add-result
overflow_add-result c =
    let s = c.args.bytes.now in
    omega (arith, c.requires, joined_length (head_bytes c.args.field (length s)) s (part-is c.args.field s), c.put_head-start.ensures.place)

pub returns : goal.returns
returns c =
    let s = c.args.bytes.now in
    put_then (head_bytes c.args.field (length s)) s (part-is c.args.field s) c.put_head-start.ensures (record { place = refl; stored = c.copy.ensures })
