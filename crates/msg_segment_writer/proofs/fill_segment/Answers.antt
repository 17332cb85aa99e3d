use mathlib.Core.Path.{refl}
use Prim.Native.Nat.{◌≤◌, ◌<◌}
use lib.ListN.{length}
use borrow.Author.Rules.{rules}
use Rattle.proto_writer.specs.Writer.{message_bytes}
use Rattle.msg_firmware.proofs.Segments.{told-none, told-some}
use Rattle.msg_segment_writer.specs.Segment.{segment_fields}
use Rattle.msg_segment_writer.proofs.Segments.{segment-broken, segment-short, segment-wrote}
use Rattle.msg_segment_writer.proofs.fill_segment.Goals as goal

pub returns-in-Some : goal.returns-in-Some
returns-in-Some c =
    let t = told-some _ _ c.in-Some.ensures in
    segment-broken c.args.component_name.now c.args.component_offset c.args.segment_size c.args.segment_signature.now c.args.out.now _ t.0 t.1

pub returns-then-is_none : goal.returns-then-is_none
returns-then-is_none c =
    let short : length c.args.out.now < length (message_bytes (segment_fields c.args.component_name.now 0 c.args.segment_size c.args.segment_signature.now)) = search rules in
    segment-short c.args.component_name.now c.args.component_offset c.args.segment_size c.args.segment_signature.now c.args.out.now _ refl (told-none _ c.in_default.ensures) short

pub returns : goal.returns
returns c =
    let fits : length (message_bytes (segment_fields c.args.component_name.now 0 c.args.segment_size c.args.segment_signature.now)) ≤ length c.args.out.now = search rules in
    segment-wrote c.args.component_name.now c.args.component_offset c.args.segment_size c.args.segment_signature.now c.args.out.now _ refl (told-none _ c.in_default.ensures) fits c.put_segment.ensures
