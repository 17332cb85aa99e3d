use native.Mathlib.Omega.{arith}
use Rattle.proto_writer.proofs.Rooms.{last-room}
use Rattle.msg_segment_writer.proofs.Segments.{segment-length}
use Rattle.msg_segment_writer.proofs.segment_room.Goals as goal

pub returns : goal.returns
returns c =
    last-room c.args.len c.in_ok-checked_sub-2.field-0 c.text_len-2.result _ c.checked_sub-3.result
    (omega (arith, segment-length c.args.component_name.now c.args.segment_size c.args.segment_signature.now, c.text_len.ensures.0, c.scalar_len.ensures.0, c.text_len-2.ensures.0, c.in_ok-checked_sub.ensures, c.in_ok-checked_sub-2.ensures))
    c.checked_sub-3.ensures
