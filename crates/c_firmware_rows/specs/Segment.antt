-- UpdateComponentSegment: what its reader tells, as a row.
use Rattle.std.specs.Prelude.{ℕ, List, ◌∷◌, ◌++◌, replicate}
use Rattle.wire.specs.Told.{ToldMore, given, refused}
use Rattle.msg_firmware.specs.declared.segment.UpdateComponentSegment.{UpdateComponentSegment}
use Rattle.c_message_rows.specs.Convert.{part_row, fault_of}

-- name, offset, size, signature, and the field and the place that go with a refusal
abbrev pub segment_row : ToldMore UpdateComponentSegment → List ℕ
segment_row (given m) = part_row m.component_name ++ (m.component_offset ∷ m.segment_size ∷ (part_row m.segment_signature ++ replicate 2 0))
segment_row (refused why) = replicate 6 0 ++ fault_of why
