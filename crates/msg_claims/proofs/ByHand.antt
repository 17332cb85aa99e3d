-- Device information worked by hand, by computation.
use mathlib.Core.Path.{refl}
use Rattle.utf8.specs.Table.{rows, within, row_of}
use Rattle.utf8.specs.WellFormed.{sequence_at, bad_place}
use Rattle.proto_field.specs.Tag.{tag_at, bad_tag}
use Rattle.proto_field.specs.Value.{value_at}
use Rattle.proto_field.specs.Varint.{varint_at}
use Rattle.proto_writer.specs.Varint.{varint_bytes}
use Rattle.proto_writer.specs.Writer.{tag_bytes, head_bytes, part_bytes, field_bytes}
use Rattle.proto_schema.specs.Schema.{role_of}
use Rattle.proto_reader.specs.Walk.{fields_from, field_at, read_at, added_at, judged, with_string}
use Rattle.msg_device.specs.Information.{information_of, information_written}
use Rattle.msg_claims.specs.Worked.{WorkedInformation, information_cases, information_writes}

pub worked-information : WorkedInformation
unfolding WorkedInformation information_cases information_writes information_of information_written field_bytes part_bytes head_bytes tag_bytes varint_bytes fields_from field_at read_at added_at judged role_of tag_at bad_tag value_at varint_at with_string bad_place sequence_at row_of rows within
worked-information = (refl, refl)
