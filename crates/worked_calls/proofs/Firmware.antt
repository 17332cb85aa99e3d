-- Firmware messages and single fields, called from C, by computation.
use mathlib.Core.Path.{refl}
use Rattle.c_firmware.specs.Calls.{apply_read_of, apply_stored, apply_write_of, field_read_of, segment_read_of, segment_stored, segment_write_of}
use Rattle.msg_component_writer.specs.Component.{bad_component, outside}
use Rattle.proto_field.specs.Fields.{found_at}
use Rattle.proto_field.specs.Tag.{bad_tag, tag_at}
use Rattle.proto_field.specs.Value.{value_at}
use Rattle.proto_field.specs.Varint.{varint_at}
use Rattle.proto_writer.specs.Varint.{varint_bytes}
use Rattle.proto_writer.specs.Writer.{field_bytes, head_bytes, part_bytes, tag_bytes}
use Rattle.msg_firmware.specs.Apply.{apply_of, firmware_in}
use Rattle.msg_firmware.specs.Component.{component_from}
use Rattle.msg_firmware.specs.Information.{component_in, components_from, firmware_from, parts_from}
use Rattle.msg_firmware.specs.Segment.{broken_field, is_digit, is_signature, segment_of}
use Rattle.msg_apply_writer.specs.Apply.{apply_written}
use Rattle.msg_apply_writer.specs.Information.{bad_firmware}
use Rattle.proto_schema.specs.Schema.{role_of}
use Rattle.c_firmware_rows.specs.Apply.{apply_at, bad_row, component_at, wide_at}
use Rattle.c_firmware_rows.specs.FieldRow.{fixed_kind}
use Rattle.c_firmware_rows.specs.More.{is_wide}
use Rattle.msg_segment_writer.specs.Segment.{segment_filled, segment_written}
use Rattle.utf8.specs.Table.{row_of, rows, within}
use Rattle.utf8.specs.WellFormed.{bad_place, sequence_at}
use Rattle.proto_reader.specs.Gathered.{with_transport}
use Rattle.proto_reader.specs.Walk.{added_at, entry_at, fields_from, judged, packed_from, read_at, with_string}
use Rattle.proto_reader.specs.Walk as walk_walk
use Rattle.worked_calls.specs.Firmware.{FirmwareCalls, firmware_rows}

pub firmware-calls : FirmwareCalls
unfolding FirmwareCalls firmware_rows apply_read_of apply_stored apply_write_of field_read_of segment_read_of segment_stored segment_write_of bad_component outside found_at bad_tag tag_at value_at varint_at varint_bytes field_bytes head_bytes part_bytes tag_bytes apply_of firmware_in component_from component_in components_from firmware_from parts_from broken_field is_digit is_signature segment_of apply_written bad_firmware role_of apply_at bad_row component_at wide_at fixed_kind is_wide segment_filled segment_written row_of rows within bad_place sequence_at with_transport added_at entry_at walk_walk.field_at fields_from judged packed_from read_at with_string
firmware-calls = (refl, refl, refl)
