-- The bytes worked by hand, by computation; the components that were counted.
use mathlib.Core.Path.{refl}
use Rattle.msg_firmware.specs.Segment.{is_digit, is_signature, broken_field, segment_of}
use Rattle.msg_segment_writer.specs.Segment.{segment_filled, segment_written}
use Rattle.msg_firmware.specs.Component.{component_from}
use Rattle.msg_component_writer.specs.Component.{outside, bad_component}
use Rattle.msg_firmware.specs.Information.{parts_from, component_in, components_from, firmware_from}
use Rattle.msg_apply_writer.specs.Information.{bad_firmware}
use Rattle.msg_firmware.specs.Apply.{firmware_in, apply_of}
use Rattle.msg_apply_writer.specs.Apply.{apply_written}
use Rattle.utf8.specs.Table.{rows, within, row_of}
use Rattle.utf8.specs.WellFormed.{sequence_at, bad_place}
use Rattle.proto_reader.specs.Walk.{fields_from, field_at, read_at, added_at, judged, with_string}
use Rattle.proto_schema.specs.Schema.{role_of}
use Rattle.proto_field.specs.Fields.{found_at}
use Rattle.proto_field.specs.Tag.{tag_at, bad_tag}
use Rattle.proto_field.specs.Value.{value_at}
use Rattle.proto_field.specs.Varint.{varint_at}
use Rattle.proto_writer.specs.Varint.{varint_bytes}
use Rattle.proto_writer.specs.Writer.{tag_bytes, head_bytes, part_bytes, field_bytes}
use Rattle.msg_firmware.proofs.Parts.{parts-counted}
use Rattle.msg_firmware_claims.specs.Worked.{WorkedFirmware, ComponentsCounted, segment_cases, apply_cases, segment_writes, apply_writes}

pub worked-firmware : WorkedFirmware
unfolding WorkedFirmware segment_cases apply_cases segment_writes apply_writes segment_filled segment_written apply_written bad_firmware bad_component outside field_bytes part_bytes head_bytes tag_bytes varint_bytes segment_of is_digit is_signature broken_field component_from parts_from component_in components_from firmware_from firmware_in apply_of fields_from field_at read_at added_at judged role_of found_at tag_at bad_tag value_at varint_at with_string bad_place sequence_at row_of rows within
worked-firmware = (refl, refl, refl, refl)

pub components-counted : ComponentsCounted
unfolding ComponentsCounted
components-counted s at g e = parts-counted s at g e
