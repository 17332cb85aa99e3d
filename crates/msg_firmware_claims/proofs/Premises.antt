-- The premises of the round trips, built from the facts of docs/FORMATS.md; and the round trips that compute.
use Prim.Native.Nat.{ℕ, ◌≤◌, zero-le}
use mathlib.Core.Path.{◌≡◌, refl}
use mathlib.Core.Bool.{true}
use mathlib.Core.List.{List, [], ◌∷◌}
use native.Mathlib.Omega.{arith}
use lib.ListN.{length}
use borrow.Author.Tests.{le-leb, lt-leb, eq-eqb}
use Rattle.proto_field.specs.Varint.{varint_at}
use Rattle.proto_field.specs.Tag.{bad_tag, tag_at}
use Rattle.proto_field.specs.Value.{value_at}
use Rattle.proto_field.specs.Fields.{found_at}
use Rattle.proto_writer.specs.Varint.{varint_bytes}
use Rattle.proto_writer.specs.Writer.{tag_bytes, head_bytes, part_bytes, field_bytes}
use Rattle.utf8.specs.Table.{rows, within, described, row_of}
use Rattle.utf8.specs.WellFormed.{WellFormed, empty, more, sequence_at, bad_place}
use Rattle.proto_schema.specs.Schema.{role_of}
use Rattle.proto_reader.specs.Walk.{judged, added_at, read_at, field_at, fields_from, with_string}
use Rattle.msg_firmware.specs.declared.component.FirmwareComponent.{FirmwareComponent}
use Rattle.msg_firmware.specs.Segment.{is_digit, all_digits, is_signature, broken_field, segment_of}
use Rattle.msg_segment_writer.specs.Segment.{segment_filled, segment_written}
use Rattle.msg_firmware.specs.Component.{component_from}
use Rattle.msg_component_writer.specs.Component.{outside, bad_component}
use Rattle.msg_firmware.specs.Information.{parts_from, component_in, components_from, firmware_from}
use Rattle.msg_apply_writer.specs.Information.{present, bad_firmware}
use Rattle.msg_firmware.specs.Apply.{firmware_in, apply_of}
use Rattle.msg_apply_writer.specs.Apply.{apply_written}
use Rattle.msg_firmware_claims.specs.RoundTrip.{ComponentsWritable}
use Rattle.msg_firmware_claims.specs.Premises.{Digit, decimal, upper, lower, Digits, SegmentsTaken, ComponentsInRange, AppliesTaken, OneFirmwareOfEach}

digit : (b : ℕ) → Digit b → is_digit b ≡ true
unfolding is_digit
digit b (decimal l h) = rw (le-leb 48 b l, le-leb b 57 h)
digit b (upper l h) = rw (le-leb 48 b (omega arith), lt-leb b 57 (omega arith), le-leb 65 b l, le-leb b 70 h)
digit b (lower l h) = rw (le-leb 48 b (omega arith), lt-leb b 57 (omega arith), le-leb 65 b (omega arith), lt-leb b 70 (omega arith), le-leb 97 b l, le-leb b 102 h)

digits : (l : List ℕ) → Digits l → all_digits l ≡ true
digits [] d = refl
digits (b ∷ l) d = rw (digit b d.0, digits l d.1)

pub signature : (l : List ℕ) → length l ≡ 64 → Digits l → is_signature l ≡ true
unfolding is_signature
signature l n d = rw (eq-eqb (length l) 64 n, digits l d)

-- digits are ASCII, so well formed
digit-ascii : (b : ℕ) → Digit b → b ≤ 127
digit-ascii b (decimal l h) = omega arith
digit-ascii b (upper l h) = omega arith
digit-ascii b (lower l h) = omega arith

pub digits-well : (l : List ℕ) → Digits l → WellFormed l
unfolding described rows within
digits-well [] d = empty
digits-well (b ∷ l) d = more (b ∷ []) l refl (rw (le-leb 0 b zero-le, le-leb b 127 (digit-ascii b d.0))) (digits-well l d.1)

pub segments-taken : SegmentsTaken
unfolding SegmentsTaken
segments-taken name size sig out well n long d lent room =
    record { number = omega arith; digits = signature sig long d; strings = (well, (digits-well sig d, tt)); lent = omega arith; room = omega arith }

components : (texts : List ℕ) (cs : List FirmwareComponent) → ComponentsInRange texts cs → ComponentsWritable texts cs
components texts [] h = tt
components texts (c ∷ cs) h = ((omega (arith, h.0.0), omega (arith, h.0.1), ((h.0.2.0, (h.0.3.0, tt)), (h.0.2.1, (h.0.3.1, tt)))), components texts cs h.1)

pub applies-taken : AppliesTaken
unfolding AppliesTaken
applies-taken a texts out version eight most name locale version_name cs lent room =
    record {
      firmware =
          record {
            number = omega arith;
            strings = ((name.0, (locale.0, (version_name.0, tt))), (name.1, (locale.1, (version_name.1, tt))));
            most = omega arith;
            there = omega arith;
            components = components texts (present a.firmware_information) cs;
          };
      lent = omega arith;
      room = omega arith;
    }

pub one-of-each : OneFirmwareOfEach
unfolding varint_at varint_bytes bad_tag tag_at value_at found_at tag_bytes head_bytes part_bytes field_bytes role_of judged added_at read_at field_at fields_from is_digit is_signature broken_field segment_of segment_filled segment_written component_from outside bad_component parts_from component_in components_from firmware_from bad_firmware firmware_in apply_of apply_written with_string bad_place sequence_at row_of rows within
one-of-each = record { segment = refl; apply = refl }
