-- Bytes of firmware messages worked by hand, read and written.
use Rattle.std.specs.Prelude.{ℕ, ◌≡◌, true, false, List, [], ◌∷◌, ◌++◌, map, length, replicate}
use Rattle.std.proofs.lemmas.List.Edits.{sets}
use Rattle.wire.specs.Told.{ToldMore, given, refused}
use Rattle.proto_field.specs.declared.value.Part.{Part}
use Rattle.proto_reader.specs.declared.gathered.Gathered.{Gathered}
use Rattle.proto_schema.specs.declared.Schema.TheVariants as Schema
use Rattle.proto_reader.specs.Gathered.{no_part}
use Rattle.proto_reader.specs.Walk.{fields_from}
use Rattle.msg_firmware.specs.declared.segment.UpdateComponentSegment.{UpdateComponentSegment}
use Rattle.msg_firmware.specs.declared.component.FirmwareComponent.{FirmwareComponent}
use Rattle.msg_firmware.specs.declared.information.FirmwareInformation.{FirmwareInformation}
use Rattle.msg_firmware.specs.declared.apply.ApplyFirmware.{ApplyFirmware}
use Rattle.msg_firmware.specs.Segment.{segment_of}
use Rattle.msg_segment_writer.specs.Segment.{segment_written}
use Rattle.msg_firmware.specs.Component.{no_component}
use Rattle.msg_firmware.specs.Information.{no_firmware, parts_from}
use Rattle.msg_firmware.specs.Apply.{apply_of, no_apply}
use Rattle.msg_apply_writer.specs.Apply.{apply_written}
use Rattle.msg_claims.specs.Worked.{part, WriteCase, write_case}

-- 64 hexadecimal digits: 0, 9, A, F, a, f, and more
abbrev pub digits : List ℕ
digits = 0x30 ∷ 0x39 ∷ 0x41 ∷ 0x46 ∷ 0x61 ∷ 0x66 ∷ replicate 58 0x37

-- a segment that is told
abbrev pub segment : Part → ℕ → Part → ToldMore UpdateComponentSegment
segment name size signature =
    given (record { component_name = name; component_offset = 0; segment_size = size; segment_signature = signature })

-- firmware information of some components and nothing else
abbrev pub listing : List FirmwareComponent → ℕ → FirmwareInformation
listing cs count =
    record { version = 0; name = no_part; components = sets (replicate 8 no_component) 0 cs; count = count; locale = no_part; version_name = no_part }

-- a name and a locale of one byte each, and a component with a name, version 5 and size 6, in texts that hold the three names
abbrev pub named : FirmwareInformation
named =
    record {
      version = 0;
      name = part 0 1;
      components = sets (replicate 8 no_component) 0 (record { version = 5; name = part 1 1; size = 6; signature = no_part } ∷ []);
      count = 1;
      locale = part 2 1;
      version_name = no_part;
    }

-- a component with a name, and a locale, in texts of two bytes and one
abbrev pub misnamed : ℕ → FirmwareInformation
misnamed count =
    record {
      version = 0;
      name = no_part;
      components = sets (replicate 8 no_component) 0 (record { version = 0; name = part 0 2; size = 0; signature = no_part } ∷ []);
      count = count;
      locale = part 2 1;
      version_name = no_part;
    }

-- a name, a component with a signature, and a version_name, each of one byte of the texts
abbrev pub ending : Part → Part → Part → FirmwareInformation
ending name signature version =
    record {
      version = 0;
      name = name;
      components = sets (replicate 8 no_component) 0 (record { version = 0; name = no_part; size = 0; signature = signature } ∷ []);
      count = 1;
      locale = no_part;
      version_name = version;
    }

-- a segment read: its bytes, and what is told
pub record SegmentCase : Type 0 where
  pub bytes : List ℕ
  pub told : ToldMore UpdateComponentSegment

abbrev pub segment_case : List ℕ → ToldMore UpdateComponentSegment → SegmentCase
segment_case s t = record { bytes = s; told = t }

pub record ApplyCase : Type 0 where
  pub bytes : List ℕ
  pub told : ToldMore ApplyFirmware

abbrev pub apply_case : List ℕ → ToldMore ApplyFirmware → ApplyCase
apply_case s t = record { bytes = s; told = t }

unfoldable pub segment_cases : List SegmentCase
segment_cases =
    -- no name, offset 0, size 7, 64 digits
    segment_case (0x18 ∷ 0x07 ∷ 0x22 ∷ 0x40 ∷ digits) (segment no_part 7 (part 4 64))
    -- an offset of 1, and a signature that is not one
    ∷ segment_case (0x10 ∷ 0x01 ∷ []) (refused (50, 2 ∷ []))
    -- no bytes
    ∷ segment_case [] (refused (50, 4 ∷ []))
    -- an offset of 1, and the message ends inside a field
    ∷ segment_case (0x10 ∷ 0x01 ∷ 0x22 ∷ []) (refused (30, []))
    -- an offset of 1, and a name of another wire type
    ∷ segment_case (0x10 ∷ 0x01 ∷ 0x08 ∷ 0x00 ∷ []) (refused (33, []))
    -- the last offset is 2 ^ 32
    ∷ segment_case (0x10 ∷ 0x01 ∷ 0x10 ∷ 0x80 ∷ 0x80 ∷ 0x80 ∷ 0x80 ∷ 0x10 ∷ 0x22 ∷ 0x40 ∷ digits) (segment no_part 0 (part 10 64))
    -- 63 and 65 digits; a byte before 0, after 9, before A, after F, before a, after f
    ∷ segment_case (0x22 ∷ 0x3F ∷ replicate 63 0x37) (refused (50, 4 ∷ []))
    ∷ segment_case (0x22 ∷ 0x41 ∷ replicate 65 0x37) (refused (50, 4 ∷ []))
    ∷ segment_case (0x22 ∷ 0x40 ∷ replicate 63 0x37 ++ (0x2F ∷ [])) (refused (50, 4 ∷ []))
    ∷ segment_case (0x22 ∷ 0x40 ∷ replicate 63 0x37 ++ (0x3A ∷ [])) (refused (50, 4 ∷ []))
    ∷ segment_case (0x22 ∷ 0x40 ∷ replicate 63 0x37 ++ (0x40 ∷ [])) (refused (50, 4 ∷ []))
    ∷ segment_case (0x22 ∷ 0x40 ∷ replicate 63 0x37 ++ (0x47 ∷ [])) (refused (50, 4 ∷ []))
    ∷ segment_case (0x22 ∷ 0x40 ∷ replicate 63 0x37 ++ (0x60 ∷ [])) (refused (50, 4 ∷ []))
    ∷ segment_case (0x22 ∷ 0x40 ∷ 0x67 ∷ replicate 63 0x37) (refused (50, 4 ∷ []))
    ∷ []

unfoldable pub apply_cases : List ApplyCase
apply_cases =
    -- all empty, no restart; no bytes at all
    apply_case (0x0A ∷ 0x00 ∷ []) (given no_apply)
    ∷ apply_case [] (given no_apply)
    -- two empty components, restart
    ∷ apply_case (0x0A ∷ 0x04 ∷ 0x1A ∷ 0x00 ∷ 0x1A ∷ 0x00 ∷ 0x10 ∷ 0x01 ∷ []) (given (record { firmware_information = listing [] 2; restart_required = true }))
    -- a second firmware_information; with another wire type
    ∷ apply_case (0x0A ∷ 0x00 ∷ 0x0A ∷ []) (refused (34, []))
    ∷ apply_case (0x0A ∷ 0x00 ∷ 0x08 ∷ []) (refused (33, []))
    -- a ninth component, whose length is missing
    ∷ apply_case (0x0A ∷ 0x11 ∷ 0x1A ∷ 0x00 ∷ 0x1A ∷ 0x00 ∷ 0x1A ∷ 0x00 ∷ 0x1A ∷ 0x00 ∷ 0x1A ∷ 0x00 ∷ 0x1A ∷ 0x00 ∷ 0x1A ∷ 0x00 ∷ 0x1A ∷ 0x00 ∷ 0x1A ∷ []) (refused (34, []))
    -- a ninth with another wire type
    ∷ apply_case (0x0A ∷ 0x11 ∷ 0x1A ∷ 0x00 ∷ 0x1A ∷ 0x00 ∷ 0x1A ∷ 0x00 ∷ 0x1A ∷ 0x00 ∷ 0x1A ∷ 0x00 ∷ 0x1A ∷ 0x00 ∷ 0x1A ∷ 0x00 ∷ 0x1A ∷ 0x00 ∷ 0x18 ∷ []) (refused (33, []))
    -- the outer message goes first
    ∷ apply_case (0x0A ∷ 0x02 ∷ 0x1A ∷ 0x05 ∷ 0x0B ∷ []) (refused (32, []))
    ∷ apply_case (0x0A ∷ 0x02 ∷ 0x1A ∷ 0x05 ∷ []) (refused (30, []))
    -- two components that are broken: the first is told
    ∷ apply_case (0x0A ∷ 0x06 ∷ 0x1A ∷ 0x01 ∷ 0x08 ∷ 0x1A ∷ 0x01 ∷ 0x0B ∷ []) (refused (30, []))
    -- a name of no bytes has its own place
    ∷ apply_case (0x0A ∷ 0x02 ∷ 0x12 ∷ 0x00 ∷ [])
    (given (record {
      firmware_information = record { version = 0; name = part 4 0; components = replicate 8 no_component; count = 0; locale = no_part; version_name = no_part };
      restart_required = false;
    }))
    -- versions 2 ^ 32 + 6 and, of a component, 2 ^ 32 + 5, and its size 2 ^ 32 + 7
    ∷ apply_case (0x0A ∷ 0x14 ∷ 0x08 ∷ 0x86 ∷ 0x80 ∷ 0x80 ∷ 0x80 ∷ 0x10 ∷ 0x1A ∷ 0x0C ∷ 0x08 ∷ 0x85 ∷ 0x80 ∷ 0x80 ∷ 0x80 ∷ 0x10 ∷ 0x18 ∷ 0x87 ∷ 0x80 ∷ 0x80 ∷ 0x80 ∷ 0x10 ∷ [])
    (given (record {
      firmware_information =
          record { version = 6; name = no_part; components = sets (replicate 8 no_component) 0 (record { version = 5; name = no_part; size = 7; signature = no_part } ∷ []); count = 1; locale = no_part; version_name = no_part };
      restart_required = false;
    }))
    -- fields that are not known, two of a length, in the inner messages
    ∷ apply_case (0x0A ∷ 0x0C ∷ 0x3A ∷ 0x01 ∷ 0xFF ∷ 0x3A ∷ 0x00 ∷ 0x1A ∷ 0x05 ∷ 0x3A ∷ 0x01 ∷ 0xFF ∷ 0x3A ∷ 0x00 ∷ []) (given (record { firmware_information = listing [] 1; restart_required = false }))
    -- a string given twice
    ∷ apply_case (0x0A ∷ 0x06 ∷ 0x22 ∷ 0x01 ∷ 0x41 ∷ 0x22 ∷ 0x01 ∷ 0x42 ∷ [])
    (given (record {
      firmware_information = record { version = 0; name = no_part; components = replicate 8 no_component; count = 0; locale = part 7 1; version_name = no_part };
      restart_required = false;
    }))
    -- restart_required 2 ^ 32
    ∷ apply_case (0x10 ∷ 0x80 ∷ 0x80 ∷ 0x80 ∷ 0x80 ∷ 0x10 ∷ []) (given (record { firmware_information = no_firmware; restart_required = true }))
    -- a component that is broken, and a locale of another wire type after it
    ∷ apply_case (0x0A ∷ 0x05 ∷ 0x1A ∷ 0x01 ∷ 0x08 ∷ 0x20 ∷ 0x00 ∷ []) (refused (33, []))
    -- a locale and, before it, a component's name that are not well formed: the outer message goes first; the name alone
    ∷ apply_case (0x0A ∷ 0x09 ∷ 0x1A ∷ 0x04 ∷ 0x12 ∷ 0x02 ∷ 0x41 ∷ 0x80 ∷ 0x22 ∷ 0x01 ∷ 0xC3 ∷ []) (refused (36, 4 ∷ 0 ∷ []))
    ∷ apply_case (0x0A ∷ 0x06 ∷ 0x1A ∷ 0x04 ∷ 0x12 ∷ 0x02 ∷ 0x41 ∷ 0x80 ∷ []) (refused (36, 2 ∷ 1 ∷ []))
    ∷ []

-- ---- writing
unfoldable pub segment_writes : List (WriteCase (ℕ × List ℕ))
segment_writes =
    -- no name, offset 0, size 7, 64 digits
    write_case (segment_written [] 0 7 digits (replicate 69 9)) (given 68) (0x18 ∷ 0x07 ∷ 0x22 ∷ 0x40 ∷ digits ++ (9 ∷ []))
    -- an output of one byte too few
    ∷ write_case (segment_written [] 0 7 digits (replicate 67 9)) (refused (14, [])) (replicate 67 9)
    -- the profile, before the room: the lowest field
    ∷ write_case (segment_written [] 1 7 [] []) (refused (50, 2 ∷ [])) []
    ∷ write_case (segment_written [] 1 7 digits (replicate 70 9)) (refused (50, 2 ∷ [])) (replicate 70 9)
    -- a name or a signature that is not well formed, before the profile and the room
    ∷ write_case (segment_written (0x41 ∷ 0x80 ∷ []) 1 7 (0xC3 ∷ []) (9 ∷ [])) (refused (36, 1 ∷ 1 ∷ [])) (9 ∷ [])
    ∷ write_case (segment_written [] 1 7 (0xC3 ∷ []) []) (refused (36, 4 ∷ 0 ∷ [])) []
    ∷ []

unfoldable pub apply_writes : List (WriteCase (ℕ × List ℕ))
apply_writes =
    -- all empty, no restart
    write_case (apply_written no_apply [] (9 ∷ 9 ∷ 9 ∷ [])) (given 2) (0x0A ∷ 0x00 ∷ 9 ∷ [])
    -- two empty components, restart
    ∷ write_case (apply_written (record { firmware_information = listing [] 2; restart_required = true }) [] (replicate 8 9)) (given 8)
    (0x0A ∷ 0x04 ∷ 0x1A ∷ 0x00 ∷ 0x1A ∷ 0x00 ∷ 0x10 ∷ 0x01 ∷ [])
    -- nine components; a part beyond the texts, before the room; one of a component that is not there
    ∷ write_case (apply_written (record { firmware_information = listing [] 9; restart_required = false }) [] []) (refused (15, [])) []
    ∷ write_case (apply_written (record { firmware_information = listing (record { version = 0; name = no_part; size = 0; signature = part 1 1 } ∷ []) 1; restart_required = false }) (7 ∷ []) []) (refused (15, [])) []
    ∷ write_case (apply_written (record { firmware_information = listing (record { version = 0; name = no_part; size = 0; signature = part 1 1 } ∷ []) 0; restart_required = false }) (7 ∷ []) (9 ∷ 9 ∷ [])) (given 2) (0x0A ∷ 0x00 ∷ [])
    -- a name and a locale of one byte each, a component named after them, version 5 and size 6; in the texts a byte that no string has
    ∷ write_case (apply_written (record { firmware_information = named; restart_required = false }) (0x41 ∷ 0x42 ∷ 0x43 ∷ 0xC3 ∷ []) (replicate 17 9)) (given 17)
    (0x0A ∷ 0x0F ∷ 0x12 ∷ 0x01 ∷ 0x41 ∷ 0x1A ∷ 0x07 ∷ 0x08 ∷ 0x05 ∷ 0x12 ∷ 0x01 ∷ 0x42 ∷ 0x18 ∷ 0x06 ∷ 0x22 ∷ 0x01 ∷ 0x43 ∷ [])
    -- the locale is C3 and the component is named 41 80: its name is written first; the locale alone, where the component is not there
    ∷ write_case (apply_written (record { firmware_information = misnamed 1; restart_required = false }) (0x41 ∷ 0x80 ∷ 0xC3 ∷ []) (9 ∷ [])) (refused (36, 2 ∷ 1 ∷ [])) (9 ∷ [])
    ∷ write_case (apply_written (record { firmware_information = misnamed 0; restart_required = false }) (0x41 ∷ 0x80 ∷ 0xC3 ∷ []) (9 ∷ [])) (refused (36, 4 ∷ 0 ∷ [])) (9 ∷ [])
    -- name, signature and version_name are C3: the name first
    ∷ write_case (apply_written (record { firmware_information = ending (part 0 1) (part 0 1) (part 0 1); restart_required = false }) (0xC3 ∷ []) []) (refused (36, 2 ∷ 0 ∷ [])) []
    ∷ []

-- every line of the tables holds
unfoldable pub WorkedFirmware : Type 0
WorkedFirmware =
    (map (λ c. segment_of c.bytes) segment_cases ≡ map (λ c. c.told) segment_cases) × (map (λ c. apply_of c.bytes) apply_cases ≡ map (λ c. c.told) apply_cases)
    × (map (λ c. c.done) segment_writes ≡ map (λ c. c.expected) segment_writes) × (map (λ c. c.done) apply_writes ≡ map (λ c. c.expected) apply_writes)

-- the components that the walk counted are those whose parts are found and read
unfoldable pub ComponentsCounted : Type 0
ComponentsCounted = (s : List ℕ) (at : ℕ) (g : Gathered) → fields_from Schema.Firmware s at ≡ given g → length (parts_from s at) ≡ g.count
