-- ApplyFirmware as a row: what its reader tells, and what its writer is given.
use Rattle.std.specs.Prelude.{ℕ, zero, suc, ◌+◌, Bool, false, ◌||◌, List, [], ◌∷◌, ◌++◌, get_or, replicate, ltb, eqb}
use Rattle.wire.specs.Bytes.{bit}
use Rattle.wire.specs.Told.{ToldMore, given, refused}
use Rattle.proto_field.specs.declared.value.Part.{Part}
use Rattle.proto_field.specs.Unsigned.{unsigned_of}
use Rattle.proto_reader.specs.Gathered.{most_repeated}
use Rattle.msg_firmware.specs.declared.apply.ApplyFirmware.{ApplyFirmware}
use Rattle.msg_firmware.specs.declared.component.FirmwareComponent.{FirmwareComponent}
use Rattle.c_message_rows.specs.Convert.{part_row, fault_of}
use Rattle.c_firmware_rows.specs.More.{is_wide}

-- the numbers of the row, and of the answer that tells also the field and the place that go with a refusal; the place of its first component, and the numbers of each
abbrev pub row_size : ℕ
row_size = 57

abbrev pub answer_size : ℕ
answer_size = 59

abbrev pub first_component : ℕ
first_component = 9

abbrev pub component_size : ℕ
component_size = 6

-- ---- what was read
-- version, name, size, signature
abbrev pub component_row : FirmwareComponent → List ℕ
component_row c = c.version ∷ (part_row c.name ++ (c.size ∷ part_row c.signature))

abbrev pub component_rows : List FirmwareComponent → List ℕ
component_rows [] = []
component_rows (c ∷ cs) = component_row c ++ component_rows cs

-- restart_required, version, name, locale, version_name, the number of components
abbrev pub head_row : ApplyFirmware → List ℕ
head_row a =
    let f = a.firmware_information in
    bit a.restart_required ∷ f.version
    ∷ (part_row f.name ++ (part_row f.locale ++ (part_row f.version_name ++ (f.count ∷ []))))

-- .. and all eight components, of which those from the count on are empty
abbrev pub whole_row : ApplyFirmware → List ℕ
whole_row a = head_row a ++ component_rows a.firmware_information.components

abbrev pub apply_row : ToldMore ApplyFirmware → List ℕ
apply_row (given a) = whole_row a ++ replicate 2 0
apply_row (refused why) = replicate row_size 0 ++ fault_of why

-- ---- what the writer is given
abbrev pub part_at : List ℕ → ℕ → Part
part_at row at = record { start = get_or row at 0; len = get_or row (at + 1) 0 }

-- the component whose numbers begin at a place
unfoldable pub component_at : List ℕ → ℕ → FirmwareComponent
component_at row at =
    record {
      version = unsigned_of (get_or row at 0);
      name = part_at row (at + 1);
      size = unsigned_of (get_or row (at + 3) 0);
      signature = part_at row (at + 4);
    }

-- n components of a row, from an index on
abbrev pub components_at : ℕ → List ℕ → ℕ → List FirmwareComponent
components_at zero row at = []
components_at (suc n) row at = component_at row at ∷ components_at n row (at + component_size)

unfoldable pub apply_at : List ℕ → ApplyFirmware
apply_at row =
    record {
      firmware_information =
          record {
            version = unsigned_of (get_or row 1 0);
            name = part_at row 2;
            components = components_at most_repeated row first_component;
            count = get_or row 8 0;
            locale = part_at row 4;
            version_name = part_at row 6;
          };
      restart_required = eqb (get_or row 0 0) 1;
    }

-- whether a component has a number above 32 bits, and whether one of n from an index on has
unfoldable pub wide_at : List ℕ → ℕ → Bool
wide_at row at = is_wide (get_or row at 0) || is_wide (get_or row (at + 3) 0)

abbrev pub any_wide : ℕ → List ℕ → ℕ → Bool
any_wide zero row at = false
any_wide (suc n) row at = wide_at row at || any_wide n row (at + component_size)

-- restart_required neither 0 nor 1, a version or size above 32 bits, too many components: no message has these numbers
unfoldable pub bad_row : List ℕ → Bool
bad_row row =
    ltb 1 (get_or row 0 0) || (is_wide (get_or row 1 0) || (ltb most_repeated (get_or row 8 0) || any_wide (get_or row 8 0) row first_component))
