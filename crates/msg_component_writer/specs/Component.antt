-- FirmwareComponent: two strings and two numbers of 32 bits, written.
use Rattle.std.specs.Prelude.{ℕ, ◌+◌, Bool, ◌||◌, List, [], ◌∷◌, length, ltb}
use Rattle.proto_field.specs.declared.value.Part.{Part}
use Rattle.proto_field.specs.Value.{bytes_of}
use Rattle.proto_writer.specs.Writer.{Field, scalar, text, nested, message_bytes}
use Rattle.proto_schema.specs.Schema.{components_field, firmware_component_version_field, firmware_component_name_field, firmware_component_size_field, firmware_component_signature_field}
use Rattle.msg_firmware.specs.declared.component.FirmwareComponent.{FirmwareComponent}

-- ---- writing, of parts of a lent text
-- a part that does not lie within the texts
unfoldable pub outside : List ℕ → Part → Bool
outside texts p = ltb (length texts) (p.start + p.len)

unfoldable pub bad_component : List ℕ → FirmwareComponent → Bool
bad_component texts c = outside texts c.name || outside texts c.signature

-- its strings, in writing order
abbrev pub component_strings : List ℕ → FirmwareComponent → List (ℕ × List ℕ)
component_strings texts c = (firmware_component_name_field, bytes_of texts c.name) ∷ (firmware_component_signature_field, bytes_of texts c.signature) ∷ []

abbrev pub component_fields : List ℕ → FirmwareComponent → List Field
component_fields texts c =
    scalar firmware_component_version_field c.version ∷ text firmware_component_name_field (bytes_of texts c.name)
    ∷ scalar firmware_component_size_field c.size ∷ text firmware_component_signature_field (bytes_of texts c.signature) ∷ []

-- a component as a field of firmware information: it is written also where it is empty
abbrev pub component_field : List ℕ → FirmwareComponent → Field
component_field texts c = nested components_field (message_bytes (component_fields texts c))
