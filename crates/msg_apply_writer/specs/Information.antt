-- FirmwareInformation: a number of 32 bits, three strings and at most eight components, written.
use Rattle.std.specs.Prelude.{ℕ, Bool, false, ◌||◌, List, [], ◌∷◌, ◌++◌, map, take, ltb}
use Rattle.proto_field.specs.Value.{bytes_of}
use Rattle.proto_writer.specs.Writer.{Field, scalar, text}
use Rattle.proto_schema.specs.Schema.{firmware_version_field, firmware_name_field, locale_field, version_name_field}
use Rattle.proto_reader.specs.Gathered.{most_repeated}
use Rattle.msg_firmware.specs.declared.component.FirmwareComponent.{FirmwareComponent}
use Rattle.msg_firmware.specs.declared.information.FirmwareInformation.{FirmwareInformation}
use Rattle.msg_component_writer.specs.Component.{outside, bad_component, component_strings, component_field}

-- ---- writing
-- the components that are there
abbrev pub present : FirmwareInformation → List FirmwareComponent
present f = take f.count f.components

abbrev pub bad_components : List ℕ → List FirmwareComponent → Bool
bad_components texts [] = false
bad_components texts (c ∷ cs) = bad_component texts c || bad_components texts cs

-- too many components, or a part that does not lie within the texts
unfoldable pub bad_firmware : List ℕ → FirmwareInformation → Bool
bad_firmware texts f =
    ltb most_repeated f.count || (outside texts f.name || (bad_components texts (present f) || (outside texts f.locale || outside texts f.version_name)))

-- the strings, in writing order: those of the components stand between the name and the locale
abbrev pub components_strings : List ℕ → List FirmwareComponent → List (ℕ × List ℕ)
components_strings texts [] = []
components_strings texts (c ∷ cs) = component_strings texts c ++ components_strings texts cs

abbrev pub firmware_strings : List ℕ → FirmwareInformation → List (ℕ × List ℕ)
firmware_strings texts f =
    (firmware_name_field, bytes_of texts f.name)
    ∷ (components_strings texts (present f) ++ ((locale_field, bytes_of texts f.locale) ∷ (version_name_field, bytes_of texts f.version_name) ∷ []))

abbrev pub firmware_fields : List ℕ → FirmwareInformation → List Field
firmware_fields texts f =
    scalar firmware_version_field f.version ∷ text firmware_name_field (bytes_of texts f.name)
    ∷ (map (component_field texts) (present f)
    ++ (text locale_field (bytes_of texts f.locale) ∷ text version_name_field (bytes_of texts f.version_name) ∷ []))
