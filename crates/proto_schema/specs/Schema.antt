-- What each message makes of a field: the table of known fields, from Amazon's page on Low Energy.
use Rattle.std.specs.Prelude.{ℕ, Bool, true, false, cond, ◌||◌, List, [], ◌∷◌, eqb}
use Rattle.proto_field.specs.Tag.{varint_type, length_type}
use Rattle.proto_schema.specs.declared.Schema.{Schema}
use Rattle.proto_schema.specs.declared.Schema.TheVariants.{Envelope, Response, Information, Features, Segment, Apply, Firmware, Component}
use Rattle.proto_schema.specs.declared.Role.{Role}
use Rattle.proto_schema.specs.declared.Role.TheVariants.{Scalar, Text, Transports, Nested, Repeated, Member, Unknown}

-- the fields of an envelope and of a response
abbrev pub command_field : ℕ
command_field = 1

abbrev pub response_field : ℕ
response_field = 9

abbrev pub error_code_field : ℕ
error_code_field = 1

-- the fields of device information
abbrev pub serial_number_field : ℕ
serial_number_field = 1

abbrev pub name_field : ℕ
name_field = 2

abbrev pub transports_field : ℕ
transports_field = 3

abbrev pub device_type_field : ℕ
device_type_field = 4

-- the fields of device features
abbrev pub features_field : ℕ
features_field = 1

abbrev pub device_attributes_field : ℕ
device_attributes_field = 2

-- the fields of UpdateComponentSegment
abbrev pub component_name_field : ℕ
component_name_field = 1

abbrev pub component_offset_field : ℕ
component_offset_field = 2

abbrev pub segment_size_field : ℕ
segment_size_field = 3

abbrev pub segment_signature_field : ℕ
segment_signature_field = 4

-- the fields of ApplyFirmware
abbrev pub firmware_information_field : ℕ
firmware_information_field = 1

abbrev pub restart_required_field : ℕ
restart_required_field = 2

-- the fields of FirmwareInformation
abbrev pub firmware_version_field : ℕ
firmware_version_field = 1

abbrev pub firmware_name_field : ℕ
firmware_name_field = 2

abbrev pub components_field : ℕ
components_field = 3

abbrev pub locale_field : ℕ
locale_field = 4

abbrev pub version_name_field : ℕ
version_name_field = 5

-- the fields of FirmwareComponent
abbrev pub firmware_component_version_field : ℕ
firmware_component_version_field = 1

abbrev pub firmware_component_name_field : ℕ
firmware_component_name_field = 2

abbrev pub firmware_component_size_field : ℕ
firmware_component_size_field = 3

abbrev pub firmware_component_signature_field : ℕ
firmware_component_signature_field = 4

-- where scalars and strings are kept
abbrev pub first : ℕ
first = 0

abbrev pub second : ℕ
second = 1

abbrev pub third : ℕ
third = 2

-- the table: the known fields of each message, and what each is
abbrev pub known_fields : Schema → List (ℕ × Role)
known_fields Envelope = (command_field, Scalar first) ∷ (response_field, Nested) ∷ []
known_fields Response = (error_code_field, Scalar first) ∷ []
known_fields Information =
    (serial_number_field, Text first) ∷ (name_field, Text second) ∷ (transports_field, Transports) ∷ (device_type_field, Text third) ∷ []
known_fields Features = (features_field, Scalar first) ∷ (device_attributes_field, Scalar second) ∷ []
known_fields Segment =
    (component_name_field, Text first) ∷ (component_offset_field, Scalar first) ∷ (segment_size_field, Scalar second) ∷ (segment_signature_field, Text second) ∷ []
known_fields Apply = (firmware_information_field, Nested) ∷ (restart_required_field, Scalar first) ∷ []
known_fields Firmware =
    (firmware_version_field, Scalar first) ∷ (firmware_name_field, Text first) ∷ (components_field, Repeated) ∷ (locale_field, Text second) ∷ (version_name_field, Text third) ∷ []
known_fields Component =
    (firmware_component_version_field, Scalar first) ∷ (firmware_component_name_field, Text first) ∷ (firmware_component_size_field, Scalar second)
    ∷ (firmware_component_signature_field, Text second) ∷ []

-- what any other field is
abbrev pub other_fields : Schema → Role
other_fields Envelope = Member
other_fields Response = Member
other_fields Information = Unknown
other_fields Features = Unknown
other_fields Segment = Unknown
other_fields Apply = Unknown
other_fields Firmware = Unknown
other_fields Component = Unknown

abbrev lookup : ℕ → List (ℕ × Role) → Role → Role
lookup field [] other = other
lookup field (r ∷ rs) other = cond (eqb field r.0) r.1 (lookup field rs other)

-- what a field is to a message
unfoldable pub role_of : Schema → ℕ → Role
role_of schema field = lookup field (known_fields schema) (other_fields schema)

-- the wire types that a field may have: transports come one by one or packed
abbrev pub fits_role : Role → ℕ → Bool
fits_role (Scalar slot) wire = eqb wire varint_type
fits_role (Text slot) wire = eqb wire length_type
fits_role Transports wire = eqb wire varint_type || eqb wire length_type
fits_role Nested wire = eqb wire length_type
fits_role Repeated wire = eqb wire length_type
fits_role Member wire = true
fits_role Unknown wire = true

-- the fields that are the member
abbrev pub is_member : Role → ℕ → Bool
is_member (Scalar slot) wire = false
is_member (Text slot) wire = false
is_member Transports wire = false
is_member Nested wire = eqb wire length_type
is_member Repeated wire = false
is_member Member wire = eqb wire length_type
is_member Unknown wire = false

-- the messages within that may be repeated, and are counted
abbrev pub is_repeated : Role → Bool
is_repeated (Scalar slot) = false
is_repeated (Text slot) = false
is_repeated Transports = false
is_repeated Nested = false
is_repeated Repeated = true
is_repeated Member = false
is_repeated Unknown = false
