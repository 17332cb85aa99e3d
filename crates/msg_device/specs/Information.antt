-- Device information: three strings and at most eight transports.
use Rattle.std.specs.Prelude.{ℕ, List, [], ◌∷◌, map, ℤ, pos, length, get_or, replicate, ltb, Result}
use Rattle.wire.specs.Told.{ToldMore, given, and_then, WrittenOf}
use Rattle.proto_field.specs.Signed.{extended}
use Rattle.proto_writer.specs.Writer.{Field, text, packed}
use Rattle.proto_field.specs.declared.value.Part.{Part}
use Rattle.proto_reader.specs.declared.gathered.Gathered.{Gathered}
use Rattle.proto_schema.specs.declared.Schema.TheVariants as Schema
use Rattle.msg_device.specs.declared.information.DeviceInformation.{DeviceInformation}
use Rattle.msg_device.specs.declared.information.InformationToWrite.{InformationToWrite}
use Rattle.proto_schema.specs.Schema.{serial_number_field, name_field, transports_field, device_type_field, first, second, third}
use Rattle.proto_reader.specs.Gathered.{most_transports, no_part}
use Rattle.proto_reader.specs.declared.refusal.MessageRefusal.{MessageRefusal}
use Rattle.proto_reader.specs.Refusal.{told_more}
use Rattle.proto_reader.specs.Walk.{fields_from}
use Rattle.proto_strings.specs.Texts.{writes_texts}

-- the information that was gathered
abbrev pub information_made : Gathered → DeviceInformation
information_made g =
    record {
      serial_number = get_or g.texts first no_part;
      name = get_or g.texts second no_part;
      transports = g.transports;
      count = g.count;
      device_type = get_or g.texts third no_part;
    }

abbrev pub no_information : DeviceInformation
no_information =
    record { serial_number = no_part; name = no_part; transports = replicate most_transports (pos 0); count = 0; device_type = no_part }

unfoldable pub information_of : List ℕ → ToldMore DeviceInformation
information_of s = and_then (fields_from Schema.Information s 0) (λ g. given (information_made g))

-- the answers of read_information
abbrev pub told_information : Result DeviceInformation MessageRefusal → ToldMore DeviceInformation
told_information = told_more

-- the parts that it tells
abbrev pub information_parts : DeviceInformation → List Part
information_parts i = i.serial_number ∷ i.name ∷ i.device_type ∷ []

-- the fields of device information
abbrev pub information_fields : List ℕ → List ℕ → List ℤ → List ℕ → List Field
information_fields serial_number name transports device_type =
    text serial_number_field serial_number ∷ text name_field name ∷ packed transports_field (map extended transports) ∷ text device_type_field device_type ∷ []

-- its strings, in writing order
abbrev pub information_strings : List ℕ → List ℕ → List ℕ → List (ℕ × List ℕ)
information_strings serial_number name device_type = (serial_number_field, serial_number) ∷ (name_field, name) ∷ (device_type_field, device_type) ∷ []

-- device information written
unfoldable pub information_written : List ℕ → List ℕ → List ℤ → List ℕ → List ℕ → WrittenOf (ℕ × List ℕ) ℕ
information_written serial_number name transports device_type out =
    writes_texts (ltb most_transports (length transports)) (information_strings serial_number name device_type) (information_fields serial_number name transports device_type) out

-- the same, of what the writer is lent
abbrev pub fields_to_write : InformationToWrite → List Field
fields_to_write i = information_fields i.serial_number.now i.name.now i.transports.now i.device_type.now

abbrev pub strings_to_write : InformationToWrite → List (ℕ × List ℕ)
strings_to_write i = information_strings i.serial_number.now i.name.now i.device_type.now

abbrev pub information_to_write : InformationToWrite → List ℕ → WrittenOf (ℕ × List ℕ) ℕ
information_to_write i out = information_written i.serial_number.now i.name.now i.transports.now i.device_type.now out
