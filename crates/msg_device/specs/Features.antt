-- Device features: two numbers of 64 bits.
use Rattle.std.specs.Prelude.{ℕ, false, List, [], ◌∷◌, get_or, Result}
use Rattle.wire.specs.Told.{Told, told_by, given, and_then, Written}
use Rattle.proto_writer.specs.Writer.{Field, scalar}
use Rattle.proto_reader.specs.declared.gathered.Gathered.{Gathered}
use Rattle.proto_schema.specs.declared.Schema.TheVariants as Schema
use Rattle.msg_device.specs.declared.features.DeviceFeatures.{DeviceFeatures}
use Rattle.proto_schema.specs.Schema.{features_field, device_attributes_field, first, second}
use Rattle.proto_reader.specs.declared.refusal.MessageRefusal.{MessageRefusal}
use Rattle.proto_reader.specs.Refusal.{message_number, numbered}
use Rattle.proto_reader.specs.Walk.{fields_from}
use Rattle.proto_writer.specs.Message.{writes_message}

-- the features that were gathered
abbrev pub features_made : Gathered → DeviceFeatures
features_made g = record { features = get_or g.scalars first 0; device_attributes = get_or g.scalars second 0 }

unfoldable pub features_of : List ℕ → Told DeviceFeatures
features_of s = and_then (numbered (fields_from Schema.Features s 0)) (λ g. given (features_made g))

-- the answers of read_features
abbrev pub told_features : Result DeviceFeatures MessageRefusal → Told DeviceFeatures
told_features = told_by message_number

-- the fields of device features
abbrev pub features_fields : DeviceFeatures → List Field
features_fields f = scalar features_field f.features ∷ scalar device_attributes_field f.device_attributes ∷ []

-- device features written
unfoldable pub features_written : DeviceFeatures → List ℕ → Written ℕ
features_written f out = writes_message false (features_fields f) out
