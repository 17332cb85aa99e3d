-- FirmwareComponent: two strings and two numbers of 32 bits.
use Rattle.std.specs.Prelude.{ℕ, List, [], ◌∷◌, get_or, Result}
use Rattle.wire.specs.Told.{ToldMore, given, and_then}
use Rattle.proto_field.specs.declared.value.Part.{Part}
use Rattle.proto_field.specs.Unsigned.{unsigned_of}
use Rattle.proto_reader.specs.declared.gathered.Gathered.{Gathered}
use Rattle.proto_schema.specs.declared.Schema.TheVariants as Schema
use Rattle.proto_schema.specs.Schema.{first, second}
use Rattle.proto_reader.specs.Gathered.{no_part}
use Rattle.proto_reader.specs.declared.refusal.MessageRefusal.{MessageRefusal}
use Rattle.proto_reader.specs.Refusal.{told_more}
use Rattle.proto_reader.specs.Walk.{fields_from}
use Rattle.msg_firmware.specs.declared.component.FirmwareComponent.{FirmwareComponent}

-- no component: an empty one
abbrev pub no_component : FirmwareComponent
no_component = record { version = 0; name = no_part; size = 0; signature = no_part }

-- the component that was gathered
abbrev pub component_made : Gathered → FirmwareComponent
component_made g =
    record {
      version = unsigned_of (get_or g.scalars first 0);
      name = get_or g.texts first no_part;
      size = unsigned_of (get_or g.scalars second 0);
      signature = get_or g.texts second no_part;
    }

-- the component from a place to the end
unfoldable pub component_from : List ℕ → ℕ → ToldMore FirmwareComponent
component_from s at = and_then (fields_from Schema.Component s at) (λ g. given (component_made g))

-- the answers of component_from
abbrev pub told_component : Result FirmwareComponent MessageRefusal → ToldMore FirmwareComponent
told_component = told_more

-- the parts that a component tells
abbrev pub component_parts : FirmwareComponent → List Part
component_parts c = c.name ∷ c.signature ∷ []
