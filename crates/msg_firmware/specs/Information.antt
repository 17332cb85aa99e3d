-- FirmwareInformation: a number of 32 bits, three strings and at most eight components.
use Rattle.std.specs.Prelude.{ℕ, zero, suc, ◌+◌, ◌≤◌, ◌<◌, Bool, true, false, cond, List, [], ◌∷◌, ◌++◌, length, get_or, take, replicate, eqb, Option, Some, None, Result}
use Rattle.std.proofs.lemmas.List.Edits.{sets}
use Rattle.wire.specs.Told.{Told, ToldMore, given, refused, and_then}
use Rattle.proto_field.specs.declared.value.Part.{Part}
use Rattle.proto_field.specs.declared.value.Value.{Value}
use Rattle.proto_field.specs.declared.varint.Placed.{Placed}
use Rattle.proto_field.specs.Fields.{Standing, field, end, found_at}
use Rattle.proto_field.specs.Unsigned.{unsigned_of}
use Rattle.proto_field.specs.Value.{value_parts}
use Rattle.proto_reader.specs.declared.gathered.Gathered.{Gathered}
use Rattle.proto_schema.specs.declared.Schema.TheVariants as Schema
use Rattle.proto_schema.specs.Schema.{components_field, first, second, third}
use Rattle.proto_reader.specs.Gathered.{most_repeated, no_part}
use Rattle.proto_reader.specs.declared.refusal.MessageRefusal.{MessageRefusal}
use Rattle.proto_reader.specs.Refusal.{told_more}
use Rattle.proto_reader.specs.Walk.{fields_from}
use Rattle.msg_firmware.specs.declared.component.FirmwareComponent.{FirmwareComponent}
use Rattle.msg_firmware.specs.declared.information.FirmwareInformation.{FirmwareInformation}
use Rattle.msg_firmware.specs.Component.{no_component, component_from}

-- ---- the components: where they stand, and what each one holds
-- the part of a field that is a component
abbrev pub part_of_component : ℕ → Value → List Part
part_of_component number value = cond (eqb number components_field) (value_parts value) []

-- the parts of the components, in order, from a place to the end; fuel bounds the number of fields, and as many as there are bytes is enough
abbrev pub parts_onward : (ℕ → List Part) → Told Standing → List Part
parts_onward rest (given (field number value next)) = part_of_component number value ++ rest next
parts_onward rest (given end) = []
parts_onward rest (refused n) = []

abbrev pub parts_walked : ℕ → List ℕ → ℕ → List Part
parts_walked zero s at = []
parts_walked (suc fuel) s at = parts_onward (parts_walked fuel s) (found_at s at)

unfoldable pub parts_from : List ℕ → ℕ → List Part
parts_from s at = parts_walked (length s) s at

-- the answers of component_part and next_component
abbrev pub part_told : Option Part → List Part
part_told (Some p) = p ∷ []
part_told None = []

abbrev pub is_none : List Part → Bool
is_none [] = true
is_none (p ∷ ps) = false

-- a field that is no component
abbrev pub is_other : Told Standing → Bool
is_other (given (field number value next)) = is_none (part_of_component number value)
is_other (given end) = false
is_other (refused n) = false

abbrev pub component_by : ℕ → List Part → Option (Placed Part)
component_by next [] = None
component_by next (p ∷ ps) = Some (record { value = p; next = next })

-- what was found, if it is a component
abbrev pub component_of : Told Standing → Option (Placed Part)
component_of (given (field number value next)) = component_by next (part_of_component number value)
component_of (given end) = None
component_of (refused n) = None

abbrev pub laid : List ℕ → Option (Placed Part) → List Part
laid s (Some c) = c.value ∷ parts_from s c.next
laid s None = []

-- the next component ends after the place, within the message
abbrev pub ComponentOnward : List ℕ → ℕ → Option (Placed Part) → Type 0
ComponentOnward s at (Some c) = (at < c.next) × (c.value.start + c.value.len ≤ length s)
ComponentOnward s at None = Unit {0}

-- a component within its part: what follows it in the message is not seen
unfoldable pub component_in : List ℕ → Part → ToldMore FirmwareComponent
component_in s p = component_from (take (p.start + p.len) s) p.start

-- one after another: the first refusal is the answer
abbrev pub components_in : List ℕ → List Part → ToldMore (List FirmwareComponent)
components_in s [] = given []
components_in s (p ∷ ps) = and_then (component_in s p) (λ c. and_then (components_in s ps) (λ cs. given (c ∷ cs)))

-- components as the first of eight
abbrev pub placed : List FirmwareComponent → List FirmwareComponent
placed cs = sets (replicate most_repeated no_component) 0 cs

unfoldable pub components_from : List ℕ → ℕ → ToldMore (List FirmwareComponent)
components_from s at = and_then (components_in s (parts_from s at)) (λ cs. given (placed cs))

-- ---- reading
abbrev pub firmware_made : Gathered → List FirmwareComponent → FirmwareInformation
firmware_made g cs =
    record {
      version = unsigned_of (get_or g.scalars first 0);
      name = get_or g.texts first no_part;
      components = cs;
      count = g.count;
      locale = get_or g.texts second no_part;
      version_name = get_or g.texts third no_part;
    }

abbrev pub no_firmware : FirmwareInformation
no_firmware =
    record { version = 0; name = no_part; components = replicate most_repeated no_component; count = 0; locale = no_part; version_name = no_part }

-- the information from a place to the end: it is read through before its components
unfoldable pub firmware_from : List ℕ → ℕ → ToldMore FirmwareInformation
firmware_from s at = and_then (fields_from Schema.Firmware s at) (λ g. and_then (components_from s at) (λ cs. given (firmware_made g cs)))

-- the answers of components_from
abbrev pub told_components : Result (List FirmwareComponent) MessageRefusal → ToldMore (List FirmwareComponent)
told_components = told_more

-- the answers of firmware_from
abbrev pub told_firmware : Result FirmwareInformation MessageRefusal → ToldMore FirmwareInformation
told_firmware = told_more

-- the strings that it tells of itself
abbrev pub own_parts : FirmwareInformation → List Part
own_parts f = f.name ∷ f.locale ∷ f.version_name ∷ []

-- P holds of each component
abbrev pub Each : (FirmwareComponent → Type 0) → List FirmwareComponent → Type 0
Each P [] = Unit {0}
Each P (c ∷ cs) = P c × Each P cs
