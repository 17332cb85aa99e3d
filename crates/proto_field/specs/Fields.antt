-- The fields of a message, one after another, whatever message it is.
use Rattle.std.specs.Prelude.{ℕ, cond, List, [], length, leb, Result, Ok, Err, Option, Some, None}
use Rattle.wire.specs.Told.{Told, given, refused, and_then}
use Rattle.proto_field.specs.declared.value.Part.{Part}
use Rattle.proto_field.specs.declared.value.Value.{Value}
use Rattle.proto_field.specs.declared.Refusal.{Refusal}
use Rattle.proto_field.specs.declared.fields.FoundField.{FoundField}
use Rattle.proto_field.specs.Refusal.{number_of}
use Rattle.proto_field.specs.Tag.{tag_at}
use Rattle.proto_field.specs.Value.{value_at, value_parts}

-- a field's number, its value and the place after it; or the end of the message
pub data Standing : Type 0 where
  field : ℕ → Value → ℕ → Standing
  end : Standing

-- what stands at a place of a message
unfoldable pub found_at : List ℕ → ℕ → Told Standing
found_at s at =
    cond (leb (length s) at) (given end)
    (and_then (tag_at s at) (λ h. and_then (value_at s h.next h.wire) (λ v. given (field h.field v.0 v.1))))

-- the answers of field_at
abbrev pub told_found : Result (Option FoundField) Refusal → Told Standing
told_found (Ok (Some f)) = given (field f.number f.value f.next)
told_found (Ok None) = given end
told_found (Err e) = refused (number_of e)

-- the place behind what stands at a place: that of a field's end, or the same place where there is none
abbrev pub behind : ℕ → Told Standing → ℕ
behind at (given (field number value next)) = next
behind at (given end) = at
behind at (refused n) = at

-- the part of what stands at a place, if it has one
abbrev pub standing_parts : Standing → List Part
standing_parts (field number value next) = value_parts value
standing_parts end = []
