-- What stands at a place of any message, as a row.
use Rattle.std.specs.Prelude.{ℕ, cond, List, [], ◌∷◌, ◌++◌, replicate, eqb}
use Rattle.wire.specs.Told.{Told, given, refused}
use Rattle.proto_field.specs.declared.value.Value.{Value}
use Rattle.proto_field.specs.declared.value.Value.TheVariants.{Number, Bytes, Skipped}
use Rattle.proto_field.specs.Tag.{varint_type, fixed64_type, length_type, fixed32_type}
use Rattle.proto_field.specs.Fields.{Standing, field, end}
use Rattle.c_rows.specs.Row.{number_told}
use Rattle.c_message_rows.specs.Convert.{part_row}
use Rattle.c_firmware_rows.specs.declared.field_row.FieldTold.{FieldTold}

-- the kind of a field whose bytes, of this number, are passed over
unfoldable pub fixed_kind : ℕ → ℕ
fixed_kind len = cond (eqb len 8) fixed64_type fixed32_type

-- kind, value, start, length: a number has no bytes of its own
abbrev pub value_row : Value → List ℕ
value_row (Number v) = varint_type ∷ v ∷ 0 ∷ 0 ∷ []
value_row (Bytes p) = length_type ∷ 0 ∷ part_row p
value_row (Skipped p) = fixed_kind p.len ∷ 0 ∷ part_row p

-- outcome 1 and the number; then the value, and the place after it
abbrev pub field_row : ℕ → Value → ℕ → List ℕ
field_row number value next = 1 ∷ number ∷ (value_row value ++ (next ∷ []))

-- all 0 at the end of the message
abbrev pub standing_row : Standing → List ℕ
standing_row (field number value next) = field_row number value next
standing_row end = replicate 7 0

abbrev pub row_told : Told Standing → List ℕ
row_told (given s) = standing_row s
row_told (refused n) = replicate 7 0

-- the answers of found_row
abbrev pub field_told : Told Standing → FieldTold
field_told t = record { number = number_told t; row = row_told t }
