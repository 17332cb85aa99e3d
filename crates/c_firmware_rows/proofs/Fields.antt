-- The row of what stands at a place has seven numbers.
use mathlib.Core.Path.{◌≡◌, refl}
use lib.ListN.{length}
use Rattle.wire.specs.Told.{Told, given, refused}
use Rattle.proto_field.specs.declared.value.Value.TheVariants.{Number, Bytes, Skipped}
use Rattle.proto_field.specs.Fields.{Standing, field, end}
use Rattle.c_firmware_rows.specs.FieldRow.{row_told}

pub row-length : (t : Told Standing) → length (row_told t) ≡ 7
row-length (given (field number (Number v) next)) = refl
row-length (given (field number (Bytes p) next)) = refl
row-length (given (field number (Skipped p) next)) = refl
row-length (given end) = refl
row-length (refused n) = refl
