use Prim.Native.Nat.{zero-le}
use mathlib.Core.Path.{sym}
use Rattle.proto_schema.specs.declared.Schema.TheVariants as Schema
use Rattle.proto_field.proofs.Places.{within-get}
use Rattle.proto_schema.specs.Schema.{first, second, third}
use Rattle.proto_reader.specs.Gathered.{no_part}
use Rattle.proto_reader.proofs.Strings.{text-get}
use Rattle.proto_reader.proofs.Steps.{fields_within}
use Rattle.msg_device.proofs.information.read_information.Goals as goal

pub returns-clause-tells_strings : goal.returns-clause-tells_strings
returns-clause-tells_strings c =
    let texts = c.in_ok-gathered.gathered.texts in
    let inside = fields_within Schema.Information _ 0 _ (sym c.in_ok-gathered.ensures) in
    let each = inside.0.1 in (
      (within-get _ texts first no_part zero-le each, (within-get _ texts second no_part zero-le each, (within-get _ texts third no_part zero-le each, tt))),
      (text-get _ texts first inside.2, (text-get _ texts second inside.2, (text-get _ texts third inside.2, tt))),
    )

pub returns-clause-count_le_most_transports : goal.returns-clause-count_le_most_transports
returns-clause-count_le_most_transports c = (fields_within Schema.Information _ 0 _ (sym c.in_ok-gathered.ensures)).1
