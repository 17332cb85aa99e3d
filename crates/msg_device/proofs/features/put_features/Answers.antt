use native.Mathlib.Omega.{arith}
use mathlib.Core.List.{[], ◌∷◌}
use Rattle.proto_writer.specs.Writer.{scalar}
use Rattle.proto_writer.proofs.Runs.{message-length, put-field, put-end}
use Rattle.proto_schema.specs.Schema.{features_field, device_attributes_field}
use borrow.Author.Rules.{rules}
use Rattle.msg_device.proofs.features.put_features.Goals as goal

pub put_scalar-next-requires : goal.put_scalar-next-requires
put_scalar-next-requires c =
    let f = c.args.features in
    let second = scalar device_attributes_field f.device_attributes in
    (search rules, omega (arith, c.requires, message-length (scalar features_field f.features) (second ∷ [])))

pub put_scalar-requires : goal.put_scalar-requires
put_scalar-requires c =
    let f = c.args.features in
    let second = scalar device_attributes_field f.device_attributes in
    (search rules, omega (arith, c.requires, c.put_scalar-next.ensures.place, c.put_scalar-next.auto.out, message-length (scalar features_field f.features) (second ∷ []), message-length second []))

pub returns : goal.returns
returns c =
    let f = c.args.features in
    put-field (scalar features_field f.features) (scalar device_attributes_field f.device_attributes ∷ []) c.put_scalar-next.ensures
    (put-field (scalar device_attributes_field f.device_attributes) [] c.put_scalar.ensures (put-end _ _))
