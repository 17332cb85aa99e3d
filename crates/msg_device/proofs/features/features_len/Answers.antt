use native.Mathlib.Omega.{arith}
use mathlib.Core.List.{[], ◌∷◌}
use Rattle.proto_writer.specs.Writer.{scalar}
use Rattle.proto_writer.proofs.Runs.{message-length}
use Rattle.proto_schema.specs.Schema.{features_field, device_attributes_field}
use Rattle.msg_device.proofs.features.features_len.Goals as goal

pub returns : goal.returns
returns c =
    let f = c.args.features in
    let second = scalar device_attributes_field f.device_attributes in
    omega (
      arith,
      c.scalar_len.ensures.0,
      c.scalar_len-2.ensures.0,
      message-length (scalar features_field f.features) (second ∷ []),
      message-length second [],
    )
