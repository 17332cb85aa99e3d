use native.Mathlib.Omega.{arith}
use mathlib.Core.Path.{refl}
use Rattle.msg_device.specs.Features.{features_fields, features_written}
use Rattle.proto_writer.proofs.Messages.{wrote-short, wrote}
use Rattle.msg_device.proofs.features.write_features.Goals as goal

pub returns-then-out-features_len : goal.returns-then-out-features_len
unfolding features_written
returns-then-out-features_len c = wrote-short _ (features_fields c.args.features) _ refl (omega (arith, c.features_len.ensures, c.if-out-features_len.true))

pub returns : goal.returns
unfolding features_written
returns c =
    wrote _ (features_fields c.args.features) _ refl (omega (arith, c.features_len.ensures, c.if-out-features_len.false)) c.put_features.ensures
