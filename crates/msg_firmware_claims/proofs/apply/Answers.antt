use Rattle.msg_firmware_claims.proofs.Applies.{apply-round-trip}
use Rattle.msg_firmware_claims.proofs.apply.Goals as goal

pub returns : goal.returns
returns c = apply-round-trip
