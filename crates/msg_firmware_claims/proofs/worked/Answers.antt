use Rattle.msg_firmware_claims.proofs.ByHand.{worked-firmware}
use Rattle.msg_firmware_claims.proofs.worked.Goals as goal

pub returns : goal.returns
returns c = worked-firmware
