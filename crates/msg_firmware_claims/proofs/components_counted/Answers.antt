use Rattle.msg_firmware_claims.proofs.ByHand.{components-counted}
use Rattle.msg_firmware_claims.proofs.components_counted.Goals as goal

pub returns : goal.returns
returns c = components-counted
