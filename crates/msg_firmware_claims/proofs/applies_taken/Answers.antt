use Rattle.msg_firmware_claims.proofs.Premises.{applies-taken}
use Rattle.msg_firmware_claims.proofs.applies_taken.Goals as goal

pub returns : goal.returns
returns c = applies-taken
