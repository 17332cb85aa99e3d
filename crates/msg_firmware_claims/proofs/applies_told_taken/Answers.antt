use Rattle.msg_firmware_claims.proofs.Told.{applies-told-taken}
use Rattle.msg_firmware_claims.proofs.applies_told_taken.Goals as goal

pub returns : goal.returns
returns c = applies-told-taken
