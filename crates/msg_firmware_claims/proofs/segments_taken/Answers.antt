use Rattle.msg_firmware_claims.proofs.Premises.{segments-taken}
use Rattle.msg_firmware_claims.proofs.segments_taken.Goals as goal

pub returns : goal.returns
returns c = segments-taken
