use Rattle.msg_firmware_claims.proofs.Told.{segments-told-taken}
use Rattle.msg_firmware_claims.proofs.segments_told_taken.Goals as goal

pub returns : goal.returns
returns c = segments-told-taken
