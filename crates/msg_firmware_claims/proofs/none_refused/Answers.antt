use Rattle.msg_firmware_claims.proofs.Segments.{none-refused}
use Rattle.msg_firmware_claims.proofs.none_refused.Goals as goal

pub returns : goal.returns
returns c = none-refused
