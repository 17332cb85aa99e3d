use Rattle.msg_firmware_claims.proofs.Segments.{segment-round-trip}
use Rattle.msg_firmware_claims.proofs.segment.Goals as goal

pub returns : goal.returns
returns c = segment-round-trip
