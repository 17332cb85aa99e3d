use Rattle.capture_reader.proofs.Captured.{captures-hold, captures-only}
use Rattle.capture_judge_claims.proofs.captures_hold_packets.Goals as goal

pub returns : goal.returns
returns c = (captures-hold, captures-only)
