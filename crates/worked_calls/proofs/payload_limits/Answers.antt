use Rattle.worked_calls.proofs.Payloads.{payload-limits}
use Rattle.worked_calls.proofs.payload_limits.Goals as goal

pub returns : goal.returns
returns c = payload-limits
