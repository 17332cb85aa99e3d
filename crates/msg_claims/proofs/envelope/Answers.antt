use Rattle.msg_claims.proofs.RoundTrip.{envelope-round-trip}
use Rattle.msg_claims.proofs.envelope.Goals as goal

pub returns : goal.returns
returns c = envelope-round-trip
