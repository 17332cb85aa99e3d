use Rattle.msg_claims.proofs.RoundTrip.{response-round-trip}
use Rattle.msg_claims.proofs.response.Goals as goal

pub returns : goal.returns
returns c = response-round-trip
