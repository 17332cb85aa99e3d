use Rattle.msg_claims.proofs.RoundTrip.{information-round-trip}
use Rattle.msg_claims.proofs.information.Goals as goal

pub returns : goal.returns
returns c = information-round-trip
